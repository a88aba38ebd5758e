-- By any rule, the combined size is at most the sum of the sizes. Assumes nothing.
use Rattle.std.specs.Prelude.{◌≡◌, ℕ, ◌*◌, ◌≤◌, List, [], ◌∷◌, map, pos, refl}
use Rattle.std.proofs.Common.{sym, arith}
use Rattle.std.proofs.Math.IntN.{+ℤ_idl, +ℤ_idr}
use Rattle.rounding.proofs.Order.{RootLe, root_le, root_sum}
use Rattle.combination.specs.declared.response.Response.{Response}
use Rattle.combination.specs.Values.{mode, size, total}
use Rattle.combination.specs.Laws.{LoneLaw, TriangleLaw, Nought, Added, none, more, here, later}

-- the triangle law without cases
pub rooted : (q : List Response → ℕ) → TriangleLaw q → (a b c : List Response) → Added a b c → RootLe (q c) (q a) (q b)
rooted q triangle a b c s = root_le (q c) (q a) (q b) (triangle a b c s)

abbrev zeroed : List Response → List Response
zeroed xs = map (λ x. mode x.period (pos 0)) xs

zeroed_nought : (xs : List Response) → Nought (zeroed xs)
zeroed_nought [] = none
zeroed_nought (x ∷ xs) = more x.period (zeroed_nought xs)

zero_plus : (xs : List Response) → Added (zeroed xs) xs xs
zero_plus [] = none
zero_plus (x ∷ xs) = more x.period (pos 0) x.value x.value (sym (+ℤ_idl x.value)) (zero_plus xs)

-- a list is its first value alone and the rest; after a value of nought, q keeps its laws
pub at_most_total : (q : List Response → ℕ) → LoneLaw q → TriangleLaw q → (xs : List Response) → q xs ≤ total xs * total xs
at_most_total q lone triangle [] = omega (arith, lone (pos 0) [] (none refl))
at_most_total q lone triangle (y ∷ ys) =
    let a : q (y ∷ zeroed ys) ≡ size y * size y = lone y.value _ (here y.period (zeroed_nought ys)) in
    let b : q (mode y.period (pos 0) ∷ ys) ≤ total ys * total ys = at_most_total (λ xs. q (mode y.period (pos 0) ∷ xs)) (λ v xs l. lone v _ (later y.period l)) (λ us vs ws s. triangle _ _ _ (more y.period (pos 0) (pos 0) (pos 0) refl s)) ys in
    let s : Added (y ∷ zeroed ys) (mode y.period (pos 0) ∷ ys) (y ∷ ys) = more y.period y.value (pos 0) y.value (sym (+ℤ_idr y.value)) (zero_plus ys) in
    root_sum _ _ _ (size y) (total ys) (rooted q triangle _ _ _ s) (omega arith) b
