-- Identities of commutative semirings over the native ℕ (+, *, ^ and numerals, no subtraction), by reflection, as `Ring` has them over ℤ: an expression is embedded into ℤ by `pos`.
-- `omega arith` multiplies products out too and is the first thing to try, up to 64 monomials; here the size is not limited, and powers of sums are opened.
-- The names differ from those of `Ring`, so that a file can import both.
-- Assumes nothing.
use Rattle.std.proofs.Common.{◌≡◌, ℕ, zero, suc, ◌+◌, ◌*◌, ◌^◌, List, [], ◌∷◌, map, pos, ◌+ℤ◌, ◌*ℤ◌, nat_abs, sym, refl, ap, ◌∙◌, pow-suc}
use native.Mathlib.Nat.{pow-zero}
use lib.IntN.{one, pow}
use Rattle.rounding.proofs.Ring as R

infixl 6 ◌⊞◌
infixl 7 ◌⊠◌
infixl 9 ◌⇑◌
pub data ExprN : Type 0 where
  var_n : ℕ → ExprN
  lit : ℕ → ExprN
  ◌⊞◌ : ExprN → ExprN → ExprN
  ◌⊠◌ : ExprN → ExprN → ExprN
  ◌⇑◌ : ExprN → ℕ → ExprN

abbrev pub at_n : List ℕ → ℕ → ℕ
at_n [] i = 0
at_n (x ∷ ρ) zero = x
at_n (x ∷ ρ) (suc i) = at_n ρ i

abbrev pub eval_n : List ℕ → ExprN → ℕ
eval_n ρ (var_n i) = at_n ρ i
eval_n ρ (lit c) = c
eval_n ρ (e ⊞ f) = eval_n ρ e + eval_n ρ f
eval_n ρ (e ⊠ f) = eval_n ρ e * eval_n ρ f
eval_n ρ (e ⇑ n) = eval_n ρ e ^ n

abbrev pub over_ℤ : ExprN → R.Expr
over_ℤ (var_n i) = R.var i
over_ℤ (lit c) = R.con (pos c)
over_ℤ (e ⊞ f) = R.◌⊕◌ (over_ℤ e) (over_ℤ f)
over_ℤ (e ⊠ f) = R.◌⊗◌ (over_ℤ e) (over_ℤ f)
over_ℤ (e ⇑ n) = R.◌↑◌ (over_ℤ e) n

abbrev pub leftover_n : ExprN → ExprN → R.Poly
leftover_n e f = R.leftover (over_ℤ e) (over_ℤ f)

at_pos : (ρ : List ℕ) (i : ℕ) → R.at (map pos ρ) i ≡ pos (at_n ρ i)
at_pos [] i = refl
at_pos (x ∷ ρ) zero = refl
at_pos (x ∷ ρ) (suc i) = at_pos ρ i

pub pow_pos : (x n : ℕ) → pow (pos x) n ≡ pos (x ^ n)
unfolding pow one
pow_pos x zero = ap pos (sym (pow-zero x))
pow_pos x (suc n) = ap (λ z. z *ℤ pos x) (pow_pos x n) ∙ ap pos (sym (pow-suc x n))

eval_pos : (ρ : List ℕ) (e : ExprN) → R.eval (map pos ρ) (over_ℤ e) ≡ pos (eval_n ρ e)
eval_pos ρ (var_n i) = at_pos ρ i
eval_pos ρ (lit c) = refl
eval_pos ρ (e ⊞ f) = λ i. eval_pos ρ e i +ℤ eval_pos ρ f i
eval_pos ρ (e ⊠ f) = λ i. eval_pos ρ e i *ℤ eval_pos ρ f i
eval_pos ρ (e ⇑ n) = ap (λ z. pow z n) (eval_pos ρ e) ∙ pow_pos (eval_n ρ e) n

-- the solver: the premise is `refl`
pub solve_n : (ρ : List ℕ) (e f : ExprN) → leftover_n e f ≡ R.none → eval_n ρ e ≡ eval_n ρ f
solve_n ρ e f h = ap nat_abs (sym (eval_pos ρ e) ∙ R.solve (map pos ρ) (over_ℤ e) (over_ℤ f) h ∙ eval_pos ρ f)

-- the same with the variables as those of a λ: `semiring₂ (λ a b. a ⊠ b) (λ a b. b ⊠ a) refl x y : x * y ≡ y * x`
pub semiring₁ : (f g : ExprN → ExprN) → leftover_n (f (var_n 0)) (g (var_n 0)) ≡ R.none → (x : ℕ) → eval_n (x ∷ []) (f (var_n 0)) ≡ eval_n (x ∷ []) (g (var_n 0))
semiring₁ f g h x = solve_n (x ∷ []) (f (var_n 0)) (g (var_n 0)) h

pub semiring₂ : (f g : ExprN → ExprN → ExprN) → leftover_n (f (var_n 0) (var_n 1)) (g (var_n 0) (var_n 1)) ≡ R.none → (x y : ℕ) → eval_n (x ∷ y ∷ []) (f (var_n 0) (var_n 1)) ≡ eval_n (x ∷ y ∷ []) (g (var_n 0) (var_n 1))
semiring₂ f g h x y = solve_n (x ∷ y ∷ []) (f (var_n 0) (var_n 1)) (g (var_n 0) (var_n 1)) h

pub semiring₃ : (f g : ExprN → ExprN → ExprN → ExprN) → leftover_n (f (var_n 0) (var_n 1) (var_n 2)) (g (var_n 0) (var_n 1) (var_n 2)) ≡ R.none → (x y z : ℕ) → eval_n (x ∷ y ∷ z ∷ []) (f (var_n 0) (var_n 1) (var_n 2)) ≡ eval_n (x ∷ y ∷ z ∷ []) (g (var_n 0) (var_n 1) (var_n 2))
semiring₃ f g h x y z = solve_n (x ∷ y ∷ z ∷ []) (f (var_n 0) (var_n 1) (var_n 2)) (g (var_n 0) (var_n 1) (var_n 2)) h

pub semiring₄ : (f g : ExprN → ExprN → ExprN → ExprN → ExprN) → leftover_n (f (var_n 0) (var_n 1) (var_n 2) (var_n 3)) (g (var_n 0) (var_n 1) (var_n 2) (var_n 3)) ≡ R.none → (x y z u : ℕ) → eval_n (x ∷ y ∷ z ∷ u ∷ []) (f (var_n 0) (var_n 1) (var_n 2) (var_n 3)) ≡ eval_n (x ∷ y ∷ z ∷ u ∷ []) (g (var_n 0) (var_n 1) (var_n 2) (var_n 3))
semiring₄ f g h x y z u = solve_n (x ∷ y ∷ z ∷ u ∷ []) (f (var_n 0) (var_n 1) (var_n 2) (var_n 3)) (g (var_n 0) (var_n 1) (var_n 2) (var_n 3)) h

pub semiring₅ : (f g : ExprN → ExprN → ExprN → ExprN → ExprN → ExprN) → leftover_n (f (var_n 0) (var_n 1) (var_n 2) (var_n 3) (var_n 4)) (g (var_n 0) (var_n 1) (var_n 2) (var_n 3) (var_n 4)) ≡ R.none → (x y z u v : ℕ) → eval_n (x ∷ y ∷ z ∷ u ∷ v ∷ []) (f (var_n 0) (var_n 1) (var_n 2) (var_n 3) (var_n 4)) ≡ eval_n (x ∷ y ∷ z ∷ u ∷ v ∷ []) (g (var_n 0) (var_n 1) (var_n 2) (var_n 3) (var_n 4))
semiring₅ f g h x y z u v = solve_n (x ∷ y ∷ z ∷ u ∷ v ∷ []) (f (var_n 0) (var_n 1) (var_n 2) (var_n 3) (var_n 4)) (g (var_n 0) (var_n 1) (var_n 2) (var_n 3) (var_n 4)) h

pub semiring₆ : (f g : ExprN → ExprN → ExprN → ExprN → ExprN → ExprN → ExprN) → leftover_n (f (var_n 0) (var_n 1) (var_n 2) (var_n 3) (var_n 4) (var_n 5)) (g (var_n 0) (var_n 1) (var_n 2) (var_n 3) (var_n 4) (var_n 5)) ≡ R.none → (x y z u v w : ℕ) → eval_n (x ∷ y ∷ z ∷ u ∷ v ∷ w ∷ []) (f (var_n 0) (var_n 1) (var_n 2) (var_n 3) (var_n 4) (var_n 5)) ≡ eval_n (x ∷ y ∷ z ∷ u ∷ v ∷ w ∷ []) (g (var_n 0) (var_n 1) (var_n 2) (var_n 3) (var_n 4) (var_n 5))
semiring₆ f g h x y z u v w = solve_n (x ∷ y ∷ z ∷ u ∷ v ∷ w ∷ []) (f (var_n 0) (var_n 1) (var_n 2) (var_n 3) (var_n 4) (var_n 5)) (g (var_n 0) (var_n 1) (var_n 2) (var_n 3) (var_n 4) (var_n 5)) h
