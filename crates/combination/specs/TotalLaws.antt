-- The square of the sum of the sizes keeps the laws. Assumes nothing.
use Rattle.std.specs.Prelude.{◌≡◌, ◌+◌, ◌*◌, ◌≤◌, List, [], ◌∷◌, ℤ, unsigned_abs, refl}
use Rattle.std.proofs.Common.{sym, ap, arith}
use Rattle.rounding.proofs.Order.{sq_mono, nat_abs_mul}
use Rattle.combination.specs.declared.response.Response.{Response}
use Rattle.combination.specs.Values.{total}
use Rattle.combination.specs.Squared.{squared_total}
use Rattle.combination.specs.Laws.{LoneLaw, ScaleLaw, TriangleLaw, RiseLaw, Laws, scaled, Nought, Lone, Added, RaisedOne, none, more, here, later}
use Rattle.combination.specs.Numbers.{root_by, root_cases, nat_abs_sum}

nought : {xs : List Response} → Nought xs → total xs ≡ 0
nought none = refl
nought (more p n) = omega (arith, nought n)

total_lone : {v : ℤ} {xs : List Response} → Lone v xs → total xs ≡ unsigned_abs v
total_lone (none e) = ap unsigned_abs (sym e)
total_lone (here p n) = omega (arith, nought n)
total_lone (later p l) = omega (arith, total_lone l)

total_scaled : (d : ℤ) (xs : List Response) → total (scaled d xs) ≡ unsigned_abs d * total xs
total_scaled d [] = omega arith
total_scaled d (x ∷ xs) = simp nat_abs_mul (omega (arith, total_scaled d xs))

total_added : {a b c : List Response} → Added a b c → total c ≤ total a + total b
total_added none = omega arith
total_added (more p x y z e s) = omega (arith, nat_abs_sum x y z e, total_added s)

total_raised : {a b : List Response} → RaisedOne a b → total a ≤ total b
total_raised (here p m n h s) = omega arith
total_raised (later p n r) = omega (arith, total_raised r)

pub lone : LoneLaw squared_total
lone v xs l = ap (λ n. n * n) (total_lone l)

pub scale : ScaleLaw squared_total
scale d xs = rw (total_scaled d xs) (omega arith)

pub triangle : TriangleLaw squared_total
triangle a b c s = root_cases _ _ _ (root_by _ _ _ (total a * total b) (omega (arith, sq_mono (total_added s))) (omega arith))

pub rise : RiseLaw squared_total
rise a b r = sq_mono (total_raised r)

pub laws : Laws squared_total
laws = record { lone = lone; scale = scale; triangle = triangle; rise = rise }
