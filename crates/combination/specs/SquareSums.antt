-- What adds up the squares of the sizes keeps the laws of a rule. Assumes nothing.
use Rattle.std.specs.Prelude.{◌≡◌, ℕ, ◌+◌, ◌*◌, ◌≤◌, List, [], ◌∷◌, ℤ, pos, ◌*ℤ◌, unsigned_abs, refl}
use Rattle.std.proofs.Common.{arith}
use Rattle.rounding.proofs.Order.{sq_mono, nat_abs_mul}
use Rattle.combination.specs.declared.response.Response.{Response}
use Rattle.combination.specs.Values.{mode, size}
use Rattle.combination.specs.Laws.{LoneLaw, ScaleLaw, TriangleLaw, RiseLaw, Laws, scaled, Nought, Lone, Added, RaisedOne, none, more, here, later}
use Rattle.combination.specs.Numbers.{cauchy_step, root_by, root_cases, nat_abs_sum}

-- the sum of the products of the sizes, place by place
cross : {a b c : List Response} → Added a b c → ℕ
cross none = 0
cross (more p x y z e s) = cross s + unsigned_abs x * unsigned_abs y

-- q is 0 of no values, and of one value more it is larger by the square of its size
module _ (q : List Response → ℕ) (start : q [] ≡ 0) (step : (x : Response) (xs : List Response) → q (x ∷ xs) ≡ size x * size x + q xs) where
  nought : {xs : List Response} → Nought xs → q xs ≡ 0
  nought none = start
  nought (more p {xs} n) = omega (arith, step (mode p (pos 0)) xs, nought n)

  lone_of : {v : ℤ} {xs : List Response} → Lone v xs → q xs ≡ unsigned_abs v * unsigned_abs v
  lone_of (none e) = rw (e, start) refl
  lone_of {v} (here p {xs} n) = omega (arith, step (mode p v) xs, nought n)
  lone_of (later p {xs} l) = omega (arith, step (mode p (pos 0)) xs, lone_of l)

  pub lone : LoneLaw q
  lone v xs l = lone_of l

  pub scale : ScaleLaw q
  scale d [] = rw start (omega arith)
  scale d (x ∷ xs) = rw (step (mode x.period (d *ℤ x.value)) (scaled d xs), step x xs) (simp nat_abs_mul (omega (arith, scale d xs)))

  below : {a b c : List Response} (s : Added a b c) → q c ≤ q a + q b + 2 * cross s
  unfolding cross
  below none = omega (arith, start)
  below (more p x y z {us} {vs} {ws} e s) = omega (arith, step (mode p x) us, step (mode p y) vs, step (mode p z) ws, sq_mono (nat_abs_sum x y z e), below s)

  cross_le : {a b c : List Response} (s : Added a b c) → cross s * cross s ≤ q a * q b
  unfolding cross
  cross_le none = rw (start) (omega arith)
  cross_le (more p x y z {us} {vs} {ws} e s) = rw (step (mode p x) us, step (mode p y) vs) (omega (arith, cauchy_step _ _ _ (unsigned_abs x) (unsigned_abs y) (cross_le s)))

  pub triangle : TriangleLaw q
  triangle a b c s = root_cases _ _ _ (root_by _ _ _ (cross s) (below s) (cross_le s))

  rise_of : {a b : List Response} → RaisedOne a b → q a ≤ q b
  rise_of (here p m n {xs} h s) = omega (arith, step (mode p (pos m)) xs, step (mode p (pos n)) xs, sq_mono h)
  rise_of (later p n {us} {vs} r) = omega (arith, step (mode p (pos n)) us, step (mode p (pos n)) vs, rise_of r)

  pub rise : RiseLaw q
  rise a b r = rise_of r

  pub laws : Laws q
  laws = record { lone = lone; scale = scale; triangle = triangle; rise = rise }
