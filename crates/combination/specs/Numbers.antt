-- Squares and roots. Assumes nothing.
use Rattle.std.specs.Prelude.{◌≡◌, ℕ, ◌+◌, ◌-◌, ◌*◌, ◌≤◌, ◌⊎◌, ℤ, ◌+ℤ◌, unsigned_abs}
use Rattle.std.proofs.Common.{inl, inr, mul-le-mul_right, arith}
use Rattle.std.proofs.Math.Decide.{dec_le}
use Rattle.std.proofs.lemmas.Int.{ints}
use Rattle.rounding.specs.Roots.{root}
use Rattle.rounding.proofs.Roots.{near}
use Rattle.rounding.proofs.Order.{RootLe, sq_le, sq_mono, four_mul_le}

-- one step of the inequality of Cauchy and Schwarz
pub cauchy_step : (p a b x y : ℕ) → p * p ≤ a * b → (p + x * y) * (p + x * y) ≤ (a + x * x) * (b + y * y)
cauchy_step p a b x y h =
    let k : (2 * (p * (x * y))) * (2 * (p * (x * y))) ≤ (a * (y * y) + b * (x * x)) * (a * (y * y) + b * (x * x)) = omega (arith, mul-le-mul_right (4 * ((x * y) * (x * y))) h, four_mul_le (a * (y * y)) (b * (x * x))) in
    let r : 2 * (p * (x * y)) ≤ a * (y * y) + b * (x * x) = sq_le _ _ k in
    omega arith

-- √c ≤ √a + √b, since c ≤ a + b + 2 t, with t at most the root of a b
pub root_by : (a b c t : ℕ) → c ≤ a + b + 2 * t → t * t ≤ a * b → RootLe c a b
root_by a b c t h k =
    let l : c - (a + b) ≤ 2 * t = omega arith in
    omega (arith, sq_mono l)

-- the same in two cases
pub root_cases : (c a b : ℕ) → RootLe c a b → (c ≤ a + b) ⊎ ((c - a - b) * (c - a - b) ≤ 4 * (a * b))
root_cases c a b h = elim (dec_le c (a + b)) [ yes l ↦ inl l | no l ↦ inr (let e : c - a - b ≡ c - (a + b) = omega arith in rw e h) ]

-- the nearest root of what is at most a square
pub root_at_most : (q s : ℕ) → q ≤ s * s → root q ≤ s
root_at_most q s h =
    let l : (2 * root q - 1) * (2 * root q - 1) ≤ (2 * s) * (2 * s) = omega (arith, (near q).low) in
    let m : 2 * root q - 1 ≤ 2 * s = sq_le _ _ l in
    omega arith

pub nat_abs_sum : (x y z : ℤ) → z ≡ x +ℤ y → unsigned_abs z ≤ unsigned_abs x + unsigned_abs y
nat_abs_sum x y z e = omega (arith, ints)
