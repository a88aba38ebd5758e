-- Newton's steps to a whole root. Assumes nothing.
use Rattle.std.proofs.Common.{◌≡◌, ℕ, ◌+◌, ◌*◌, ◌/◌, ◌%◌, ◌^◌, ◌<◌, ◌≤◌, ap, ◌∙◌, inl, inr, mod-eq_of_lt, mul-le-mul_left, one-mul, arith}
use native.Mathlib.Nat.{mul-div-le, lt-mul-div-succ, div-le_of_le-mul}
use Rattle.std.proofs.lemmas.Nat.{pow-add, pow_pos}
use Rattle.std.proofs.Math.Pow.{pow_mono}
use Rattle.std.proofs.lemmas.Bool.{cases_lt}
use Rattle.rounding.proofs.Order.{sq_mono, four_mul_le}

-- ---- one step from any x

module _ (q x : ℕ) (some : 1 ≤ x) where
  -- no step is below the root of q
  pub step_above : q < ((x + q / x) / 2 + 1) * ((x + q / x) / 2 + 1)
  step_above =
      let a : q < x * (q / x + 1) = lt-mul-div-succ q some in
      let b = four_mul_le x (q / x + 1) in
      let h : x + (q / x + 1) ≤ 2 * ((x + q / x) / 2 + 1) = omega arith in
      let s : (x + (q / x + 1)) * (x + (q / x + 1)) ≤ 2 * ((x + q / x) / 2 + 1) * (2 * ((x + q / x) / 2 + 1)) = sq_mono h in
      far ((x + q / x) / 2 + 1) (x * (q / x + 1)) ((x + (q / x + 1)) * (x + (q / x + 1))) a b s
    where
      far : (n p s : ℕ) → q < p → 4 * p ≤ s → s ≤ 2 * n * (2 * n) → q < n * n
      far n p s a b h = omega arith

  pub step_some : 1 ≤ q → 1 ≤ (x + q / x) / 2
  step_some positive =
      elim (cases_lt 1 x) [
        | inl l ↦ omega arith
        | inr l ↦ one x (q / x) (omega arith) (lt-mul-div-succ q some) positive
      ]
    where
      one : (x d : ℕ) → x ≡ 1 → q < x * (d + 1) → 1 ≤ q → 1 ≤ (x + d) / 2
      one x d e a p = let m : x * (d + 1) ≡ 1 * (d + 1) = ap (λ (n : ℕ). n * (d + 1)) e in omega arith

  -- where the step does not fall, x is not above the root
  pub step_last : x ≤ (x + q / x) / 2 → x * x ≤ q
  step_last l = let h : x * x ≤ x * (q / x) = mul-le-mul_left x (omega arith) in omega (arith, h, mul-div-le q x)

  -- from above the root, the quotient is no more than a little larger than x
  pub quotient_small : q < (x + 1) * (x + 1) → q / x ≤ x + 2
  quotient_small above =
      elim (cases_lt (x + 2) (q / x)) [
        | inl l ↦ (let h : x * (x + 3) ≤ x * (q / x) = mul-le-mul_left x (omega arith) in absurd (omega (arith, h, mul-div-le q x)))
        | inr l ↦ l
      ]

-- ---- the first step, from a power of two near the root of q, which is below twice the power k

module _ (q k : ℕ) (small : k < 64) (low : q < 2 * 2 ^ k) where
  near : 2 ^ ((k + 1) / 2) ≤ 2 ^ 32
  near = pow_mono {i = (k + 1) / 2} {j = 32} (omega arith)

  -- k + 1 is twice its half, or one more
  over : q / 2 ^ ((k + 1) / 2) ≤ 2 ^ 32
  over =
      elim (cases_lt k ((k + 1) / 2 + (k + 1) / 2)) [
        | inl l ↦ (let e : k + 1 ≡ (k + 1) / 2 + (k + 1) / 2 = omega arith in
            let b = div-le_of_le-mul (2 ^ ((k + 1) / 2)) {m = q} {n = 2 ^ ((k + 1) / 2)} (omega (arith, ap (λ (n : ℕ). 2 ^ n) e, pow-add 2 k 1, pow-add 2 ((k + 1) / 2) ((k + 1) / 2))) in
            omega (arith, b, near))
        | inr l ↦ (let e : k ≡ (k + 1) / 2 + (k + 1) / 2 = omega arith in
            let b = div-le_of_le-mul (2 ^ ((k + 1) / 2)) {m = q} {n = 2 * 2 ^ ((k + 1) / 2)} (omega (arith, ap (λ (n : ℕ). 2 ^ n) e, pow-add 2 ((k + 1) / 2) ((k + 1) / 2))) in
            omega (arith, b, pow_mono {i = (k + 1) / 2} {j = 31} (omega arith)))
      ]

  -- the power as a shift has it
  shifted : 1 * 2 ^ ((k + 1) / 2) % 2 ^ 64 ≡ 2 ^ ((k + 1) / 2)
  shifted = mod-eq_of_lt {n = 1 * 2 ^ ((k + 1) / 2)} (omega (arith, near)) ∙ one-mul (2 ^ ((k + 1) / 2))

  pub first_fits : 1 * 2 ^ ((k + 1) / 2) % 2 ^ 64 + q / 2 ^ ((k + 1) / 2) < 2 ^ 64
  first_fits = omega (arith, shifted, near, over)

  from : (x : ℕ) → x ≡ 2 ^ ((k + 1) / 2) → 1 ≤ q → (1 ≤ (x + q / 2 ^ ((k + 1) / 2)) / 2) × ((x + q / 2 ^ ((k + 1) / 2)) / 2 ≤ 2 ^ 32) × (q < ((x + q / 2 ^ ((k + 1) / 2)) / 2 + 1) * ((x + q / 2 ^ ((k + 1) / 2)) / 2 + 1))
  from x e some =
      let p = pow_pos ((k + 1) / 2) in
      rw e (step_some q (2 ^ ((k + 1) / 2)) p some, omega (arith, near, over), step_above q (2 ^ ((k + 1) / 2)) p)

  pub first_step : 1 ≤ q → (1 ≤ (1 * 2 ^ ((k + 1) / 2) % 2 ^ 64 + q / 2 ^ ((k + 1) / 2)) / 2) × ((1 * 2 ^ ((k + 1) / 2) % 2 ^ 64 + q / 2 ^ ((k + 1) / 2)) / 2 ≤ 2 ^ 32) × (q < ((1 * 2 ^ ((k + 1) / 2) % 2 ^ 64 + q / 2 ^ ((k + 1) / 2)) / 2 + 1) * ((1 * 2 ^ ((k + 1) / 2) % 2 ^ 64 + q / 2 ^ ((k + 1) / 2)) / 2 + 1))
  first_step some = from (1 * 2 ^ ((k + 1) / 2) % 2 ^ 64) shifted some

-- what a first step and the steps after it owe
pub ruleset steps = (first_fits, first_step, quotient_small, step_above, step_last, step_some)
