-- The laws of periods. Assumes nothing.
use Rattle.std.proofs.Common.{◌≡◌, ℕ, ◌+◌, ◌-◌, ◌*◌, ◌/◌, ◌^◌, ◌<◌, ◌≤◌, true, false, leb, refl, ap, subst, inl, inr, le_trans, mul-le-mul_right, mul-le-mul, div-mul-le_self, arith}
use native.Mathlib.Nat.{pow-le-pow_left, pow-le-pow_right, lt-div-mul-add}
use Rattle.std.proofs.lemmas.Bool.{ltb-true, lt-ltb, le-ltb, cases_lt, cases_eq, both_ways, leb-true, and_parts}
use Rattle.rounding.proofs.Order.{sq_mono}
use Rattle.rounding.proofs.Semiring.{◌⊠◌, ◌⇑◌, semiring₁}
use Rattle.rounding.proofs.Least.{smallest_least, least_only}
use Rattle.standard.specs.declared.terms.Formula.{Formula}
use Rattle.standard.specs.declared.terms.Formula.TheVariants.{ConcreteFrame, SteelFrame, Other}
use Rattle.base_shear.specs.Periods.{passes, enough, period_of, IsPeriod, BaseGoes, PeriodLaw}

-- what is above a number that passes passes too
above : (s t : ℕ) → s ≤ t → 2 * s + 1 ≤ 2 * t + 1
above s t l = omega arith

passes_up : (f : Formula) (h s t : ℕ) → s ≤ t → passes f h s ≡ true → passes f h t ≡ true
passes_up ConcreteFrame h s t l p = lt-ltb _ _ (le_trans (ltb-true _ _ p) (pow-le-pow_left (above s t l) 4))
passes_up SteelFrame h s t l p = lt-ltb _ _ (le_trans (ltb-true _ _ p) (pow-le-pow_left (above s t l) 4))
passes_up (Other d) h s t l p = lt-ltb _ _ (le_trans (ltb-true _ _ p) (mul-le-mul_right d (pow-le-pow_left (above s t l) 2)))

pub first_passing : (f : Formula) (h t : ℕ) → passes f h t ≡ true → 0 < t → passes f h (t - 1) ≡ false → IsPeriod f h t
first_passing f h t p pos fails = (p, λ s q. elim (cases_lt s t) [ inl l ↦ absurd (both_ways _ fails (passes_up f h s (t - 1) (omega arith) q)) | inr l ↦ l ])

power_one : (x : ℕ) → x ^ 1 ≡ x
power_one = semiring₁ (λ a. a ⇑ 1) (λ a. a) refl

power_two : (x : ℕ) → x ^ 2 ≡ x * x
power_two = semiring₁ (λ a. a ⇑ 2) (λ a. a ⊠ a) refl

-- any number is below a power of the odd one after its double
odd_power : (b k : ℕ) → 1 ≤ k → b < (2 * b + 1) ^ k
odd_power b k p = let x : 1 ≤ 2 * b + 1 = omega arith in let h : (2 * b + 1) ^ 1 ≤ (2 * b + 1) ^ k = pow-le-pow_right x p in omega (arith, power_one (2 * b + 1), h)

least : (f : Formula) (h : ℕ) → BaseGoes f → IsPeriod f h (period_of f h)
unfolding period_of
least ConcreteFrame h g = smallest_least (passes ConcreteFrame h) (enough ConcreteFrame h) (lt-ltb _ _ (odd_power (506250 * h ^ 3) 4 (omega arith)))
least SteelFrame h g = smallest_least (passes SteelFrame h) (enough SteelFrame h) (lt-ltb _ _ (odd_power (835210 * h ^ 3) 4 (omega arith)))
least (Other d) h g =
    let b = and_parts (leb 20 d) (leb d 5000) g in
    let m : (2 * (3240 * h ^ 2) + 1) ^ 2 * 1 ≤ (2 * (3240 * h ^ 2) + 1) ^ 2 * d = mul-le-mul (omega arith) (omega (arith, leb-true 20 d b.0)) in
    smallest_least (passes (Other d) h) (enough (Other d) h) (lt-ltb _ _ (omega (arith, odd_power (3240 * h ^ 2) 2 (omega arith), m)))

-- no period of a building is 0
not_nought : (f : Formula) (h : ℕ) → BaseGoes f → 20 ≤ h → passes f h 0 ≡ false
not_nought ConcreteFrame h g p = le-ltb _ _ (let m : 20 ^ 3 ≤ h ^ 3 = pow-le-pow_left p 3 in omega arith)
not_nought SteelFrame h g p = le-ltb _ _ (let m : 20 ^ 3 ≤ h ^ 3 = pow-le-pow_left p 3 in omega arith)
not_nought (Other d) h g p =
    let b = leb-true d 5000 (and_parts (leb 20 d) (leb d 5000) g).1 in
    le-ltb _ _ (let m : 20 ^ 2 ≤ h ^ 2 = pow-le-pow_left p 2 in omega arith)

pub some : (f : Formula) (h : ℕ) → BaseGoes f → 20 ≤ h → 1 ≤ period_of f h
some f h g p =
    elim (cases_eq (period_of f h) 0) [
      | inl z ↦ absurd (both_ways (passes f h 0) (not_nought f h g p) (subst (λ (t : ℕ). passes f h t ≡ true) z (least f h g).0))
      | inr n ↦ omega arith
    ]

pub period_law : PeriodLaw
period_law = record { least = least; some = some }

-- the period is the only such number
pub period_only : (f : Formula) (h t : ℕ) → BaseGoes f → IsPeriod f h t → t ≡ period_of f h
period_only f h t g p = least_only (λ s. passes f h s ≡ true) t (period_of f h) p (least f h g)

-- the third formula: half of the root of q, rounded up, where q is the whole part of 3240 h² / d
module _ (h d root : ℕ) (p : 1 ≤ d) (low : root * root ≤ 3240 * h * h / d) (high : 3240 * h * h / d < (root + 1) * (root + 1)) where
  squared_up : (t : ℕ) → root + 1 ≤ 2 * t + 1 → 3240 * h ^ 2 < (2 * t + 1) ^ 2 * d
  squared_up t over =
      let a : (root + 1) * (root + 1) * d ≤ (2 * t + 1) * (2 * t + 1) * d = mul-le-mul_right d (sq_mono over) in
      let b : (3240 * h * h / d + 1) * d ≤ (root + 1) * (root + 1) * d = mul-le-mul_right d (omega arith) in
      let e = ap (λ (x : ℕ). x * d) (power_two (2 * t + 1)) in
      let f = ap (λ (x : ℕ). 3240 * x) (power_two h) in
      omega (arith, a, b, e, f, lt-div-mul-add {a = 3240 * h * h} {b = d} p)

  squared_down : (s : ℕ) → 2 * s + 1 ≤ root → 3240 * h ^ 2 < (2 * s + 1) ^ 2 * d → ⊥
  squared_down s under l =
      let a : (2 * s + 1) * (2 * s + 1) * d ≤ 3240 * h * h / d * d = mul-le-mul_right d (le_trans (sq_mono under) low) in
      let e = ap (λ (x : ℕ). x * d) (power_two (2 * s + 1)) in
      let f = ap (λ (x : ℕ). 3240 * x) (power_two h) in
      omega (arith, a, e, f, div-mul-le_self (3240 * h * h) d)

  pub other_least : IsPeriod (Other d) h ((root + 1) / 2)
  other_least = (
    lt-ltb _ _ (squared_up ((root + 1) / 2) (omega (arith, lt-div-mul-add {a = root + 1} {b = 2} (omega arith)))),
    λ s passed. elim (cases_lt s ((root + 1) / 2)) [ inl b ↦ absurd (squared_down s (omega (arith, div-mul-le_self (root + 1) 2)) (ltb-true _ _ passed)) | inr b ↦ b ],
  )
