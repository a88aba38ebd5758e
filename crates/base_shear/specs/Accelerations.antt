-- The horizontal acceleration as a fraction of gravity, and the code base shear.
use Rattle.std.specs.Prelude.{◌≡◌, ℕ, ◌*◌, ◌≤◌, false, cond, ◌&&◌, List, [], ◌∷◌, nat_le, nat_lt}
use Rattle.rounding.specs.Rounding.{nearest}
use Rattle.standard.specs.declared.fault.Ground.TheVariants.{PeriodTooLong}
use Rattle.standard.specs.declared.fraction.Fraction.{Fraction}
use Rattle.standard.specs.declared.terms.Formula.{Formula}
use Rattle.standard.specs.declared.terms.SiteTerms.{SiteTerms}
use Rattle.standard.specs.Faults.{Refusal, refusal}
use Rattle.standard.specs.Fractions.{fraction, less}
use Rattle.base_shear.specs.Periods.{period_of}
use Rattle.standard.specs.Sites.{zone_number, importance_value, reduction}
use Rattle.spectra.specs.Spectra.{SpectrumLaw}

-- Z/200 × I/R × Sa
abbrev pub reduced : SiteTerms → Fraction → Fraction
reduced s sa = fraction (zone_number s.zone * importance_value s.importance * sa.numerator) (200 * reduction s.system * sa.denominator)

-- Z/200
abbrev pub least_acceleration_of : SiteTerms → Fraction
least_acceleration_of s = fraction (zone_number s.zone) 200

-- A at the period t, by the spectrum `sa`: at least Z/200 up to a period of 100
unfoldable pub acceleration_of : SiteTerms → (ℕ → Fraction) → ℕ → Fraction
acceleration_of s sa t = cond (nat_le t 100 && less (reduced s (sa t)) (least_acceleration_of s)) (least_acceleration_of s) (reduced s (sa t))

-- no acceleration is above 36/25
abbrev pub Acceleration : Fraction → Type 0
Acceleration a = (1 ≤ a.denominator) × (25 * a.numerator ≤ 36 * a.denominator)

pub record AccelerationLaw : Type 0 where
  pub bounded : (s : SiteTerms) (sa : ℕ → Fraction) (t : ℕ) → SpectrumLaw sa → 1 ≤ t → t ≤ 4000 → Acceleration (acceleration_of s sa t)
  pub least : (s : SiteTerms) (sa : ℕ → Fraction) (t : ℕ) → t ≤ 100 → less (acceleration_of s sa t) (least_acceleration_of s) ≡ false

-- the acceleration at the period of a building of height h
abbrev pub acceleration_at : SiteTerms → (ℕ → Fraction) → ℕ → Fraction
acceleration_at s sa h = acceleration_of s sa (period_of s.formula h)

-- the nearest to A × W, for a building of height h and weight w
abbrev pub code_base_shear_of : SiteTerms → (ℕ → Fraction) → ℕ → ℕ → ℕ
code_base_shear_of s sa h w = nearest ((acceleration_at s sa h).numerator * w) (acceleration_at s sa h).denominator

-- no spectrum reaches beyond a period of 4000
abbrev pub period_refusals : Formula → ℕ → List Refusal
period_refusals f h = refusal PeriodTooLong (period_of f h) (nat_lt 4000 (period_of f h)) ∷ []
