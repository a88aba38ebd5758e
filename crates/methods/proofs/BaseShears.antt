-- The code base shear of floors is at most 720,000. Assumes nothing.
use Rattle.std.proofs.Common.{◌≡◌, ℕ, ◌≤◌, ltb, List, Ok, Err, inl, inr, arith}
use Rattle.std.proofs.lemmas.Bool.{cases_Bool, ltb-false, cond-true}
use Rattle.standard.specs.declared.fault.Fault.{Fault}
use Rattle.standard.specs.declared.fault.Ground.TheVariants.{PeriodTooLong}
use Rattle.standard.specs.declared.fraction.Fraction.{Fraction}
use Rattle.standard.specs.declared.terms.SiteTerms.{SiteTerms}
use Rattle.standard.specs.Faults.{Verdict, verdict, fault}
use Rattle.spectra.specs.Spectra.{SpectrumLaw}
use Rattle.base_shear.specs.Accelerations.{period_refusals, Acceleration, acceleration_at}
use Rattle.base_shear.specs.Periods.{period_of, BaseGoes}
use Rattle.base_shear.proofs.Accelerations.{bounded}
use Rattle.base_shear.proofs.Periods.{some}
use Rattle.formulas.specs.declared.floor.Floor.{Floor}
use Rattle.formulas.specs.Buildings.{W, heaviest}
use Rattle.formulas.proofs.Static.{base_size_lem}
use Rattle.methods.specs.Loads.{roof_of}
use Rattle.methods.specs.Outcomes.{code_shear}

-- a period that is not refused is at most 4000
pub period_within : (s : SiteTerms) (h : ℕ) → verdict (period_refusals s.formula h) ≡ Ok tt → period_of s.formula h ≤ 4000
period_within s h e =
    elim (cases_Bool (ltb 4000 (period_of s.formula h))) [
      | inl b ↦ absurd (never _ (fault PeriodTooLong (period_of s.formula h)) e (cond-true _ _ _ b))
      | inr b ↦ ltb-false _ _ b
    ]
  where
    never : (r : Verdict) (f : Fault) → r ≡ Ok tt → r ≡ Err f → ⊥
    never r f p q = let z : ◌≡◌ {A = ℕ} 0 1 = cc in omega arith

pub acceleration_within : (s : SiteTerms) (sa : ℕ → Fraction) (h : ℕ) → SpectrumLaw sa → BaseGoes s.formula → 20 ≤ h → verdict (period_refusals s.formula h) ≡ Ok tt → Acceleration (acceleration_at s sa h)
acceleration_within s sa h law goes low e = bounded s sa (period_of s.formula h) law (some s.formula h goes low) (period_within s h e)

pub base_within : (s : SiteTerms) (sa : ℕ → Fraction) (fs : List Floor) → SpectrumLaw sa → BaseGoes s.formula → 20 ≤ roof_of fs → W fs ≤ heaviest → verdict (period_refusals s.formula (roof_of fs)) ≡ Ok tt → code_shear s sa fs ≤ 720000
base_within s sa fs law goes low light e = base_size_lem (acceleration_at s sa (roof_of fs)) fs (acceleration_within s sa (roof_of fs) law goes low e) light
