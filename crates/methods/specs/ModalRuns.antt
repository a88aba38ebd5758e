-- What the modal method refuses, and what it leaves of each storey.
use Rattle.std.specs.Prelude.{◌≡◌, ℕ, ◌*◌, not, ◌&&◌, List, [], ◌∷◌, ◌++◌, length, Ok, Err, Result, ◌==◌, nat_lt}
use Rattle.standard.specs.declared.fault.Fault.{Fault}
use Rattle.standard.specs.declared.fault.Ground.TheVariants.{NoFloors, ModalWeightShort, NoCombinedShear}
use Rattle.standard.specs.declared.fraction.Fraction.{Fraction}
use Rattle.standard.specs.declared.terms.SiteTerms.{SiteTerms}
use Rattle.standard.specs.Faults.{Refusal, refusal, verdict}
use Rattle.base_shear.specs.Accelerations.{acceleration_of, period_refusals}
use Rattle.combination.specs.declared.response.Response.{Response}
use Rattle.formulas.specs.declared.floor.Floor.{Floor}
use Rattle.formulas.specs.Buildings.{Mode, W}
use Rattle.formulas.specs.Modal.{combined_shear_of, modal_weights, design_shear}
use Rattle.methods.specs.declared.outcome.Outcome.{Outcome}
use Rattle.methods.specs.Loads.{roof_of}
use Rattle.methods.specs.Outcomes.{code_shear, Gives}

-- the combined shear of storey i, by the rule that means q
abbrev pub modal_combined : SiteTerms → (ℕ → Fraction) → (List Response → ℕ) → List Floor → List Mode → ℕ → ℕ
modal_combined s sa q fs ms i = combined_shear_of q (acceleration_of s sa) fs ms i

-- its design shear: scaled by the code base shear over the combined base shear, where that is the smaller
abbrev pub modal_design : SiteTerms → (ℕ → Fraction) → (List Response → ℕ) → List Floor → List Mode → ℕ → ℕ
modal_design s sa q fs ms i = design_shear (code_shear s sa fs) (modal_combined s sa q fs ms 1) (modal_combined s sa q fs ms i)

-- no floors, a period that no spectrum reaches, modal weights below nine tenths of the weight, a combined base shear of 0 where the code's is not
abbrev pub modal_refusals : SiteTerms → (ℕ → Fraction) → (List Response → ℕ) → List Floor → List Mode → List Refusal
modal_refusals s sa q fs ms =
    refusal NoFloors 0 (length fs == 0)
    ∷ (period_refusals s.formula (roof_of fs)
    ++ (refusal ModalWeightShort (modal_weights fs ms) (nat_lt (10 * modal_weights fs ms) (9 * W fs))
    ∷ (refusal NoCombinedShear 0 (modal_combined s sa q fs ms 1 == 0 && not (code_shear s sa fs == 0)) ∷ [])))

-- what the modal method answers for the floors fs and the modes ms
abbrev pub ModalAnswers : SiteTerms → (ℕ → Fraction) → (List Response → ℕ) → List Floor → List Mode → Result Outcome Fault → Type 0
ModalAnswers s sa q fs ms (Ok o) = (verdict (modal_refusals s sa q fs ms) ≡ Ok tt) × Gives (length fs) (modal_combined s sa q fs ms) (modal_design s sa q fs ms) o
ModalAnswers s sa q fs ms (Err f) = verdict (modal_refusals s sa q fs ms) ≡ Err f
