-- What a method leaves of each storey.
use Rattle.std.specs.Prelude.{◌≡◌, ℕ, zero, suc, ◌+◌, ◌-◌, ◌<◌, List, [], ◌∷◌, ◌++◌, length, pos, Ok, Err, Result, slice_index_or}
use Rattle.standard.specs.declared.fault.Fault.{Fault}
use Rattle.standard.specs.Faults.{verdict}
use Rattle.standard.specs.declared.fraction.Fraction.{Fraction}
use Rattle.standard.specs.declared.terms.SiteTerms.{SiteTerms}
use Rattle.base_shear.specs.Accelerations.{code_base_shear_of, period_refusals}
use Rattle.formulas.specs.declared.floor.Floor.{Floor}
use Rattle.formulas.specs.Buildings.{W}
use Rattle.formulas.specs.Forces.{force_of}
use Rattle.formulas.specs.Static.{static_shear}
use Rattle.methods.specs.declared.outcome.Outcome.{Outcome}
use Rattle.methods.specs.declared.outcome.Storey.{Storey}
use Rattle.methods.specs.declared.scale.BaseShear.{BaseShear}
use Rattle.methods.specs.Loads.{roof_of}
use Rattle.methods.specs.Refusals.{static_refusals}

-- the code base shear of a building
abbrev pub code_shear : SiteTerms → (ℕ → Fraction) → List Floor → ℕ
code_shear s sa fs = code_base_shear_of s sa (roof_of fs) (W fs)

-- what is answered for the code base shear of the floors fs
abbrev pub BaseAnswers : SiteTerms → (ℕ → Fraction) → List Floor → Result BaseShear Fault → Type 0
BaseAnswers s sa fs (Ok b) = (verdict (period_refusals s.formula (roof_of fs)) ≡ Ok tt) × (b.value ≡ code_shear s sa fs)
BaseAnswers s sa fs (Err f) = verdict (period_refusals s.formula (roof_of fs)) ≡ Err f

-- the shears of storeys 1 to n
abbrev pub shears_up_to : (ℕ → ℕ) → ℕ → List ℕ
shears_up_to c zero = []
shears_up_to c (suc n) = shears_up_to c n ++ (c (suc n) ∷ [])

-- what stands where there is no storey
abbrev pub no_storey : Storey
no_storey = record { combined = 0; design = 0; force = pos 0 }

-- the storey at place k, from 0
abbrev pub storey_at : List Storey → ℕ → Storey
storey_at ss k = slice_index_or ss k no_storey

-- the design shear of storey i, from 1
abbrev pub design_at : List Storey → ℕ → ℕ
design_at ss i = (storey_at ss (i - 1)).design

-- of the first n storeys each force is the difference of two design shears
abbrev pub Differences : ℕ → List Storey → Type 0
Differences n ss = (k : ℕ) → k < n → (storey_at ss k).force ≡ force_of n (design_at ss) (k + 1)

-- of each of n storeys the combined shear c and the design shear d, and forces that are their differences
pub record Gives (n : ℕ) (c d : ℕ → ℕ) (o : Outcome) : Type 0 where
  pub combined : (k : ℕ) → k < n → (storey_at o.storeys k).combined ≡ c (k + 1)
  pub design : (k : ℕ) → k < n → (storey_at o.storeys k).design ≡ d (k + 1)
  pub forces : Differences n o.storeys

-- the shears of the static method
abbrev pub static_shears_of : SiteTerms → (ℕ → Fraction) → List Floor → ℕ → ℕ
static_shears_of s sa fs i = static_shear (code_shear s sa fs) fs i

-- what the static method answers for the floors fs
abbrev pub StaticAnswers : SiteTerms → (ℕ → Fraction) → List Floor → Result Outcome Fault → Type 0
StaticAnswers s sa fs (Ok o) = (verdict (static_refusals s fs) ≡ Ok tt) × Gives (length fs) (static_shears_of s sa fs) (static_shears_of s sa fs) o
StaticAnswers s sa fs (Err f) = verdict (static_refusals s fs) ≡ Err f
