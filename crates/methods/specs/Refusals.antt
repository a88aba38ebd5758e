-- What a method refuses, in the order in which it is tried.
use Rattle.std.specs.Prelude.{ℕ, List, [], ◌∷◌, ◌++◌, length, ◌==◌, nat_lt}
use Rattle.standard.specs.declared.fault.Ground.TheVariants.{NoFloors, TooHighForStatic}
use Rattle.standard.specs.declared.terms.Plan.{Plan}
use Rattle.standard.specs.declared.terms.Plan.TheVariants.{Regular, Irregular}
use Rattle.standard.specs.declared.terms.SiteTerms.{SiteTerms}
use Rattle.standard.specs.declared.terms.Zone.{Zone}
use Rattle.standard.specs.declared.terms.Zone.TheVariants.{II, III, IV, V}
use Rattle.standard.specs.Faults.{Refusal, refusal}
use Rattle.base_shear.specs.Accelerations.{period_refusals}
use Rattle.formulas.specs.declared.floor.Floor.{Floor}
use Rattle.methods.specs.Loads.{roof_of}

-- up to this height of the roof the static method may be used
abbrev pub static_limit_of : Zone → Plan → ℕ
static_limit_of II Regular = 900
static_limit_of II Irregular = 400
static_limit_of III Regular = 900
static_limit_of III Irregular = 400
static_limit_of IV Regular = 400
static_limit_of IV Irregular = 120
static_limit_of V Regular = 400
static_limit_of V Irregular = 120

-- no floors, a period that no spectrum reaches, a building too high
abbrev pub static_refusals : SiteTerms → List Floor → List Refusal
static_refusals s fs =
    refusal NoFloors 0 (length fs == 0)
    ∷ (period_refusals s.formula (roof_of fs) ++ (refusal TooHighForStatic (roof_of fs) (nat_lt (static_limit_of s.zone s.plan) (roof_of fs)) ∷ []))
