-- The values of a site: which are listed, what each stands for, and the numbers that the standard gives it.
use Rattle.std.specs.Prelude.{◌≡◌, ℕ, Bool, true, false, Ok, Err, Result, cond, not, ◌&&◌, ◌||◌, List, [], ◌∷◌, ◌==◌, nat_le}
use Rattle.standard.specs.declared.fault.Ground.TheVariants.{SiteValue}
use Rattle.standard.specs.declared.terms.Zone.{Zone}
use Rattle.standard.specs.declared.terms.Zone.TheVariants.{II, III, IV, V}
use Rattle.standard.specs.declared.terms.Soil.{Soil}
use Rattle.standard.specs.declared.terms.Soil.TheVariants.{Hard, Medium, Soft}
use Rattle.standard.specs.declared.terms.Importance.{Importance}
use Rattle.standard.specs.declared.terms.Importance.TheVariants.{Ordinary, Important}
use Rattle.standard.specs.declared.terms.System.{System}
use Rattle.standard.specs.declared.terms.System.TheVariants.{OrdinaryConcreteFrame, SpecialConcreteFrame, ConcentricBraces, EccentricBraces, PlainMasonry, BandedMasonry, BarredMasonry, OrdinaryWall, DuctileWall, OrdinaryWallOrdinaryFrame, OrdinaryWallSpecialFrame, DuctileWallOrdinaryFrame, DuctileWallSpecialFrame}
use Rattle.standard.specs.declared.terms.Formula.{Formula}
use Rattle.standard.specs.declared.terms.Formula.TheVariants.{ConcreteFrame, SteelFrame, Other}
use Rattle.standard.specs.declared.terms.Plan.{Plan}
use Rattle.standard.specs.declared.terms.Plan.TheVariants.{Regular, Irregular}
use Rattle.standard.specs.declared.terms.Unlisted.{Unlisted}
use Rattle.standard.specs.declared.terms.SiteTerms.{SiteTerms}
use Rattle.standard.specs.declared.values.SiteValues.{SiteValues}
use Rattle.standard.specs.Faults.{Refusal, refusal}

-- low to high, both included
abbrev pub within : ℕ → ℕ → ℕ → Bool
within low high n = nat_le low n && nat_le n high

-- ---- the values that are listed

abbrev pub zone_listed : ℕ → Bool
zone_listed n = within 2 5 n

abbrev pub soil_listed : ℕ → Bool
soil_listed n = within 1 3 n

abbrev pub importance_listed : ℕ → Bool
importance_listed n = n == 10 || n == 15

abbrev pub system_listed : ℕ → Bool
system_listed n = within 1 13 n

abbrev pub formula_listed : ℕ → Bool
formula_listed n = within 1 3 n

abbrev pub plan_listed : ℕ → Bool
plan_listed n = within 0 1 n

-- a base dimension goes with the third formula alone
abbrev pub base_listed : ℕ → ℕ → Bool
base_listed formula base = cond (formula == 3) (within 20 5000 base) (base == 0)

-- ---- the value of each term

abbrev pub zone_value : Zone → ℕ
zone_value II = 2
zone_value III = 3
zone_value IV = 4
zone_value V = 5

abbrev pub soil_value : Soil → ℕ
soil_value Hard = 1
soil_value Medium = 2
soil_value Soft = 3

-- ten times the importance factor, in a record as in the formulas
abbrev pub importance_value : Importance → ℕ
importance_value Ordinary = 10
importance_value Important = 15

abbrev pub system_value : System → ℕ
system_value OrdinaryConcreteFrame = 1
system_value SpecialConcreteFrame = 2
system_value ConcentricBraces = 3
system_value EccentricBraces = 4
system_value PlainMasonry = 5
system_value BandedMasonry = 6
system_value BarredMasonry = 7
system_value OrdinaryWall = 8
system_value DuctileWall = 9
system_value OrdinaryWallOrdinaryFrame = 10
system_value OrdinaryWallSpecialFrame = 11
system_value DuctileWallOrdinaryFrame = 12
system_value DuctileWallSpecialFrame = 13

abbrev pub formula_value : Formula → ℕ
formula_value ConcreteFrame = 1
formula_value SteelFrame = 2
formula_value (Other base) = 3

abbrev pub formula_base : Formula → ℕ
formula_base ConcreteFrame = 0
formula_base SteelFrame = 0
formula_base (Other base) = base

abbrev pub plan_value : Plan → ℕ
plan_value Regular = 0
plan_value Irregular = 1

-- ---- how a value is read

-- the term that has the value, where it is listed; else the error that names it
abbrev pub Reads : {X : Type 0} → (ℕ → Bool) → (X → ℕ) → ℕ → Result X Unlisted → Type 0
Reads listed value n (Ok x) = (listed n ≡ true) × (value x ≡ n)
Reads listed value n (Err e) = (listed n ≡ false) × (e.0 ≡ n)

-- the formula that has the value, and the base dimension where it has one
abbrev pub ReadsFormula : ℕ × ℕ → Result Formula Unlisted → Type 0
ReadsFormula p (Ok f) = Reads formula_listed formula_value p.0 (Ok f) × (p.0 ≡ 3 → formula_base f ≡ p.1)
ReadsFormula p (Err e) = Reads formula_listed formula_value p.0 (Err e)

-- the seven values of a site's terms
abbrev pub values_of : SiteTerms → SiteValues
values_of t =
    record {
      zone = zone_value t.zone;
      soil = soil_value t.soil;
      importance = importance_value t.importance;
      system = system_value t.system;
      formula = formula_value t.formula;
      plan = plan_value t.plan;
      base = formula_base t.formula;
    }

-- ---- the numbers of the standard

-- a hundred times the zone factor
abbrev pub zone_number : Zone → ℕ
zone_number II = 10
zone_number III = 16
zone_number IV = 24
zone_number V = 36

-- ten times the response reduction factor
abbrev pub reduction : System → ℕ
reduction OrdinaryConcreteFrame = 30
reduction SpecialConcreteFrame = 50
reduction ConcentricBraces = 40
reduction EccentricBraces = 50
reduction PlainMasonry = 15
reduction BandedMasonry = 25
reduction BarredMasonry = 30
reduction OrdinaryWall = 30
reduction DuctileWall = 40
reduction OrdinaryWallOrdinaryFrame = 30
reduction OrdinaryWallSpecialFrame = 40
reduction DuctileWallOrdinaryFrame = 45
reduction DuctileWallSpecialFrame = 50

-- ---- what is refused

-- the values in their order, each refused where it is not listed
abbrev pub site_refusals : SiteValues → List Refusal
site_refusals v =
    refusal SiteValue 1 (not (zone_listed v.zone))
    ∷ (refusal SiteValue 2 (not (soil_listed v.soil))
    ∷ (refusal SiteValue 3 (not (importance_listed v.importance))
    ∷ (refusal SiteValue 4 (not (system_listed v.system))
    ∷ (refusal SiteValue 5 (not (formula_listed v.formula))
    ∷ (refusal SiteValue 6 (not (plan_listed v.plan))
    ∷ (refusal SiteValue 7 (not (base_listed v.formula v.base)) ∷ []))))))

-- the terms of a site that was accepted: a base dimension within its range, where there is one
abbrev pub lawful : SiteTerms → Bool
lawful t = base_listed (formula_value t.formula) (formula_base t.formula)
