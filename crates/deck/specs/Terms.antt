-- From the seven values of a site back to its terms.
use Rattle.std.specs.Prelude.{ℕ, cond, ◌==◌}
use Rattle.standard.specs.declared.terms.Zone.{Zone}
use Rattle.standard.specs.declared.terms.Zone.TheVariants.{II, III, IV, V}
use Rattle.standard.specs.declared.terms.Soil.{Soil}
use Rattle.standard.specs.declared.terms.Soil.TheVariants.{Hard, Medium, Soft}
use Rattle.standard.specs.declared.terms.Importance.{Importance}
use Rattle.standard.specs.declared.terms.Importance.TheVariants.{Ordinary, Important}
use Rattle.standard.specs.declared.terms.System.{System}
use Rattle.standard.specs.declared.terms.System.TheVariants.{OrdinaryConcreteFrame, SpecialConcreteFrame, ConcentricBraces, EccentricBraces, PlainMasonry, BandedMasonry, BarredMasonry, OrdinaryWall, DuctileWall, OrdinaryWallOrdinaryFrame, OrdinaryWallSpecialFrame, DuctileWallOrdinaryFrame, DuctileWallSpecialFrame}
use Rattle.standard.specs.declared.terms.Formula.{Formula}
use Rattle.standard.specs.declared.terms.Formula.TheVariants.{ConcreteFrame, SteelFrame, Other}
use Rattle.standard.specs.declared.terms.Plan.{Plan}
use Rattle.standard.specs.declared.terms.Plan.TheVariants.{Regular, Irregular}
use Rattle.standard.specs.declared.terms.SiteTerms.{SiteTerms}
use Rattle.standard.specs.declared.values.SiteValues.{SiteValues}

abbrev pub zone_of : ℕ → Zone
zone_of n = cond (n == 2) II (cond (n == 3) III (cond (n == 4) IV V))

abbrev pub soil_of : ℕ → Soil
soil_of n = cond (n == 1) Hard (cond (n == 2) Medium Soft)

abbrev pub importance_of : ℕ → Importance
importance_of n = cond (n == 10) Ordinary Important

abbrev pub system_of : ℕ → System
system_of n =
    cond (n == 1) OrdinaryConcreteFrame (cond (n == 2) SpecialConcreteFrame (cond (n == 3) ConcentricBraces (cond (n == 4) EccentricBraces
    (cond (n == 5) PlainMasonry (cond (n == 6) BandedMasonry (cond (n == 7) BarredMasonry (cond (n == 8) OrdinaryWall
    (cond (n == 9) DuctileWall (cond (n == 10) OrdinaryWallOrdinaryFrame (cond (n == 11) OrdinaryWallSpecialFrame (cond (n == 12) DuctileWallOrdinaryFrame DuctileWallSpecialFrame)))))))))))

abbrev pub formula_of : ℕ → ℕ → Formula
formula_of n base = cond (n == 1) ConcreteFrame (cond (n == 2) SteelFrame (Other base))

abbrev pub plan_of : ℕ → Plan
plan_of n = cond (n == 0) Regular Irregular

-- the terms that listed values stand for
abbrev pub terms_of : SiteValues → SiteTerms
terms_of v =
    record {
      zone = zone_of v.zone;
      soil = soil_of v.soil;
      importance = importance_of v.importance;
      system = system_of v.system;
      formula = formula_of v.formula v.base;
      plan = plan_of v.plan;
    }
