-- The values of terms stand for those terms. Assumes nothing.
use Rattle.std.proofs.Common.{◌≡◌, arith}
use Rattle.standard.specs.declared.terms.Zone.{Zone}
use Rattle.standard.specs.declared.terms.Soil.{Soil}
use Rattle.standard.specs.declared.terms.Importance.{Importance}
use Rattle.standard.specs.declared.terms.System.{System}
use Rattle.standard.specs.declared.terms.Formula.{Formula}
use Rattle.standard.specs.declared.terms.Plan.{Plan}
use Rattle.standard.specs.declared.terms.SiteTerms.{SiteTerms}
use Rattle.standard.specs.Sites.{zone_value, soil_value, importance_value, system_value, formula_value, formula_base, plan_value, values_of}
use Rattle.deck.specs.Terms.{zone_of, soil_of, importance_of, system_of, formula_of, plan_of, terms_of}

zone_back : (z : Zone) → zone_of (zone_value z) ≡ z
zone_back z = grind arith

soil_back : (s : Soil) → soil_of (soil_value s) ≡ s
soil_back s = grind arith

importance_back : (i : Importance) → importance_of (importance_value i) ≡ i
importance_back i = grind arith

system_back : (s : System) → system_of (system_value s) ≡ s
system_back s = grind arith

formula_back : (f : Formula) → formula_of (formula_value f) (formula_base f) ≡ f
formula_back f = grind arith

plan_back : (p : Plan) → plan_of (plan_value p) ≡ p
plan_back p = grind arith

pub terms_back : (t : SiteTerms) → terms_of (values_of t) ≡ t
terms_back t = λ i. record { zone = zone_back t.zone i; soil = soil_back t.soil i; importance = importance_back t.importance i; system = system_back t.system i; formula = formula_back t.formula i; plan = plan_back t.plan i }
