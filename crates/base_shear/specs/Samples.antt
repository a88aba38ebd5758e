-- Worked figures that the definitions give.
use Rattle.std.specs.Prelude.{◌≡◌, ◌+◌}
use Rattle.standard.specs.declared.terms.Formula.TheVariants.{ConcreteFrame, Other}
use Rattle.standard.specs.declared.terms.Importance.TheVariants.{Ordinary}
use Rattle.standard.specs.declared.terms.Plan.TheVariants.{Regular}
use Rattle.standard.specs.declared.terms.SiteTerms.{SiteTerms}
use Rattle.standard.specs.declared.terms.Soil.TheVariants.{Medium}
use Rattle.standard.specs.declared.terms.System.TheVariants.{OrdinaryConcreteFrame}
use Rattle.standard.specs.declared.terms.Zone.TheVariants.{III}
use Rattle.base_shear.specs.Accelerations.{acceleration_of, code_base_shear_of}
use Rattle.standard.specs.Fractions.{fraction, Same}
use Rattle.base_shear.specs.Periods.{period_of}
use Rattle.spectra.specs.Spectra.{code_curve}

-- zone III, medium soil, importance 10, ordinary concrete frame, any other building with a base dimension of 225, regular
abbrev pub office : SiteTerms
office = record { zone = III; soil = Medium; importance = Ordinary; system = OrdinaryConcreteFrame; formula = Other 225; plan = Regular }

pub record Samples : Type 0 where
  pub concrete_frame : period_of ConcreteFrame 138 ≡ 537
  pub other_building : period_of (Other 225) 120 ≡ 228
  pub another_building : period_of (Other 200) 138 ≡ 278
  pub short_period : Same (acceleration_of office (code_curve Medium) 98) (fraction 8 100)
  pub longer_period : Same (acceleration_of office (code_curve Medium) 101) (fraction 1 15)
  pub four_storeys : code_base_shear_of office (code_curve Medium) 120 (36190 + 36190 + 36190 + 27935) ≡ 9100
