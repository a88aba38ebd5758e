-- The worked figures. Assumes nothing.
use Rattle.std.proofs.Common.{◌≡◌, ℕ, ◌+◌, ◌*◌, sym, refl, ap, lit<}
use Rattle.rounding.specs.Rounding.{nearest}
use Rattle.standard.specs.declared.terms.Formula.TheVariants.{ConcreteFrame, Other}
use Rattle.standard.specs.declared.terms.Soil.TheVariants.{Medium}
use Rattle.base_shear.specs.Accelerations.{acceleration_of}
use Rattle.base_shear.specs.Periods.{period_of}
use Rattle.base_shear.specs.Samples.{office, Samples}
use Rattle.spectra.specs.Spectra.{code_curve}
use Rattle.base_shear.proofs.Periods.{first_passing, period_only}

-- a period is found by the number that passes, and the one before it, which does not
pub frame_period : period_of ConcreteFrame 60 ≡ 288
frame_period = sym (period_only ConcreteFrame 60 288 refl (first_passing ConcreteFrame 60 288 refl (lit< tt) refl))

pub office_period : period_of (Other 225) 120 ≡ 228
office_period = sym (period_only (Other 225) 120 228 refl (first_passing (Other 225) 120 228 refl (lit< tt) refl))

abbrev base_shear_at : ℕ → ℕ
base_shear_at t = nearest ((acceleration_of office (code_curve Medium) t).numerator * (36190 + 36190 + 36190 + 27935)) (acceleration_of office (code_curve Medium) t).denominator

pub samples : Samples
unfolding nearest acceleration_of
samples =
    record {
      concrete_frame = sym (period_only ConcreteFrame 138 537 refl (first_passing ConcreteFrame 138 537 refl (lit< tt) refl));
      other_building = office_period;
      another_building = sym (period_only (Other 200) 138 278 refl (first_passing (Other 200) 138 278 refl (lit< tt) refl));
      short_period = refl;
      longer_period = refl;
      four_storeys = ap base_shear_at office_period;
    }
