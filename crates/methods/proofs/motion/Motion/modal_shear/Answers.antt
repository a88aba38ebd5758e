use Rattle.std.proofs.Common.{◌≡◌, ◌+◌, ◌^◌, ◌<◌, ap, ◌∙◌, rules}
use Rattle.rounding.specs.Rounding.{nearestℤ}
use Rattle.standard.specs.declared.fraction.Fraction.{Fraction}
use Rattle.formulas.specs.Modal.{modal_weight_of, modal_shear_of}
use Rattle.methods.proofs.RowFacts.{moved_small, shear_small}
use Rattle.methods.proofs.Trips.{scaled_is, narrow_fits, narrow_is}
use Rattle.methods.proofs.motion.Motion.modal_shear.Given as given
use Rattle.methods.proofs.motion.Motion.modal_shear.Goals as goal

-- the quotient that is taken
result-is : (g : given.Over) (c : goal.After-nearest_signed_quotient g) → c.nearest_signed_quotient.result ≡ modal_shear_of c.acceleration-a.result c.args.self.now.loads.floors.now c.args.self.now.ordinates.now (c.args.storey + 1)
result-is g c =
    let m = c.args.self.now in
    let b : c.acceleration-a.result.numerator < 2 ^ 32 = search rules in
    c.nearest_signed_quotient.ensures ∙ (λ j. nearestℤ (scaled_is c.acceleration-a.result.numerator c.modal_weight-weight.result (modal_weight_of m.loads.floors.now m.ordinates.now (c.args.storey + 1)) b c.modal_weight-weight.ensures (moved_small m (c.args.storey + 1)) j) c.acceleration-a.result.denominator)

pub overflow_cast-result : goal.overflow_cast-result
overflow_cast-result g c =
    let m = c.args.self.now in
    narrow_fits c.nearest_signed_quotient.result (modal_shear_of c.acceleration-a.result m.loads.floors.now m.ordinates.now (c.args.storey + 1)) (result-is g c) (shear_small m c.acceleration-a.result (c.args.storey + 1) c.acceleration-a.ensures.bounded)

pub returns : goal.returns
returns g c =
    let m = c.args.self.now in
    narrow_is c.nearest_signed_quotient.result (modal_shear_of c.acceleration-a.result m.loads.floors.now m.ordinates.now (c.args.storey + 1)) (result-is g c) (shear_small m c.acceleration-a.result (c.args.storey + 1) c.acceleration-a.ensures.bounded)
    ∙ ap (λ (a : Fraction). modal_shear_of a c.args.self.now.loads.floors.now c.args.self.now.ordinates.now (c.args.storey + 1)) c.acceleration-a.ensures.is
