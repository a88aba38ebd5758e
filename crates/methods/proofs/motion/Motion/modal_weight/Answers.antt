use Rattle.std.proofs.Common.{◌≡◌, ℕ, ◌+◌, ℤ, ◌*ℤ◌, ◌∙◌, arith, w64}
use Rattle.rounding.specs.Rounding.{nearestℤ}
use Rattle.rounding.proofs.Order.{back}
use Rattle.formulas.specs.Modal.{L, M, modal_weight_of}
use Rattle.methods.specs.declared.motion.Motion.{Motion}
use Rattle.methods.proofs.RowFacts.{lever_small, mass_small, moved_some, moved_small}
use Rattle.methods.proofs.Trips.{product_fits, product_is, narrow_fits, narrow_is}
use Rattle.methods.proofs.motion.Motion.modal_weight.Goals as goal

-- the quotient that is taken
quotient_is : (m : Motion) (i : ℕ) (x y v : ℤ) (d : ℕ) → x ≡ L m.loads.floors.now m.ordinates.now 1 → y ≡ L m.loads.floors.now m.ordinates.now i → d ≡ M m.loads.floors.now m.ordinates.now → v ≡ nearestℤ (back w64 (back w64 x *ℤ back w64 y)) d → v ≡ modal_weight_of m.loads.floors.now m.ordinates.now i
quotient_is m i x y v d x-is y-is d-is e =
    let small = lever_small m in
    e ∙ (λ j. nearestℤ (product_is x y (L m.loads.floors.now m.ordinates.now 1) (L m.loads.floors.now m.ordinates.now i) x-is y-is (small 1) (small i) j) (d-is j))

pub overflow_mul-product : goal.overflow_mul-product
overflow_mul-product c =
    let m = c.args.self.now in
    let small = lever_small m in
    product_fits c.lever_sum.result c.lever_sum-2.result _ _ c.lever_sum.ensures c.lever_sum-2.ensures (small 1) (small (c.args.storey + 1))

pub invariant_of-mass : goal.invariant_of-mass
invariant_of-mass c =
    let m = c.args.self.now in
    let s = moved_some m in
    let b = mass_small m in
    record { positive = omega (arith, s, c.moved_mass.ensures); within = omega (arith, b, c.moved_mass.ensures) }

result-is : (c : goal.After-nearest_signed_quotient) → c.nearest_signed_quotient.result ≡ modal_weight_of c.args.self.now.loads.floors.now c.args.self.now.ordinates.now (c.args.storey + 1)
result-is c = quotient_is c.args.self.now (c.args.storey + 1) c.lever_sum.result c.lever_sum-2.result c.nearest_signed_quotient.result c.moved_mass.result c.lever_sum.ensures c.lever_sum-2.ensures c.moved_mass.ensures c.nearest_signed_quotient.ensures

pub overflow_cast-result : goal.overflow_cast-result
overflow_cast-result c = let m = c.args.self.now in narrow_fits c.nearest_signed_quotient.result (modal_weight_of m.loads.floors.now m.ordinates.now (c.args.storey + 1)) (result-is c) (moved_small m (c.args.storey + 1))

pub returns : goal.returns
returns c = let m = c.args.self.now in narrow_is c.nearest_signed_quotient.result (modal_weight_of m.loads.floors.now m.ordinates.now (c.args.storey + 1)) (result-is c) (moved_small m (c.args.storey + 1))
