use Rattle.std.proofs.Common.{◌≡◌, ℕ, ◌≤◌, Ok, ◌∙◌, subst, arith}
use Rattle.standard.specs.Faults.{verdict}
use Rattle.base_shear.specs.Accelerations.{code_base_shear_of, period_refusals}
use Rattle.formulas.specs.Buildings.{W, heaviest}
use Rattle.methods.specs.Loads.{roof_of}
use Rattle.methods.proofs.BaseShears.{base_within}
use Rattle.methods.proofs.base.base_shear_of.Goals as goal

pub invariant_of-result : goal.invariant_of-result
invariant_of-result g c =
    let s = c.args.shaking.now.site.now in
    let sa = g.C.Spectrum.ordinate c.args.shaking.now.spectrum.now in
    let l = c.args.loads.now in
    let roof : c.roof_height.result.value ≡ roof_of c.args.loads.now.floors.now = c.roof_height.ensures in
    let accepted = subst (λ (h : ℕ). verdict (period_refusals c.args.shaking.now.site.now.terms.formula h) ≡ Ok tt) roof c.in_ok-value.ensures.0 in
    let value = c.in_ok-value.ensures.1 ∙ (λ i. code_base_shear_of s.terms sa (roof i) (l.summed i)) in
    let low : 20 ≤ roof_of c.args.loads.now.floors.now = omega (arith, roof, c.roof_height.result.low) in
    let light : W c.args.loads.now.floors.now ≤ heaviest = omega (arith, l.summed, l.light) in
    record { low = omega (arith, value, base_within s.terms sa l.floors.now (g.met.C.Spectrum.lawful c.args.shaking.now.spectrum.now) s.accepted low light accepted) }
