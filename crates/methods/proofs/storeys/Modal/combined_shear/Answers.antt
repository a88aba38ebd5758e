use Rattle.std.proofs.Common.{◌+◌, List, ap, ◌∙◌, arith}
use Rattle.rounding.specs.Roots.{root}
use Rattle.combination.specs.declared.response.Response.{Response}
use Rattle.combination.specs.Values.{total}
use Rattle.methods.proofs.StoreyFacts.{values_small, values_sound}
use Rattle.methods.proofs.storeys.Modal.combined_shear.Goals as goal

pub invariant_of-list : goal.invariant_of-list
invariant_of-list g c =
    let sound = values_sound c.args.self.now.shaking.now.site.now.terms (g.C.Spectrum.ordinate c.args.self.now.shaking.now.spectrum.now) (g.met.C.Spectrum.lawful c.args.self.now.shaking.now.spectrum.now) c.args.self.now.shapes.now (c.args.storey + 1) in
    record { sound = rw (c.as_slice.ensures.value ∙ c.storey_values-values.ensures) sound }

pub returns : goal.returns
returns g c =
    let small = values_small c.args.self.now.shaking.now.site.now.terms (g.C.Spectrum.ordinate c.args.self.now.shaking.now.spectrum.now) (g.met.C.Spectrum.lawful c.args.self.now.shaking.now.spectrum.now) c.args.self.now.shapes.now (c.args.storey + 1) in
    let e = c.as_slice.ensures.value ∙ c.storey_values-values.ensures in
    record {
      is = c.combined_at_most_sum.ensures.combined ∙ ap (λ (xs : List Response). root (g.R.Rule.squared c.args.self.now.rule.now xs)) e;
      small = omega (arith, small, ap total e, c.combined_at_most_sum.ensures.bounded);
    }
