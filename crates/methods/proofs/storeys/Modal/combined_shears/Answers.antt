use Rattle.std.proofs.Common.{ℕ, ◌<◌, ◌≤◌, List, [], ◌∷◌, ◌++◌, length, get_or, rules, sym, ◌∙◌, subst}
use Rattle.methods.specs.ModalRuns.{modal_combined}
use Rattle.methods.specs.Views.{floors_in, modes_in}
use Rattle.methods.proofs.Designs.{bound_more, shears_more}
use Rattle.methods.proofs.storeys.Modal.combined_shears.Goals as goal

pub loop-i-preserved : goal.loop-i-preserved
loop-i-preserved g c =
    let f = modal_combined c.args.self.now.shaking.now.site.now.terms (g.C.Spectrum.ordinate c.args.self.now.shaking.now.spectrum.now) (g.R.Rule.squared c.args.self.now.rule.now) (floors_in c.args.self.now.shapes.now) (modes_in c.args.self.now.shapes.now) in
    let more = shears_more f c.loop-i.i in
    record {
      counted = search rules;
      taken = c.push.ensures.items ∙ (λ j. c.loop-i.invariant.taken j ++ (c.combined_shear.ensures.is j ∷ [])) ∙ sym more;
      small = subst (λ (xs : List ℕ). (k : ℕ) → k < length xs → get_or xs k 0 ≤ 6480000) (sym c.push.ensures.items) (bound_more 6480000 _ _ c.loop-i.invariant.small c.combined_shear.ensures.small);
    }
