use Rattle.std.specs.Prelude.{nat_le}
use Rattle.std.proofs.Common.{ap, sym, ◌∙◌, rules, tests}
use Rattle.std.proofs.lemmas.Iterator.{YieldsList-from_slice}
use Rattle.std.proofs.lemmas.Iterator.Search.{position_from_yields_List}
use Rattle.spectra.specs.CurvesLemmas.{named_step, placed_answers}
use Rattle.spectra.proofs.curve.fill.value_at.Goals as goal

-- the code searches for the step's place, and the step at that place answers
pub returns-in_default : goal.returns-in_default
returns-in_default c =
    let place = position_from_yields_List (λ s. nat_le c.args.milliseconds s.upper) _ _ c.position.result c.position.ensures.ran (YieldsList-from_slice c.args.steps.now cc) (λ x b q k. search (rules, tests)) in
    ap (named_step c.args.steps.now) (sym c.in_default.is ∙ place) ∙ placed_answers c.args.steps.now c.args.milliseconds

pub returns : goal.returns
returns c =
    let place = position_from_yields_List (λ s. nat_le c.args.milliseconds s.upper) _ _ c.position.result c.position.ensures.ran (YieldsList-from_slice c.args.steps.now cc) (λ x b q k. search (rules, tests)) in
    ap (named_step c.args.steps.now) (sym c.in-Some.is ∙ place) ∙ placed_answers c.args.steps.now c.args.milliseconds
