use Rattle.std.proofs.Common.{refl, ap, Ok}
use Rattle.methods.specs.ModalRuns.{ModalAnswers, modal_combined, modal_design}
use Rattle.methods.specs.Views.{floors_in as floors_seen, modes_in as modes_seen}
use Rattle.sheet.specs.Contents.{floors_in, modes_in}
use Rattle.sheet.specs.Floors.{counted}
use Rattle.sheet.specs.Ledgers.{modal}
use Rattle.sheet.specs.Stages.{is_run}
use Rattle.sheet.proofs.Counted.{counted_length}
use Rattle.sheet.proofs.Runs.{ran_in_place}
use Rattle.sheet.proofs.sheet.Sheet.run_modal.Goals as goal

pub returns-clause-answers : goal.returns-clause-answers
returns-clause-answers g c =
    let s = c.args.self.now in
    let t = c.args.shaking.now.site.now.terms in
    let sa = g.C.Spectrum.ordinate c.args.shaking.now.spectrum.now in
    let q = g.R.Rule.squared c.args.rule.now in
    let combined = modal_combined t sa q (counted (floors_in s)) (modes_in s) in
    let design = modal_design t sa q (counted (floors_in s)) (modes_in s) in
    let seen : ModalAnswers t sa q (floors_seen c.in_ok-shapes.field-0) (modes_seen c.in_ok-shapes.field-0) (Ok c.in_ok-outcome.outcome) = c.in_ok-outcome.ensures in
    let a = rw (c.in_ok-shapes.ensures.1, c.in_ok-shapes.ensures.0) at seen in
    let gives = rw counted_length at a.1 in
    ran_in_place s _ (modal t sa q) combined design c.in_ok-outcome.outcome a.0 c.put.ensures.table c.put.ensures.modes (ap is_run c.put.ensures.stage) c.put.ensures.storeys gives refl refl (λ i. refl)
