use Rattle.std.proofs.Common.{refl, ap}
use Rattle.methods.specs.Outcomes.{static_shears_of}
use Rattle.sheet.specs.Contents.{floors_in}
use Rattle.sheet.specs.Floors.{counted}
use Rattle.sheet.specs.Ledgers.{static}
use Rattle.sheet.specs.Stages.{is_run}
use Rattle.sheet.proofs.Counted.{counted_length}
use Rattle.sheet.proofs.Runs.{ran_in_place}
use Rattle.sheet.proofs.sheet.Sheet.run_static.Goals as goal

pub returns-clause-answers : goal.returns-clause-answers
returns-clause-answers g c =
    let s = c.args.self.now in
    let t = c.args.shaking.now.site.now.terms in
    let sa = g.C.Spectrum.ordinate c.args.shaking.now.spectrum.now in
    let shears = static_shears_of t sa (counted (floors_in s)) in
    let a = rw c.in_ok-loads.ensures at c.in_ok-outcome.ensures in
    let gives = rw counted_length at a.1 in
    ran_in_place s _ (static t sa) shears shears c.in_ok-outcome.outcome a.0 c.put.ensures.table c.put.ensures.modes (ap is_run c.put.ensures.stage) c.put.ensures.storeys gives refl refl (λ i. refl)
