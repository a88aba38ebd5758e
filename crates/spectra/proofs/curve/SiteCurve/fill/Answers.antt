use Rattle.std.proofs.Common.{sym}
use Rattle.spectra.specs.CurvesLemmas.{accepted}
use Rattle.spectra.proofs.curve.SiteCurve.fill.Goals as goal

-- what is held is what was judged
pub invariant_of-self : goal.invariant_of-self
invariant_of-self c =
    let held = rw c.in_ok-held.ensures.ok_part at c.from_slice.ensures in
    let a = accepted c.args.steps.now (sym c.in_ok-judge_steps.ensures) in
    record { good = rw held.1 a.good; whole = rw held.1 a.whole }
