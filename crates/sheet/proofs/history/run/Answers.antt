use Rattle.std.proofs.Common.{List, get_or, take, sym, subst}
use Rattle.std.proofs.lemmas.List.{take_all}
use Rattle.std.proofs.lemmas.List.Sums.{fold_more}
use Rattle.sheet.specs.declared.call.Call.{Call}
use Rattle.sheet.specs.declared.call.Call.TheVariants.{Floor}
use Rattle.sheet.specs.Answers.{Stands}
use Rattle.sheet.specs.Faultless.{Faultless, FairLedger}
use Rattle.sheet.specs.Histories.{asked, ledger_of}
use Rattle.sheet.specs.Ledgers.{Ledger, opened, step}
use Rattle.sheet.proofs.Standing.{carried, fair_step, fair_asked, faultless}
use Rattle.sheet.proofs.history.run.Goals as goal

pub loop-call-preserved : goal.loop-call-preserved
loop-call-preserved g c =
    let t = c.args.shaking.now.site.now.terms in
    let sa = g.C.Spectrum.ordinate c.args.shaking.now.spectrum.now in
    let q = g.R.Rule.squared c.args.rule.now in
    let calls = c.args.calls.now in
    let i = c.loop-call.call-index in
    let ℓ = ledger_of t sa q (take i calls) in
    let a = asked t sa q (get_or calls i (Floor 0 0)) in
    let e = fold_more (λ (l : Ledger) (call : Call). step l (asked t sa q call)) opened calls i (Floor 0 0) c.loop-call-test.true in
    let st = (carried c.loop-call.sheet c.perform.new.sheet ℓ a c.perform.result c.loop-call.invariant.0 c.perform.ensures.answers).1 in
    let f = fair_step ℓ a (fair_asked t sa q (g.met.C.Spectrum.lawful c.args.shaking.now.spectrum.now) c.args.shaking.now.site.now.accepted (g.met.R.Rule.laws c.args.rule.now) (get_or calls i (Floor 0 0))) c.loop-call.invariant.1 in
    (subst (Stands c.perform.new.sheet) (sym e) st, subst FairLedger (sym e) f)

pub returns : goal.returns
returns g c =
    let t = c.args.shaking.now.site.now.terms in
    let sa = g.C.Spectrum.ordinate c.args.shaking.now.spectrum.now in
    let q = g.R.Rule.squared c.args.rule.now in
    let h = faultless c.loop-call.sheet (ledger_of t sa q (take c.loop-call.call-index c.args.calls.now)) c.loop-call.invariant.0 c.loop-call.invariant.1 in
    subst (λ (cs : List Call). Faultless c.loop-call.sheet (ledger_of c.args.shaking.now.site.now.terms (g.C.Spectrum.ordinate c.args.shaking.now.spectrum.now) (g.R.Rule.squared c.args.rule.now) cs)) (take_all c.loop-call.call-index c.args.calls.now c.loop-call-test.false) h
