use Rattle.std.proofs.Common.{take}
use Rattle.sheet.specs.Answers.{Stands}
use Rattle.sheet.specs.Histories.{ledger_of}
use Rattle.sheet.specs.Faultless.{FairLedger}
use Rattle.sheet.proofs.history.run.Given as goal

abbrev pub invariant-loop-call : goal.invariant-loop-call
invariant-loop-call g l =
    Stands l.sheet (ledger_of l.shaking.site.now.terms (g.C.Spectrum.ordinate l.shaking.spectrum.now) (g.R.Rule.squared l.rule) (take l.call-index l.calls)) ×
    FairLedger (ledger_of l.shaking.site.now.terms (g.C.Spectrum.ordinate l.shaking.spectrum.now) (g.R.Rule.squared l.rule) (take l.call-index l.calls))
