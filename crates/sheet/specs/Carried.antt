-- The law of standing: whatever a call answers, a sheet that stood by a ledger stands by the ledger after the call.
use Rattle.std.specs.Prelude.{◌≡◌}
use Rattle.standard.specs.Faults.{Verdict}
use Rattle.sheet.specs.declared.sheet.Sheet.{Sheet}
use Rattle.sheet.specs.Answers.{Answers, Stands}
use Rattle.sheet.specs.Ledgers.{Asked, Ledger, verdict_on, step}

abbrev pub Carried : Type 0
Carried = (s s' : Sheet) (ℓ : Ledger) (a : Asked) (r : Verdict) → Stands s ℓ → Answers s a r s' → (r ≡ verdict_on ℓ a) × Stands s' (step ℓ a)
