-- What a call answers and leaves, for every sheet; and when a sheet stands by a ledger.
use Rattle.std.specs.Prelude.{◌≡◌, ℕ, true, is_ok, is_err}
use Rattle.standard.specs.Faults.{Verdict, verdict}
use Rattle.sheet.specs.declared.sheet.Sheet.{Sheet}
use Rattle.sheet.specs.declared.stage.Stage.{Stage}
use Rattle.sheet.specs.declared.stage.Stage.TheVariants.{Draft, Static, Modal}
use Rattle.sheet.specs.Contents.{floors_in, modes_in, reading_of}
use Rattle.sheet.specs.Ledgers.{Asked, floor, reweigh, mode, strike, static, modal, refusals, floors_after, modes_after, Ledger}
use Rattle.sheet.specs.Readings.{read_after, expected}

-- the sheet s is asked a, answers r and is s' then
pub record Answers (s : Sheet) (a : Asked) (r : Verdict) (s' : Sheet) : Type 0 where
  -- the verdict on the floors and modes that the sheet holds
  pub answer : r ≡ verdict (refusals (floors_in s) (modes_in s) a)
  -- refused, it is as it was
  pub kept : is_err r ≡ true → s' ≡ s
  -- accepted, it holds what the call says, and reads what the call leaves
  pub floors : is_ok r ≡ true → floors_in s' ≡ floors_after (floors_in s) a
  pub modes : is_ok r ≡ true → modes_in s' ≡ modes_after (modes_in s) a
  pub reads : is_ok r ≡ true → (i : ℕ) → reading_of s' i ≡ read_after (floors_after (floors_in s) a) (modes_after (modes_in s) a) a i

-- the stage that an accepted call leaves: an edit makes a draft, a run puts the forces of its method on the sheet
abbrev pub stage_left : Asked → Stage
stage_left (floor height weight) = Draft
stage_left (reweigh number weight) = Draft
stage_left (mode period count ordinates) = Draft
stage_left (strike number) = Draft
stage_left (static site spectrum) = Static
stage_left (modal site spectrum rule) = Modal

-- a call that answers r leaves the sheet s': accepted, the sheet is at the call's stage
abbrev pub Staged : Asked → Verdict → Sheet → Type 0
Staged a r s' = is_ok r ≡ true → s'.stage ≡ stage_left a

-- a sheet stands by a ledger: it holds the ledger's floors and modes, and every storey reads as expected
pub record Stands (s : Sheet) (ℓ : Ledger) : Type 0 where
  pub floors : floors_in s ≡ ℓ.floors
  pub modes : modes_in s ≡ ℓ.modes
  pub reads : (i : ℕ) → reading_of s i ≡ expected ℓ i
