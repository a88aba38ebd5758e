-- The stage of a sheet.
use Rattle.std.specs.Prelude.{◌≡◌, ℕ, Bool, true, false, List}
use Rattle.methods.specs.declared.outcome.Storey.{Storey}
use Rattle.methods.specs.Outcomes.{Differences}
use Rattle.sheet.specs.declared.stage.Stage.{Stage}
use Rattle.sheet.specs.declared.stage.Stage.TheVariants.{Draft, Static, Modal}
use Rattle.sheet.specs.declared.stage.Action.{Action}
use Rattle.sheet.specs.declared.stage.Action.TheVariants.{Edit, RunStatic, RunModal}

-- forces stand on the sheet
abbrev pub is_run : Stage → Bool
is_run Draft = false
is_run Static = true
is_run Modal = true

-- what an action makes of a sheet, whatever it was
abbrev pub stage_after : Action → Stage
stage_after Edit = Draft
stage_after RunStatic = Static
stage_after RunModal = Modal

-- where forces stand, each is the difference of two design shears
abbrev pub Forced : Stage → ℕ → List Storey → Type 0
Forced g n storeys = is_run g ≡ true → Differences n storeys
