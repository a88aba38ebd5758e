use Rattle.std.proofs.Common.{◌≡◌, ◌+◌, drop}
use Rattle.formulas.specs.Modal.{modal_weights}
use Rattle.methods.specs.Views.{floors_in, modes_in}
use Rattle.methods.proofs.modal.participating_weight.Given as goal

abbrev pub invariant-loop-row : goal.invariant-loop-row
invariant-loop-row l = l.sum + modal_weights (floors_in l.shapes) (drop l.row-index (modes_in l.shapes)) ≡ modal_weights (floors_in l.shapes) (modes_in l.shapes)
