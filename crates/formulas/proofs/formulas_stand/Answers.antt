use Rattle.formulas.proofs.Static.{static_theorems}
use Rattle.formulas.proofs.Forces.{force_theorems}
use Rattle.formulas.proofs.Modal.{modal_theorems}
use Rattle.formulas.proofs.Design.{combined_theorems}
use Rattle.formulas.proofs.formulas_stand.Goals as goal

pub returns : goal.returns
returns c = record { statics = static_theorems; forces = force_theorems; modal = modal_theorems; combined = combined_theorems }
