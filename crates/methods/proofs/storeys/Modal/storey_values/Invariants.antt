use Rattle.std.proofs.Common.{◌≡◌, ◌+◌, take}
use Rattle.arrayvec.specs.ArrayVec.{array_vec_len}
use Rattle.base_shear.specs.Accelerations.{acceleration_of}
use Rattle.formulas.specs.Modal.{storey_values_of}
use Rattle.methods.specs.Views.{floors_in, modes_in}
use Rattle.methods.proofs.storeys.Modal.storey_values.Given as goal

abbrev pub invariant-loop-row : goal.invariant-loop-row
invariant-loop-row g l = record {
  counted : array_vec_len l.values ≡ l.row-index;
  taken : l.values.items ≡ storey_values_of (acceleration_of l.self.shaking.now.site.now.terms (g.C.Spectrum.ordinate l.self.shaking.now.spectrum.now)) (floors_in l.self.shapes.now) (take l.row-index (modes_in l.self.shapes.now)) (l.storey + 1);
}
