use Rattle.std.proofs.Common.{◌≡◌, map, take}
use Rattle.arrayvec.specs.ArrayVec.{array_vec_len}
use Rattle.formulas.specs.Modal.{design_shear}
use Rattle.methods.proofs.outcome.design_shears.Given as goal

abbrev pub invariant-loop-shear : goal.invariant-loop-shear
invariant-loop-shear l = record {
  counted : array_vec_len l.design ≡ l.shear-index;
  taken : l.design.items ≡ map (design_shear l.scale.code.value l.scale.base) (take l.shear-index l.combined);
}
