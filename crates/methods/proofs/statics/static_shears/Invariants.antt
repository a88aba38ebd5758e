use Rattle.std.proofs.Common.{◌≡◌, drop}
use Rattle.arrayvec.specs.ArrayVec.{array_vec_len}
use Rattle.formulas.specs.Static.{S, static_shear}
use Rattle.methods.specs.Outcomes.{shears_up_to}
use Rattle.methods.proofs.statics.static_shears.Given as goal

abbrev pub invariant-loop-floor : goal.invariant-loop-floor
invariant-loop-floor l = record {
  counted : array_vec_len l.shears ≡ l.floor-index;
  left : l.rest ≡ S (drop l.floor-index l.loads.floors.now);
  taken : l.shears.items ≡ shears_up_to (static_shear l.base.value l.loads.floors.now) l.floor-index;
}
