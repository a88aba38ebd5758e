use Rattle.std.proofs.Common.{◌≡◌, drop, ◌+ℤ◌}
use Rattle.std.specs.Iterator.Adapters.{zip_first, zip_second}
use Rattle.std.specs.Slice.Iter.{iter_rest}
use Rattle.rounding.specs.Sums.{first}
use Rattle.formulas.specs.Modal.{paired}
use Rattle.methods.proofs.ModeFacts.{Left}
use Rattle.methods.proofs.motion.Motion.lever_sum.Given as goal

abbrev pub invariant-loop-floor : goal.invariant-loop-floor
invariant-loop-floor l =
    (goal.iterator-loop-floor).can_next l.floor-iterator ×
    (goal.iterator-loop-floor).is_finite l.floor-iterator ×
    Left (iter_rest (zip_first l.floor-iterator)) (iter_rest (zip_second l.floor-iterator)) ×
    (l.sum +ℤ first (paired (iter_rest (zip_first l.floor-iterator)) (iter_rest (zip_second l.floor-iterator))) ≡ first (paired (drop l.from l.self.loads.floors.now) (drop l.from l.self.ordinates.now)))
