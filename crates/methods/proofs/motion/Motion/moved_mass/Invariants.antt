use Rattle.std.proofs.Common.{◌≡◌, ◌+◌}
use Rattle.std.specs.Iterator.Adapters.{zip_first, zip_second}
use Rattle.std.specs.Slice.Iter.{iter_rest}
use Rattle.rounding.specs.Sums.{second_n}
use Rattle.formulas.specs.Modal.{paired, M}
use Rattle.methods.proofs.ModeFacts.{Left}
use Rattle.methods.proofs.motion.Motion.moved_mass.Given as goal

abbrev pub invariant-loop-floor : goal.invariant-loop-floor
invariant-loop-floor l =
    (goal.iterator-loop-floor).can_next l.floor-iterator ×
    (goal.iterator-loop-floor).is_finite l.floor-iterator ×
    Left (iter_rest (zip_first l.floor-iterator)) (iter_rest (zip_second l.floor-iterator)) ×
    (l.sum + second_n (paired (iter_rest (zip_first l.floor-iterator)) (iter_rest (zip_second l.floor-iterator))) ≡ M l.self.loads.floors.now l.self.ordinates.now)
