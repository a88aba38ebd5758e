use Rattle.std.proofs.Common.{◌≡◌, ℕ, ◌<◌, length}
use Rattle.methods.specs.Outcomes.{storey_at}
use Rattle.methods.proofs.Designs.{storey_of}
use Rattle.methods.proofs.outcome.outcome_of.Given as goal

abbrev pub invariant-loop-i : goal.invariant-loop-i
invariant-loop-i l = (length l.storeys ≡ 40) × ((k : ℕ) → k < l.i → storey_at l.storeys k ≡ storey_of l.combined l.design k)
