use Rattle.std.proofs.Common.{◌+◌, ◌*◌, ◌^◌, ◌<◌, ◌≤◌}
use Rattle.rounding.proofs.root.whole_root.Given as goal

abbrev pub invariant-loop-above : goal.invariant-loop-above
invariant-loop-above l = (1 ≤ l.above) × (l.above ≤ 2 ^ 32) × (l.q < (l.above + 1) * (l.above + 1))

abbrev pub decreases-loop-above : goal.decreases-loop-above
decreases-loop-above l = l.above
