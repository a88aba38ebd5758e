use Rattle.std.proofs.Common.{◌≡◌, ◌+◌, drop}
use Rattle.combination.specs.Values.{total}
use Rattle.combination.proofs.absolute.AbsoluteSumRule.combine.Given as goal

abbrev pub invariant-loop-x : goal.invariant-loop-x
invariant-loop-x l = l.sum + total (drop l.x-index l.list.items.now) ≡ total l.list.items.now
