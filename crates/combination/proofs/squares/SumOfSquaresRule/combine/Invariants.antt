use Rattle.std.proofs.Common.{◌≡◌, ◌+◌, drop}
use Rattle.combination.specs.Squared.{squares}
use Rattle.combination.proofs.squares.SumOfSquaresRule.combine.Given as goal

abbrev pub invariant-loop-x : goal.invariant-loop-x
invariant-loop-x l = l.sum + squares (drop l.x-index l.list.items.now) ≡ squares l.list.items.now
