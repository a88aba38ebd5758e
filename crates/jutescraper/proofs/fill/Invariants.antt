use Rattle.std.proofs.Common.{◌-◌, ◌≤◌}
use Rattle.jutescraper.proofs.fill.Given as goal

abbrev pub invariant-loop-have : goal.invariant-loop-have
invariant-loop-have g l = l.have ≤ 96

abbrev pub decreases-loop-have : goal.decreases-loop-have
decreases-loop-have g l = 96 - l.have
