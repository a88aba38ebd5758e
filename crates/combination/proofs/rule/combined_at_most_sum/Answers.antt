use Rattle.std.proofs.Common.{◌≤◌, arith}
use Rattle.rounding.specs.Roots.{root}
use Rattle.combination.specs.Values.{total}
use Rattle.combination.specs.Numbers.{root_at_most}
use Rattle.combination.specs.Bound.{at_most_total}
use Rattle.combination.proofs.rule.combined_at_most_sum.Goals as goal

pub returns : goal.returns
returns g c =
    let q = g.R.Rule.squared c.args.rule.now in
    let laws = g.met.R.Rule.laws c.args.rule.now in
    let low : root (g.R.Rule.squared c.args.rule.now c.args.list.items.now) ≤ total c.args.list.items.now = root_at_most _ _ (at_most_total q laws.lone laws.triangle c.args.list.items.now) in
    record { combined = c.combine.ensures; bounded = omega (arith, low, c.combine.ensures) }
