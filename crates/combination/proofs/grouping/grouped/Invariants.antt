use Rattle.fixed_list.specs.Items.{items_of}
use Rattle.combination.proofs.Grown.{Built}
use Rattle.combination.proofs.grouping.grouped.Given as goal

abbrev pub invariant-loop-x : goal.invariant-loop-x
invariant-loop-x l = Built l.list.items.now l.rest (items_of l.held) l.group l.x-index l.previous
