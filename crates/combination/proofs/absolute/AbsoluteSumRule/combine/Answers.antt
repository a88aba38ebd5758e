use Rattle.std.proofs.Common.{◌≡◌, ℕ, ◌+◌, ◌<◌, List, length, get_or, drop, pos, sym, ◌∙◌, arith}
use Rattle.std.proofs.lemmas.List.{at_drop_more, at_drop_all}
use Rattle.rounding.proofs.Roots.{root_laws}
use Rattle.combination.specs.declared.response.Response.{Response}
use Rattle.combination.specs.Values.{mode, size, total}
use Rattle.combination.proofs.absolute.AbsoluteSumRule.combine.Goals as goal

-- what is left falls by the size of the next value
left : (xs : List Response) (i : ℕ) → i < length xs → total (drop i xs) ≡ size (get_or xs i (mode 0 (pos 0))) + total (drop (i + 1) xs)
left xs i l = at_drop_more total xs i (mode 0 (pos 0)) l

pub overflow_add-sum : goal.overflow_add-sum
overflow_add-sum c = omega (arith, left c.args.list.items.now c.loop-x.x-index c.loop-x-test.true, c.loop-x.invariant, c.size-sum.ensures, c.args.list.sound.2)

pub loop-x-preserved : goal.loop-x-preserved
loop-x-preserved c = omega (arith, left c.args.list.items.now c.loop-x.x-index c.loop-x-test.true, c.loop-x.invariant, c.size-sum.ensures)

-- the sum is the root of its own square
pub returns : goal.returns
returns c =
    let z : total (drop c.loop-x.x-index c.args.list.items.now) ≡ 0 = at_drop_all total c.args.list.items.now c.loop-x.x-index c.loop-x-test.false in
    let e : c.loop-x.sum ≡ total c.args.list.items.now = omega (arith, z, c.loop-x.invariant) in
    e ∙ sym (root_laws.whole (total c.args.list.items.now))
