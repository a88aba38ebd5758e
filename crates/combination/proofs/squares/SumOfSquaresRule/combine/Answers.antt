use Rattle.std.proofs.Common.{◌≡◌, ℕ, ◌+◌, ◌*◌, ◌<◌, ◌≤◌, List, length, get_or, drop, pos, ap, ◌∙◌, arith}
use Rattle.std.proofs.lemmas.List.{at_drop_more, at_drop_all}
use Rattle.rounding.specs.Roots.{root}
use Rattle.combination.specs.declared.response.Response.{Response}
use Rattle.combination.specs.Values.{mode, size, largest}
use Rattle.combination.specs.Squared.{squares}
use Rattle.combination.specs.Numbers.{root_at_most}
use Rattle.combination.proofs.SquaresLaws.{squares_small}
use Rattle.combination.proofs.squares.SumOfSquaresRule.combine.Goals as goal
use Rattle.combination.proofs.squares.SumOfSquaresRule.combine.Goals.{After-nearest_root}

-- what is left falls by the square of the next value's size
left : (xs : List Response) (i : ℕ) → i < length xs → squares (drop i xs) ≡ size (get_or xs i (mode 0 (pos 0))) * size (get_or xs i (mode 0 (pos 0))) + squares (drop (i + 1) xs)
left xs i l = at_drop_more squares xs i (mode 0 (pos 0)) l

pub overflow_add-sum : goal.overflow_add-sum
overflow_add-sum c = rw c.size-size.ensures (omega (arith, left c.args.list.items.now c.loop-x.x-index c.loop-x-test.true, c.loop-x.invariant, squares_small c.args.list.items.now c.args.list.sound.2))

pub loop-x-preserved : goal.loop-x-preserved
loop-x-preserved c = rw c.size-size.ensures (omega (arith, left c.args.list.items.now c.loop-x.x-index c.loop-x-test.true, c.loop-x.invariant))

ended : (c : After-nearest_root) → c.loop-x.sum ≡ squares c.args.list.items.now
ended c =
    let e : squares (drop c.loop-x.x-index c.args.list.items.now) ≡ 0 = at_drop_all squares c.args.list.items.now c.loop-x.x-index c.loop-x-test.false in
    omega (arith, e, c.loop-x.invariant)

-- the root is at most the sum of the sizes' limit, which fits
pub overflow_cast-result : goal.overflow_cast-result
overflow_cast-result c =
    let h : root c.loop-x.sum ≤ largest = root_at_most _ largest (omega (arith, ended c, squares_small c.args.list.items.now c.args.list.sound.2)) in
    omega (arith, h, c.nearest_root.ensures)

pub returns : goal.returns
returns c = c.nearest_root.ensures ∙ ap root (ended (goal.at.returns c).After-nearest_root)
