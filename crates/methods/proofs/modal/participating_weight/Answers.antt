use Rattle.std.proofs.Common.{◌≡◌, ℕ, ◌+◌, ◌<◌, ◌≤◌, length, get_or, drop, ℤ, nat_abs, ap, ◌∙◌, arith, w32}
use borrow.Author.Differences.{ints}
use Rattle.std.proofs.lemmas.List.{length-map}
use Rattle.rounding.proofs.Order.{back}
use Rattle.formulas.specs.Modal.{modal_weight_of, modal_weights}
use Rattle.methods.specs.declared.motion.Motion.{Motion}
use Rattle.methods.specs.declared.shapes.Shapes.{Shapes}
use Rattle.methods.specs.Shapes.{mode_by, mode_of}
use Rattle.methods.specs.Views.{floors_in, modes_in}
use Rattle.methods.proofs.RowFacts.{blank, row_usable, weights_more, weights_small, moved_small}
use Rattle.methods.proofs.modal.participating_weight.Goals as goal

module _ (s : Shapes) (k : ℕ) (low : k < length s.rows.now) (m : Motion) (floors : m.loads.floors.now ≡ floors_in s) (is : mode_by m.period.value m.ordinates.now ≡ mode_of (length (floors_in s)) (get_or s.rows.now k blank)) (x : ℤ) (x-is : x ≡ modal_weight_of m.loads.floors.now m.ordinates.now 1) (u : ℕ) (u-is : u ≡ nat_abs (back w32 x)) where
  weight-is : x ≡ modal_weight_of (floors_in s) (mode_of (length (floors_in s)) (get_or s.rows.now k blank)).ordinates 1
  weight-is = x-is ∙ (λ j. modal_weight_of (floors j) (is j).ordinates 1)

  size : u ≡ nat_abs (modal_weight_of (floors_in s) (mode_of (length (floors_in s)) (get_or s.rows.now k blank)).ordinates 1)
  size =
      let e : back w32 x ≡ x = omega (arith, ints, x-is, moved_small m 1) in
      u-is ∙ ap nat_abs (e ∙ weight-is)

  more : modal_weights (floors_in s) (drop k (modes_in s)) ≡ u + modal_weights (floors_in s) (drop (k + 1) (modes_in s))
  more = omega (arith, size, weights_more (length (floors_in s)) s.rows.now k low (floors_in s))

small : (s : Shapes) → modal_weights (floors_in s) (modes_in s) ≤ 6480000
small s = omega (arith, weights_small s.loads (modes_in s) s.fit, length-map s.rows.now (mode_of (length (floors_in s))), s.few)

pub of-motion-requires : goal.of-motion-requires
of-motion-requires c = let s = c.args.shapes.now in row_usable (length (floors_in s)) s.rows.now c.loop-row.row-index c.loop-row-test.true s.fit

pub overflow_add-sum : goal.overflow_add-sum
overflow_add-sum c =
    let m = more c.args.shapes.now c.loop-row.row-index c.loop-row-test.true c.of-motion.result c.of-motion.ensures.floors c.of-motion.ensures.mode c.modal_weight.result c.modal_weight.ensures c.unsigned_abs-sum.result c.unsigned_abs-sum.ensures.value in
    omega (arith, m, small c.args.shapes.now, c.loop-row.invariant)

pub loop-row-preserved : goal.loop-row-preserved
loop-row-preserved c =
    let m = more c.args.shapes.now c.loop-row.row-index c.loop-row-test.true c.of-motion.result c.of-motion.ensures.floors c.of-motion.ensures.mode c.modal_weight.result c.modal_weight.ensures c.unsigned_abs-sum.result c.unsigned_abs-sum.ensures.value in
    omega (arith, m, c.loop-row.invariant)

pub returns-clause-small : goal.returns-clause-small
returns-clause-small c = omega (arith, c.loop-row.invariant, small c.args.shapes.now)
