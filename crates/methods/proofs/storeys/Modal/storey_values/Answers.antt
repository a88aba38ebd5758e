use Rattle.std.proofs.Common.{◌≡◌, ℕ, ◌+◌, ◌<◌, List, [], ◌∷◌, ◌++◌, length, get_or, take, ℤ, sym, ◌∙◌, arith, rules, w32}
use borrow.Author.Differences.{ints}
use Rattle.rounding.proofs.Order.{back}
use Rattle.standard.specs.declared.fraction.Fraction.{Fraction}
use Rattle.base_shear.specs.Accelerations.{acceleration_of}
use Rattle.combination.specs.declared.response.Response.{Response}
use Rattle.combination.specs.Values.{mode}
use Rattle.formulas.specs.Modal.{modal_shear_of, storey_values_of}
use Rattle.methods.specs.declared.motion.Motion.{Motion}
use Rattle.methods.specs.declared.shapes.Shapes.{Shapes}
use Rattle.methods.specs.Shapes.{mode_by, mode_of}
use Rattle.methods.specs.Views.{floors_in, modes_in}
use Rattle.methods.proofs.RowFacts.{blank, row_usable, values_more, values_none}
use Rattle.methods.proofs.storeys.Modal.storey_values.Goals as goal

-- one value more
module _ (s : Shapes) (a : ℕ → Fraction) (i k : ℕ) (low : k < length s.rows.now) (m : Motion) (floors : m.loads.floors.now ≡ floors_in s) (is : mode_by m.period.value m.ordinates.now ≡ mode_of (length (floors_in s)) (get_or s.rows.now k blank)) (x : ℤ) (x-is : x ≡ modal_shear_of (a m.period.value) m.loads.floors.now m.ordinates.now i) (trip : back w32 x ≡ x) where
  shear-is : back w32 x ≡ modal_shear_of (a (get_or s.rows.now k blank).period) (floors_in s) (mode_of (length (floors_in s)) (get_or s.rows.now k blank)).ordinates i
  shear-is = trip ∙ x-is ∙ (λ j. modal_shear_of (a (is j).period) (floors j) (is j).ordinates i)

  step : (values : List Response) → values ≡ storey_values_of a (floors_in s) (take k (modes_in s)) i → values ++ mode (get_or s.rows.now k blank).period (back w32 x) ∷ [] ≡ storey_values_of a (floors_in s) (take (k + 1) (modes_in s)) i
  step values before =
      (λ j. before j ++ mode (get_or s.rows.now k blank).period (shear-is j) ∷ [])
      ∙ sym (values_more (length (floors_in s)) s.rows.now k low a (floors_in s) i)

pub of-motion-requires : goal.of-motion-requires
of-motion-requires g c = let s = c.args.self.now.shapes.now in row_usable (length (floors_in s)) s.rows.now c.loop-row.row-index c.loop-row-test.true s.fit

pub loop-row-preserved : goal.loop-row-preserved
loop-row-preserved g c =
    let s = c.args.self.now.shapes.now in
    let a = acceleration_of c.args.self.now.shaking.now.site.now.terms (g.C.Spectrum.ordinate c.args.self.now.shaking.now.spectrum.now) in
    let trip : back w32 c.modal_shear.result ≡ c.modal_shear.result = omega (arith, ints) in
    record {
      counted = search rules;
      taken = c.push.ensures.items ∙ step s a (c.args.storey + 1) c.loop-row.row-index c.loop-row-test.true c.of-motion.result c.of-motion.ensures.floors c.of-motion.ensures.mode c.modal_shear.result c.modal_shear.ensures trip c.loop-row.values.items c.loop-row.invariant.taken;
    }

pub loop-row-init : goal.loop-row-init
loop-row-init g c = record { counted = search rules; taken = search rules ∙ values_none (acceleration_of c.args.self.now.shaking.now.site.now.terms (g.C.Spectrum.ordinate c.args.self.now.shaking.now.spectrum.now)) (floors_in c.args.self.now.shapes.now) (c.args.storey + 1) }
