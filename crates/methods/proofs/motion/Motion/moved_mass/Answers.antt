use Rattle.std.proofs.Common.{◌≡◌, ℕ, ◌+◌, ◌*◌, List, ◌∷◌, ℤ, nat_abs, sym, ap, ◌∙◌, arith, w16}
use borrow.Author.Differences.{ints}
use Rattle.std.specs.Iterator.Adapters.{zip_first, zip_second}
use Rattle.std.specs.Slice.Iter.{iter_rest}
use Rattle.std.proofs.lemmas.Slice.Zip.{either_empty_from_Zip}
use Rattle.rounding.specs.Sums.{second_n}
use Rattle.rounding.proofs.Order.{back}
use Rattle.formulas.specs.declared.floor.Floor.{Floor}
use Rattle.formulas.specs.Modal.{paired}
use Rattle.methods.proofs.ModeFacts.{Left, left_low, second_more, paired_none}
use Rattle.methods.proofs.RowFacts.{mass_small}
use Rattle.methods.proofs.motion.Motion.moved_mass.Goals as goal

-- the sum of squares, one floor on, where u is the size of the ordinate
more : (fs fs' : List Floor) (φ φ' : List ℤ) (f : Floor) (y : ℤ) → fs ≡ f ∷ fs' → φ ≡ y ∷ φ' → Left fs φ → (u : ℕ) → u ≡ nat_abs (back w16 y) → second_n (paired fs φ) ≡ f.weight * (u * u) + second_n (paired fs' φ')
more fs fs' φ φ' f y e h left u u-is =
    let low = left_low fs fs' φ φ' f y e h left in
    let trip : back w16 y ≡ y = omega (arith, ints, low) in
    second_more fs fs' φ φ' f y e h left ∙ ap (λ (n : ℕ). f.weight * (n * n) + second_n (paired fs' φ')) (sym (u-is ∙ ap nat_abs trip))

pub overflow_add-sum : goal.overflow_add-sum
overflow_add-sum c =
    let s = c.in-Some.ensures.steps in
    let m = c.args.self.now in
    let e = more _ _ _ _ c.in-Some.floor.now c.in-Some.ordinate.now s.0 s.1 c.loop-floor.invariant.2 c.unsigned_abs-size.result c.unsigned_abs-size.ensures.value in
    omega (arith, e, mass_small m, c.loop-floor.invariant.3)

pub returns : goal.returns
returns c =
    let z : second_n (paired (iter_rest (zip_first c.loop-floor.floor-iterator)) (iter_rest (zip_second c.loop-floor.floor-iterator))) ≡ 0 = ap second_n (paired_none _ _ (either_empty_from_Zip c.loop-floor.floor-iterator c.next.new.self c.next.result c.in-None.is c.next.ensures.steps)) in
    omega (arith, z, c.loop-floor.invariant.3)
