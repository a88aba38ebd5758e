use Rattle.std.proofs.Common.{◌≡◌, ℕ, ◌+◌, ◌-◌, min, List, length, drop, ℤ, pos, ◌+ℤ◌, sym, ap, ◌∙◌, arith, rules}
use borrow.Author.Differences.{ints}
use Rattle.std.specs.Iterator.Adapters.{zip_first, zip_second}
use Rattle.std.specs.Slice.Iter.{iter_rest}
use Rattle.std.proofs.lemmas.List.{take_rest, drop_min}
use Rattle.std.proofs.lemmas.Slice.Zip.{either_empty_from_Zip}
use Rattle.rounding.specs.Sums.{first}
use Rattle.formulas.specs.Modal.{paired, L}
use Rattle.methods.specs.declared.motion.Motion.{Motion}
use Rattle.methods.specs.Shapes.{mode_by}
use Rattle.methods.proofs.ModeFacts.{fit, Left, left_as, left_first, left_from, left_heavy, left_low, left_more, first_more, paired_none}
use Rattle.methods.proofs.RowFacts.{left_all}
use Rattle.methods.proofs.Trips.{lever_fits, lever_is, sum_fits, sum_step}
use Rattle.methods.proofs.motion.Motion.lever_sum.Goals as goal

-- what there is to add up from a place on
whole : (m : Motion) (from : ℕ) → Left (drop from m.loads.floors.now) (drop from m.ordinates.now)
whole m from = left_from m.loads.floors.now m.ordinates.now from (left_all m)

-- a place past the end leaves as little as the end
cut : {A : Type 0} (xs : List A) (k from : ℕ) → k ≡ min from (length xs) → drop k xs ≡ drop from xs
cut xs k from e = ap (λ (n : ℕ). drop n xs) e ∙ drop_min from xs

-- nothing is left of it
done : (m : Motion) (from : ℕ) (s z : ℤ) → z ≡ pos 0 → s +ℤ z ≡ first (paired (drop from m.loads.floors.now) (drop from m.ordinates.now)) → s ≡ L m.loads.floors.now m.ordinates.now (from + 1)
done m from s z z-is e =
    let a : s ≡ first (paired (drop from m.loads.floors.now) (drop from m.ordinates.now)) = omega (arith, ints) in
    let k : from ≡ from + 1 - 1 = omega arith in
    a ∙ ap (λ (n : ℕ). first (paired (drop n m.loads.floors.now) (drop n m.ordinates.now))) k

pub loop-floor-init : goal.loop-floor-init
loop-floor-init c =
    let m = c.args.self.now in
    let start-is : c.min-start.result ≡ min c.args.from (length c.args.self.now.loads.floors.now) = search rules in
    let counted = (fit (length m.loads.floors.now) (mode_by m.period.value m.ordinates.now) m.fit).counted in
    let a : iter_rest (zip_first c.into_iter-floor-iterator.result) ≡ drop c.min-start.result c.args.self.now.loads.floors.now = search (rules, take_rest) in
    let b : iter_rest (zip_second c.into_iter-floor-iterator.result) ≡ drop c.min-start.result c.args.self.now.ordinates.now = search (rules, take_rest) in
    let e = a ∙ cut m.loads.floors.now c.min-start.result c.args.from start-is in
    let h = b ∙ cut m.ordinates.now c.min-start.result c.args.from (start-is ∙ ap (min c.args.from) (sym counted)) in
    let t : first (paired (iter_rest (zip_first c.into_iter-floor-iterator.result)) (iter_rest (zip_second c.into_iter-floor-iterator.result))) ≡ first (paired (drop c.args.from c.args.self.now.loads.floors.now) (drop c.args.from c.args.self.now.ordinates.now)) = λ i. first (paired (e i) (h i)) in
    ((tt, tt), tt, left_as _ _ _ _ e h (whole c.args.self.now c.args.from), omega (arith, ints, t))

pub overflow_mul-sum : goal.overflow_mul-sum
overflow_mul-sum c =
    let s = c.in-Some.ensures.steps in
    let left = c.loop-floor.invariant.2 in
    lever_fits c.in-Some.floor.now.weight c.in-Some.ordinate.now (left_heavy _ _ _ _ c.in-Some.floor.now c.in-Some.ordinate.now s.0 s.1 left) (left_low _ _ _ _ c.in-Some.floor.now c.in-Some.ordinate.now s.0 s.1 left)

pub overflow_add-sum : goal.overflow_add-sum
overflow_add-sum c =
    let s = c.in-Some.ensures.steps in
    let f = c.in-Some.floor.now in
    let y = c.in-Some.ordinate.now in
    let left = c.loop-floor.invariant.2 in
    let is = lever_is f.weight y (left_heavy _ _ _ _ f y s.0 s.1 left) (left_low _ _ _ _ f y s.0 s.1 left) in
    sum_fits _ _ _ _ _ _ is c.loop-floor.invariant.3 (first_more _ _ _ _ f y s.0 s.1 left) (left_first _ _ (whole c.args.self.now c.args.from)) (left_first _ _ (left_more _ _ _ _ f y s.0 s.1 left))

pub loop-floor-preserved : goal.loop-floor-preserved
loop-floor-preserved c =
    let s = c.in-Some.ensures.steps in
    let f = c.in-Some.floor.now in
    let y = c.in-Some.ordinate.now in
    let left = c.loop-floor.invariant.2 in
    let is = lever_is f.weight y (left_heavy _ _ _ _ f y s.0 s.1 left) (left_low _ _ _ _ f y s.0 s.1 left) in
    let more = left_more _ _ _ _ f y s.0 s.1 left in
    ((tt, tt), tt, more, sum_step _ _ _ _ _ _ is c.loop-floor.invariant.3 (first_more _ _ _ _ f y s.0 s.1 left) (left_first _ _ (whole c.args.self.now c.args.from)) (left_first _ _ more))

pub returns : goal.returns
returns c =
    let z : first (paired (iter_rest (zip_first c.loop-floor.floor-iterator)) (iter_rest (zip_second c.loop-floor.floor-iterator))) ≡ pos 0 = ap first (paired_none _ _ (either_empty_from_Zip c.loop-floor.floor-iterator c.next.new.self c.next.result c.in-None.is c.next.ensures.steps)) in
    done c.args.self.now c.args.from _ _ z c.loop-floor.invariant.3
