use Rattle.std.proofs.Common.{◌≡◌, ℕ, ◌+◌, ◌-◌, ◌*◌, ◌≤◌, List, drop, ap, ◌∙◌, mul-le-mul, arith}
use Rattle.formulas.specs.declared.floor.Floor.{Floor}
use Rattle.formulas.specs.Static.{S, static_shear}
use Rattle.formulas.proofs.Sums.{sum_n_drop}
use Rattle.formulas.proofs.Static.{static_some, static_size}
use Rattle.rounding.specs.Rounding.{nearest}
use Rattle.methods.proofs.LoadFacts.{built, moment_size}
use Rattle.methods.proofs.statics.static_shears.Goals as goal

pub overflow_mul-base : goal.overflow_mul-base
overflow_mul-base c =
    let l = c.args.loads.now in
    let s = moment_size l.floors.now l.ranged in
    let a : c.loop-floor.rest ≤ 2000000000000 = omega (arith, s, sum_n_drop (λ (f : Floor). f.weight * (f.height * f.height)) c.loop-floor.floor-index l.floors.now, c.loop-floor.invariant.left, l.summed, l.light) in
    let b : c.args.base.value * c.loop-floor.rest ≤ 720000 * 2000000000000 = mul-le-mul c.args.base.low a in
    omega arith

pub invariant_of-whole : goal.invariant_of-whole
invariant_of-whole c =
    let l = c.args.loads.now in
    let s = moment_size l.floors.now l.ranged in
    let p = static_some l.floors.now (built l.floors.now l.ranged) l.some in
    record { positive = omega (arith, p, c.whole_moment.ensures); within = omega (arith, s, c.whole_moment.ensures, l.summed, l.light) }

-- the shear that is pushed is that of the storey above place i
pushed : (base rest whole v i : ℕ) (fs : List Floor) → v ≡ nearest (base * rest) whole → rest ≡ S (drop i fs) → whole ≡ S fs → v ≡ static_shear base fs (i + 1)
pushed base rest whole v i fs e r w =
    let k : i ≡ i + 1 - 1 = omega arith in
    e ∙ (λ j. nearest (base * r j) (w j)) ∙ ap (λ (n : ℕ). nearest (base * S (drop n fs)) (S fs)) k

pub overflow_cast-nearest_quotient : goal.overflow_cast-nearest_quotient
overflow_cast-nearest_quotient c =
    let l = c.args.loads.now in
    let v = pushed c.args.base.value c.loop-floor.rest c.whole_moment.result c.nearest_quotient.result c.loop-floor.floor-index l.floors.now c.nearest_quotient.ensures c.loop-floor.invariant.left c.whole_moment.ensures in
    omega (arith, v, static_size c.args.base.value l.floors.now (c.loop-floor.floor-index + 1) (built l.floors.now l.ranged) l.some, c.args.base.low)
