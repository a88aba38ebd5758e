-- What the ranges of floors say of their sums. Assumes nothing.
use Rattle.std.proofs.Common.{◌≡◌, ℕ, ◌+◌, ◌*◌, ◌≤◌, true, leb, List, [], ◌∷◌, sym, refl, ap, ◌∙◌, mul-le-mul, mul-le-mul_left, arith}
use Rattle.std.specs.List.{sum_by}
use Rattle.std.proofs.lemmas.List.Sums.{sum_by-cons}
use Rattle.std.proofs.lemmas.Bool.{and_parts, leb-true}
use Rattle.standard.specs.Sites.{within}
use Rattle.formulas.specs.declared.floor.Floor.{Floor}
use Rattle.formulas.specs.Buildings.{Built, W}
use Rattle.formulas.specs.Static.{S}
use Rattle.methods.specs.Loads.{every, in_range}

pub record Ranged (f : Floor) : Type 0 where
  pub low : 20 ≤ f.height
  pub high : f.height ≤ 2000
  pub light : 100 ≤ f.weight
  pub heavy : f.weight ≤ 100000

pub ranged : (f : Floor) → in_range f ≡ true → Ranged f
ranged f e =
    let h = and_parts (within 20 2000 f.height) (within 100 100000 f.weight) e in
    let a = and_parts (leb 20 f.height) (leb f.height 2000) h.0 in
    let b = and_parts (leb 100 f.weight) (leb f.weight 100000) h.1 in
    record { low = leb-true _ _ a.0; high = leb-true _ _ a.1; light = leb-true _ _ b.0; heavy = leb-true _ _ b.1 }

pub built : (fs : List Floor) → every in_range fs ≡ true → Built fs
built [] e = tt
built (f ∷ fs) e =
    let h = and_parts (in_range f) (every in_range fs) e in
    let r = ranged f h.0 in
    ((omega (arith, r.light), omega (arith, r.low)), built fs h.1)

-- a moment is at most 2000² times the weight
pub moment_size : (fs : List Floor) → every in_range fs ≡ true → S fs ≤ 4000000 * W fs
moment_size [] e = omega arith
moment_size (f ∷ fs) e =
    let h = and_parts (in_range f) (every in_range fs) e in
    let r = ranged f h.0 in
    let a : f.height * f.height ≤ 2000 * 2000 = mul-le-mul r.high r.high in
    let b : f.weight * (f.height * f.height) ≤ f.weight * (2000 * 2000) = mul-le-mul_left f.weight a in
    omega (arith, b, moment_size fs h.1)

-- what the moments of the floors add up to
pub moments : (fs : List Floor) → S fs ≡ sum_by (λ f. f.weight * (f.height * f.height)) fs
moments [] = refl
moments (f ∷ fs) = ap (λ (n : ℕ). f.weight * (f.height * f.height) + n) (moments fs) ∙ sym (sum_by-cons (λ (f : Floor). f.weight * (f.height * f.height)) f fs)
