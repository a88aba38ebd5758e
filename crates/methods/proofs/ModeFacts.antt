-- What a mode that can be used says of its sums. Assumes nothing.
use Rattle.std.proofs.Common.{◌≡◌, ℕ, zero, suc, ◌+◌, ◌*◌, ◌^◌, ◌<◌, ◌≤◌, Bool, true, false, not, eqb, leb, ◌⊎◌, List, [], ◌∷◌, length, drop, ℤ, pos, ◌+ℤ◌, ◌*ℤ◌, nat_abs, sym, refl, ap, subst, inl, inr, le_refl, mul-le-mul, mul-le-mul_left, arith}
use Rattle.std.proofs.lemmas.Bool.{and_parts, and_cases, leb-true, eqb-true, eqb-false, ltb-false, not-true}
use Rattle.rounding.specs.Sums.{first, second_n}
use Rattle.rounding.proofs.Order.{nat_abs_add, nat_abs_mul_le}
use Rattle.standard.specs.Sites.{within}
use Rattle.formulas.specs.declared.floor.Floor.{Floor}
use Rattle.formulas.specs.Buildings.{Mode, W, heaviest}
use Rattle.formulas.specs.Modal.{paired, M}
use Rattle.formulas.proofs.Sums.{sum_n_drop}
use Rattle.methods.specs.Loads.{every, in_range}
use Rattle.methods.specs.Shapes.{outside, all_zero, usable}
use Rattle.methods.proofs.Lists.{every_drop}
use Rattle.methods.proofs.LoadFacts.{ranged}

-- every ordinate is within its range
abbrev pub low : List ℤ → Bool
low φ = every (λ y. not (outside y)) φ

pub record Fit (n : ℕ) (m : Mode) : Type 0 where
  pub some : 1 ≤ m.period
  pub few : m.period ≤ 4000
  pub counted : length m.ordinates ≡ n
  pub lows : low m.ordinates ≡ true
  pub moves : all_zero m.ordinates ≡ false

pub fit : (n : ℕ) (m : Mode) → usable n m ≡ true → Fit n m
fit n m e =
    let a = and_parts (within 1 4000 m.period) _ e in
    let b = and_parts (eqb (length m.ordinates) n) _ a.1 in
    let c = and_parts (low m.ordinates) (not (all_zero m.ordinates)) b.1 in
    let d = and_parts (leb 1 m.period) (leb m.period 4000) a.0 in
    record { some = leb-true _ _ d.0; few = leb-true _ _ d.1; counted = eqb-true _ _ b.0; lows = c.0; moves = not-true _ c.1 }

-- the size of an ordinate within its range
pub low_size : (y : ℤ) → not (outside y) ≡ true → nat_abs y ≤ 4000
low_size y e = ltb-false 4000 (nat_abs y) (not-true _ e)

-- ---- sizes

pub first_low : (fs : List Floor) (φ : List ℤ) → low φ ≡ true → nat_abs (first (paired fs φ)) ≤ 4000 * W fs
first_low [] φ e = omega arith
first_low (f ∷ fs) [] e = omega arith
first_low (f ∷ fs) (y ∷ φ) e =
    let h = and_parts (not (outside y)) (low φ) e in
    let a : nat_abs (pos f.weight *ℤ y) ≤ f.weight * 4000 = nat_abs_mul_le (pos f.weight) y f.weight 4000 (le_refl _) (low_size y h.0) in
    omega (arith, a, nat_abs_add (pos f.weight *ℤ y) (first (paired fs φ)), first_low fs φ h.1)

pub second_low : (fs : List Floor) (φ : List ℤ) → low φ ≡ true → M fs φ ≤ 16000000 * W fs
second_low [] φ e = omega arith
second_low (f ∷ fs) [] e = omega arith
second_low (f ∷ fs) (y ∷ φ) e =
    let h = and_parts (not (outside y)) (low φ) e in
    let s = low_size y h.0 in
    let a : nat_abs y * nat_abs y ≤ 4000 * 4000 = mul-le-mul s s in
    let b : f.weight * (nat_abs y * nat_abs y) ≤ f.weight * (4000 * 4000) = mul-le-mul_left f.weight a in
    omega (arith, b, second_low fs φ h.1)

-- floors and ordinates that are left to be added up
pub record Left (fs : List Floor) (φ : List ℤ) : Type 0 where
  pub ranged : every in_range fs ≡ true
  pub lows : low φ ≡ true
  pub light : W fs ≤ heaviest

pub left_first : (fs : List Floor) (φ : List ℤ) → Left fs φ → nat_abs (first (paired fs φ)) ≤ 2000000000
left_first fs φ left = omega (arith, first_low fs φ left.lows, left.light)

pub left_second : (fs : List Floor) (φ : List ℤ) → Left fs φ → second_n (paired fs φ) < 2 ^ 63
left_second fs φ left = omega (arith, second_low fs φ left.lows, left.light)

pub left_from : (fs : List Floor) (φ : List ℤ) (k : ℕ) → Left fs φ → Left (drop k fs) (drop k φ)
left_from fs φ k left =
    record {
      ranged = every_drop in_range fs k left.ranged;
      lows = every_drop (λ y. not (outside y)) φ k left.lows;
      light = omega (arith, sum_n_drop (λ (f : Floor). f.weight) k fs, left.light);
    }

pub left_as : (fs gs : List Floor) (φ ψ : List ℤ) → gs ≡ fs → ψ ≡ φ → Left fs φ → Left gs ψ
left_as fs gs φ ψ e h left = subst (λ (ys : List ℤ). Left gs ys) (sym h) (subst (λ (hs : List Floor). Left hs φ) (sym e) left)

-- one floor and its ordinate, and what is left then
module _ (fs fs' : List Floor) (φ φ' : List ℤ) (f : Floor) (y : ℤ) (floors : fs ≡ f ∷ fs') (ordinates : φ ≡ y ∷ φ') (left : Left fs φ) where
  left_here : Left (f ∷ fs') (y ∷ φ')
  left_here = left_as fs (f ∷ fs') φ (y ∷ φ') (sym floors) (sym ordinates) left

  pub left_heavy : f.weight ≤ 100000
  left_heavy = (ranged f (and_parts (in_range f) (every in_range fs') left_here.ranged).0).heavy

  pub left_low : nat_abs y ≤ 4000
  left_low = low_size y (and_parts (not (outside y)) (low φ') left_here.lows).0

  pub left_more : Left fs' φ'
  left_more =
      record {
        ranged = (and_parts (in_range f) (every in_range fs') left_here.ranged).1;
        lows = (and_parts (not (outside y)) (low φ') left_here.lows).1;
        light = omega (arith, left_here.light);
      }

  pub first_more : first (paired fs φ) ≡ pos f.weight *ℤ y +ℤ first (paired fs' φ')
  first_more = λ i. first (paired (floors i) (ordinates i))

  pub second_more : second_n (paired fs φ) ≡ f.weight * (nat_abs y * nat_abs y) + second_n (paired fs' φ')
  second_more = λ i. second_n (paired (floors i) (ordinates i))

-- nothing is left
pub paired_none : (fs : List Floor) (φ : List ℤ) → (fs ≡ []) ⊎ (φ ≡ []) → paired fs φ ≡ []
paired_none fs φ (inl e) = ap (λ (gs : List Floor). paired gs φ) e
paired_none [] φ (inr e) = refl
paired_none (f ∷ fs) φ (inr e) = ap (λ (ys : List ℤ). paired (f ∷ fs) ys) e

-- a floor that moves has a part in the sum of squares
pub second_some : (fs : List Floor) (φ : List ℤ) → every in_range fs ≡ true → length φ ≡ length fs → all_zero φ ≡ false → 1 ≤ M fs φ
second_some fs [] r l e = absurd (let z : ◌≡◌ {A = ℕ} 0 1 = cc in omega arith)
second_some [] (y ∷ φ) r l e = absurd (omega arith)
second_some (f ∷ fs) (y ∷ φ) r l e =
    let h = and_parts (in_range f) (every in_range fs) r in
    let g = ranged f h.0 in
    elim (and_cases (eqb (nat_abs y) 0) (all_zero φ) e) [
      | inl b ↦ (let s : 1 ≤ nat_abs y = some (nat_abs y) b in
          let a : 1 * 1 ≤ nat_abs y * nat_abs y = mul-le-mul s s in
          let c : 100 * (1 * 1) ≤ f.weight * (nat_abs y * nat_abs y) = mul-le-mul g.light a in
          omega arith)
      | inr b ↦ omega (arith, second_some fs φ h.1 (omega arith) b)
    ]
  where
    some : (n : ℕ) → eqb n 0 ≡ false → 1 ≤ n
    some zero b = absurd (eqb-false 0 0 b refl)
    some (suc n) b = omega arith
