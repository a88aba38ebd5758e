-- What calls make of a list of floors. Assumes nothing.
use Rattle.std.proofs.Common.{◌≡◌, ℕ, zero, suc, ◌+◌, ◌-◌, ◌<◌, ◌≤◌, true, ◌&&◌, ltb, List, [], ◌∷◌, length, set, sym, refl, ap, subst, inl, inr, le_of_suc-le-suc, not-suc-le-zero, arith}
use Rattle.std.proofs.lemmas.List.{length_push, length-set, get_or_past}
use Rattle.std.proofs.lemmas.Bool.{and_parts, and_from, lt-ltb, ltb-true, cases_lt}
use Rattle.standard.specs.Sites.{within}
use Rattle.formulas.specs.declared.floor.Floor.{Floor}
use Rattle.formulas.specs.Buildings.{W}
use Rattle.methods.specs.Loads.{every, in_range, nothing, height_at, roof_of}
use Rattle.methods.proofs.Lists.{every_at, every_append, every_set}
use Rattle.sheet.specs.Floors.{rises_from, weight_at, grown, reweighed}
use Rattle.sheet.proofs.Sums.{sum_n_push, sum_n_set, at_most_sum_n}

-- ---- one floor more

roof_later : (f g : Floor) (fs : List Floor) → roof_of (f ∷ (g ∷ fs)) ≡ roof_of (g ∷ fs)
roof_later f g fs = let e : suc (suc (length fs)) - 1 ≡ suc (suc (length fs) - 1) = omega arith in ap (λ (k : ℕ). height_at (f ∷ (g ∷ fs)) k) e

-- what is below the first floor is below the roof
under_roof : (below : ℕ) (f : Floor) (fs : List Floor) → rises_from below (f ∷ fs) ≡ true → below < roof_of (f ∷ fs)
under_roof below f [] up = ltb-true _ _ (and_parts (ltb below f.height) true up).0
under_roof below f (g ∷ fs) up =
    let p = and_parts (ltb below f.height) (rises_from f.height (g ∷ fs)) up in
    omega (arith, ltb-true _ _ p.0, under_roof f.height g fs p.1, roof_later f g fs)

pub rises_grown : (below : ℕ) (fs : List Floor) (h w : ℕ) → rises_from below fs ≡ true → below < h → roof_of fs < h → rises_from below (grown fs h w) ≡ true
rises_grown below [] h w up low over = and_from (ltb below h) true (lt-ltb _ _ low) refl
rises_grown below (f ∷ []) h w up low over =
    let p = and_parts (ltb below f.height) true up in
    and_from (ltb below f.height) (ltb f.height h && true) p.0 (and_from (ltb f.height h) true (lt-ltb _ _ over) refl)
rises_grown below (f ∷ (g ∷ fs)) h w up low over =
    let p = and_parts (ltb below f.height) (rises_from f.height (g ∷ fs)) up in
    let over' : roof_of (g ∷ fs) < h = subst (λ (r : ℕ). r < h) (roof_later f g fs) over in
    and_from (ltb below f.height) (rises_from f.height (grown (g ∷ fs) h w)) p.0 (rises_grown f.height (g ∷ fs) h w p.1 (omega (arith, under_roof f.height g fs p.1, over')) over')

pub ranged_grown : (fs : List Floor) (h w : ℕ) → every in_range fs ≡ true → within 20 2000 h ≡ true → within 100 100000 w ≡ true → every in_range (grown fs h w) ≡ true
ranged_grown fs h w all p q = every_append in_range fs _ all (and_from (in_range (record { height = h; weight = w })) true (and_from (within 20 2000 h) (within 100 100000 w) p q) refl)

pub weight_grown : (fs : List Floor) (h w : ℕ) → W (grown fs h w) ≡ W fs + w
weight_grown fs h w = sum_n_push (λ f. f.weight) fs (record { height = h; weight = w })

pub length_grown : (fs : List Floor) (h w : ℕ) → length (grown fs h w) ≡ length fs + 1
length_grown fs h w = length_push fs (record { height = h; weight = w })

-- ---- another weight

rises_set : (below : ℕ) (fs : List Floor) (k : ℕ) (v : Floor) → k < length fs → v.height ≡ height_at fs k → rises_from below fs ≡ true → rises_from below (set fs k v) ≡ true
rises_set below [] k v l e up = absurd (not-suc-le-zero l)
rises_set below (f ∷ fs) zero v l e up = let h : ℕ = v.height in subst (λ (x : ℕ). (ltb below x && rises_from x fs) ≡ true) (sym e) up
rises_set below (f ∷ fs) (suc k) v l e up =
    let p = and_parts (ltb below f.height) (rises_from f.height fs) up in
    and_from (ltb below f.height) (rises_from f.height (set fs k v)) p.0 (rises_set f.height fs k v (le_of_suc-le-suc l) e p.1)

pub rises_reweighed : (fs : List Floor) (k w : ℕ) → k < length fs → rises_from 0 fs ≡ true → rises_from 0 (reweighed fs k w) ≡ true
rises_reweighed fs k w l up = rises_set 0 fs k _ l refl up

pub ranged_reweighed : (fs : List Floor) (k w : ℕ) → k < length fs → every in_range fs ≡ true → within 100 100000 w ≡ true → every in_range (reweighed fs k w) ≡ true
ranged_reweighed fs k w l all q =
    let p = and_parts (within 20 2000 (height_at fs k)) (within 100 100000 (weight_at fs k)) (every_at in_range fs k nothing all l) in
    every_set in_range fs k _ all (and_from (within 20 2000 (height_at fs k)) (within 100 100000 w) p.0 q)

pub weight_within : (fs : List Floor) (k : ℕ) → weight_at fs k ≤ W fs
weight_within fs k =
    elim (cases_lt k (length fs)) [
      | inl l ↦ at_most_sum_n (λ f. f.weight) fs k nothing l
      | inr l ↦ omega (arith, ap (λ (f : Floor). f.weight) (get_or_past fs k nothing l))
    ]

pub weight_reweighed : (fs : List Floor) (k w : ℕ) → k < length fs → W (reweighed fs k w) ≡ W fs - weight_at fs k + w
weight_reweighed fs k w l = omega (arith, sum_n_set (λ f. f.weight) fs k (record { height = height_at fs k; weight = w }) nothing l, weight_within fs k)

pub length_reweighed : (fs : List Floor) (k w : ℕ) → length (reweighed fs k w) ≡ length fs
length_reweighed fs k w = length-set fs k _

pub ruleset reweighing = (weight_within, length_reweighed, rises_reweighed, ranged_reweighed, weight_reweighed)
