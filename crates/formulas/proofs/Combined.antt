-- By any rule, what it makes of the rounded modal shears lies less than `margin` from what it makes of the exact ones. Assumes nothing.
use Rattle.std.proofs.Common.{◌≡◌, ℕ, suc, ◌+◌, ◌-◌, ◌*◌, ◌<◌, ◌≤◌, List, [], ◌∷◌, length, ℤ, pos, ◌+ℤ◌, ◌-ℤ◌, ◌*ℤ◌, nat_abs, sym, refl, ap, ◌∙◌, subst, le_trans, mul-le-mul_right, mul-le-mul, mul-le-mul_left, arith}
use native.Mathlib.Decide.{dec_le}
use borrow.Author.Differences.{ints}
use Rattle.rounding.specs.Roots.{root}
use Rattle.rounding.proofs.Roots as R
use Rattle.rounding.proofs.Ring.{◌⊖◌, ◌⊗◌, ring₃, ring₄}
use Rattle.rounding.proofs.Order.{RootLe, root_sum, nat_abs_mul, sq_mono, sq_le}
use Rattle.std.specs.List.{AllByRecursion}
use Rattle.standard.specs.declared.fraction.Fraction.{Fraction}
use Rattle.base_shear.specs.Accelerations.{Acceleration}
use Rattle.combination.specs.declared.response.Response.{Response}
use Rattle.combination.specs.Values.{mode, total, most}
use Rattle.combination.specs.Laws.{Laws, Added, none, more, scaled}
use Rattle.combination.specs.Bound.{rooted, at_most_total}
use Rattle.formulas.specs.declared.floor.Floor.{Floor}
use Rattle.formulas.specs.Buildings.{Mode}
use Rattle.formulas.specs.Modal.{L, M, modal_shear_of, storey_values_of}
use Rattle.formulas.specs.Exact.{Exact, margin, Within, CombinedNear}
use Rattle.formulas.specs.Exact as X
use Rattle.formulas.specs.Theorems.{Usable}
use Rattle.formulas.proofs.Modal.{slack, modal_near}

-- ---- one value

cancel : (e a b : ℕ) → 1 ≤ e → a * e ≤ b * e → a ≤ b
cancel e a b p h = elim (dec_le a b) [ yes l ↦ l | no l ↦ (let k : suc b * e ≤ a * e = mul-le-mul_right e (omega arith) in omega arith) ]

-- a value v near n / d, and x which is D n / d: D v is as near to x, times D
error_size : (D : ℕ) (v x n : ℤ) (d : ℕ) → 1 ≤ d → 100 * nat_abs (v *ℤ pos d -ℤ n) ≤ slack * d → x *ℤ pos d ≡ pos D *ℤ n → 100 * nat_abs (pos D *ℤ v -ℤ x) ≤ slack * D
error_size D v x n d p h e =
    let s : (pos D *ℤ v -ℤ x) *ℤ pos d ≡ pos D *ℤ (v *ℤ pos d -ℤ n) = ring₄ (λ D v x d. (D ⊗ v ⊖ x) ⊗ d) (λ D v x d. D ⊗ (v ⊗ d) ⊖ x ⊗ d) refl (pos D) v x (pos d) ∙ ap (λ (z : ℤ). pos D *ℤ (v *ℤ pos d) -ℤ z) e ∙ ring₄ (λ D v n d. D ⊗ (v ⊗ d) ⊖ D ⊗ n) (λ D v n d. D ⊗ (v ⊗ d ⊖ n)) refl (pos D) v n (pos d) in
    let t : nat_abs (pos D *ℤ v -ℤ x) * d ≡ D * nat_abs (v *ℤ pos d -ℤ n) = sym (nat_abs_mul (pos D *ℤ v -ℤ x) (pos d)) ∙ ap nat_abs s ∙ nat_abs_mul (pos D) (v *ℤ pos d -ℤ n) in
    cancel d (100 * nat_abs (pos D *ℤ v -ℤ x)) (slack * D) p (omega (arith, t, mul-le-mul_left D h))

-- ---- a list of values us = D v, and xs: us is xs and errors es, and xs is us and errors fs

record Errors (D n : ℕ) (us xs : List Response) : Type 0 where
  es : List Response
  fs : List Response
  up : Added xs es us
  down : Added us fs xs
  es_small : 100 * total es ≤ slack * (D * n)
  fs_small : 100 * total fs ≤ slack * (D * n)

fill : (a x : ℤ) → a ≡ x +ℤ (a -ℤ x)
fill a x = omega (arith, ints)

swap : (a x : ℤ) → nat_abs (x -ℤ a) ≡ nat_abs (a -ℤ x)
swap a x = omega (arith, ints)

-- one more value, D v, with its errors
one_more : (D n : ℕ) (us xs : List Response) (p : ℕ) (v x : ℤ) → 100 * nat_abs (pos D *ℤ v -ℤ x) ≤ slack * D → Errors D n us xs → Errors D (suc n) (mode p (pos D *ℤ v) ∷ us) (mode p x ∷ xs)
one_more D n us xs p v x s i =
    record {
      es = mode p (pos D *ℤ v -ℤ x) ∷ i.es;
      fs = mode p (x -ℤ pos D *ℤ v) ∷ i.fs;
      up = more p x (pos D *ℤ v -ℤ x) (pos D *ℤ v) (fill (pos D *ℤ v) x) i.up;
      down = more p (pos D *ℤ v) (x -ℤ pos D *ℤ v) x (fill x (pos D *ℤ v)) i.down;
      es_small = omega (arith, s, i.es_small);
      fs_small = omega (arith, s, swap (pos D *ℤ v) x, i.fs_small);
    }

-- ---- roots

doubled : (a b c : ℕ) → RootLe c a b → RootLe (4 * c) (4 * a) (4 * b)
doubled a b c h = let e : 4 * c - (4 * a + 4 * b) ≡ 4 * (c - (a + b)) = omega arith in rw e (omega arith)

-- the errors together, doubled, leave room for a half
errors_small : (D n t : ℕ) → 1 ≤ D → n ≤ most → 100 * t ≤ slack * (D * n) → 2 * t < (2 * margin - 1) * D
errors_small D n t p l h = omega (arith, mul-le-mul_left D l)

-- √x ≤ √(D² Q) + √f
below : (D c t Q f x : ℕ) → 2 * t < (2 * margin - 1) * D → 4 * Q < (2 * c + 1) * (2 * c + 1) → f ≤ t * t → RootLe x (D * D * Q) f → x < (D * (c + margin)) * (D * (c + margin))
below D c t Q f x small high hf r =
    let a : 4 * (D * D * Q) ≤ (D * (2 * c + 1)) * (D * (2 * c + 1)) = omega (arith, mul-le-mul_left (D * D) high) in
    let b : 4 * f ≤ (2 * t) * (2 * t) = omega arith in
    let s : 4 * x ≤ (D * (2 * c + 1) + 2 * t) * (D * (2 * c + 1) + 2 * t) = root_sum _ _ _ (D * (2 * c + 1)) (2 * t) (doubled _ _ _ r) a b in
    let k : suc (D * (2 * c + 1) + 2 * t) ≤ 2 * (D * (c + margin)) = omega arith in
    strict x (D * (2 * c + 1) + 2 * t) (D * (c + margin)) s (sq_mono k)
  where
    strict : (x s w : ℕ) → 4 * x ≤ s * s → suc s * suc s ≤ (2 * w) * (2 * w) → x < w * w
    strict x s w h k = omega arith

-- √(D² Q) ≤ √x + √e
above : (D c t Q e x : ℕ) → 2 * t < (2 * margin - 1) * D → (2 * c - 1) * (2 * c - 1) ≤ 4 * Q → e ≤ t * t → RootLe (D * D * Q) x e → margin < c → (D * (c - margin)) * (D * (c - margin)) < x
above D c t Q e x small low he r l = elim (dec_le x ((D * (c - margin)) * (D * (c - margin)))) [ yes h ↦ absurd (clash h) | no h ↦ omega arith ]
  where
    clash : x ≤ (D * (c - margin)) * (D * (c - margin)) → ⊥
    clash h =
        let a : 4 * x ≤ (2 * (D * (c - margin))) * (2 * (D * (c - margin))) = omega arith in
        let b : 4 * e ≤ (2 * t) * (2 * t) = omega arith in
        let s : 4 * (D * D * Q) ≤ (2 * (D * (c - margin)) + 2 * t) * (2 * (D * (c - margin)) + 2 * t) = root_sum _ _ _ (2 * (D * (c - margin))) (2 * t) (doubled _ _ _ r) a b in
        let m : (D * (2 * c - 1)) * (D * (2 * c - 1)) ≤ 4 * (D * D * Q) = omega (arith, mul-le-mul_left (D * D) low) in
        let k : D * (2 * c - 1) ≤ 2 * (D * (c - margin)) + 2 * t = sq_le _ _ (le_trans m s) in
        let i : D * (2 * c - 1) ≡ D * (2 * (c - margin)) + (2 * margin - 1) * D = (let j : 2 * c - 1 ≡ 2 * (c - margin) + (2 * margin - 1) = omega arith in rw j (omega arith)) in
        omega arith

-- a rule's root of vs, where D times vs lies that near to xs
within : (q : List Response → ℕ) → Laws q → (D n : ℕ) (vs xs : List Response) → 1 ≤ D → n ≤ most → Errors D n (scaled (pos D) vs) xs → Within q (root (q vs)) D xs
within q laws D n vs xs p l i =
    let Q : q (scaled (pos D) vs) ≡ D * D * q vs = laws.scale (pos D) vs in
    let down : RootLe (q xs) (D * D * q vs) (q i.fs) = subst (λ (u : ℕ). RootLe (q xs) u (q i.fs)) Q (rooted q laws.triangle _ _ _ i.down) in
    let up : RootLe (D * D * q vs) (q xs) (q i.es) = subst (λ (u : ℕ). RootLe u (q xs) (q i.es)) Q (rooted q laws.triangle _ _ _ i.up) in
    record {
      below = below D (root (q vs)) (total i.fs) (q vs) (q i.fs) (q xs) (errors_small D n (total i.fs) p l i.fs_small) (R.near (q vs)).high (at_most_total q laws.lone laws.triangle i.fs) down;
      above = above D (root (q vs)) (total i.es) (q vs) (q i.es) (q xs) (errors_small D n (total i.es) p l i.es_small) (R.near (q vs)).low (at_most_total q laws.lone laws.triangle i.es) up;
    }

-- ---- a storey

times_is : (k D d : ℕ) (x n : ℤ) → x *ℤ pos d ≡ pos D *ℤ n → (pos k *ℤ x) *ℤ pos d ≡ pos (k * D) *ℤ n
times_is k D d x n e = ring₃ (λ k x d. (k ⊗ x) ⊗ d) (λ k x d. k ⊗ (x ⊗ d)) refl (pos k) x (pos d) ∙ ap (λ (z : ℤ). pos k *ℤ z) e ∙ ring₃ (λ k D n. k ⊗ (D ⊗ n)) (λ k D n. (k ⊗ D) ⊗ n) refl (pos k) (pos D) n

over_is : (k d : ℕ) (n : ℤ) → (pos k *ℤ n) *ℤ pos d ≡ pos (d * k) *ℤ n
over_is k d n = ring₃ (λ k n d. (k ⊗ n) ⊗ d) (λ k n d. (d ⊗ k) ⊗ n) refl (pos k) n (pos d)

module _ (a : ℕ → Fraction) (fs : List Floor) (i : ℕ) where
  abbrev Sound : List Mode → Type 0
  Sound ms = AllByRecursion (λ m. Acceleration (a m.period) × (1 ≤ M fs m.ordinates)) ms

  -- the exact shear of a mode: its numerator and denominator
  abbrev over : Mode → ℤ
  over m = pos (a m.period).numerator *ℤ (L fs m.ordinates 1 *ℤ L fs m.ordinates i)

  abbrev under : Mode → ℕ
  under m = (a m.period).denominator * M fs m.ordinates

  errors : (D : ℕ) {ms : List Mode} {xs : List Response} → Exact D a fs i ms xs → Sound ms → Errors D (length ms) (scaled (pos D) (storey_values_of a fs ms i)) xs
  unfolding storey_values_of
  errors D X.none h = record { es = []; fs = []; up = none; down = none; es_small = omega arith; fs_small = omega arith }
  errors D (X.more m x e r) h =
      one_more D _ _ _ m.period (modal_shear_of (a m.period) fs m.ordinates i) x (error_size D (modal_shear_of (a m.period) fs m.ordinates i) x (over m) (under m) (mul-le-mul h.0.0.0 h.0.1) (modal_near (a m.period) fs m.ordinates i h.0.0 h.0.1) e) (errors D r h.1)

  -- a common denominator
  abbrev pub common : List Mode → ℕ
  common [] = 1
  common (m ∷ ms) = under m * common ms

  pub exact_times : (k D : ℕ) {ms : List Mode} {xs : List Response} → Exact D a fs i ms xs → Exact (k * D) a fs i ms (scaled (pos k) xs)
  exact_times k D X.none = X.none
  exact_times k D (X.more m x e r) = X.more m (pos k *ℤ x) (times_is k D (under m) x (over m) e) (exact_times k D r)

  pub exact_there : (ms : List Mode) → Sound ms → (1 ≤ common ms) × ((xs : List Response) × Exact (common ms) a fs i ms xs)
  exact_there [] h = (omega arith, ([], X.none))
  exact_there (m ∷ ms) h =
      let r = exact_there ms h.1 in
      (mul-le-mul (mul-le-mul h.0.0.0 h.0.1) r.0, (mode m.period (pos (common ms) *ℤ over m) ∷ scaled (pos (under m)) r.1.0, X.more m (pos (common ms) *ℤ over m) (over_is (common ms) (under m) (over m)) (exact_times (under m) (common ms) r.1.1)))

pub combined_near : (q : List Response → ℕ) → Laws q → (a : ℕ → Fraction) (fs : List Floor) (ms : List Mode) (i : ℕ) → Usable a fs ms → CombinedNear q a fs ms i (root (q (storey_values_of a fs ms i)))
combined_near q laws a fs ms i h =
    let r = exact_there a fs i ms h.1 in
    record { near = λ D xs p e. within q laws D (length ms) (storey_values_of a fs ms i) xs p h.0 (errors a fs i D e h.1); there = (common a fs i ms, r.0, r.1) }
