-- The inequality of Cauchy and Schwarz over lists: with weights, (Σ w φ)² ≤ (Σ w) (Σ w φ²), and without, (Σ a b)² ≤ (Σ a²) (Σ b²).
-- `cauchy-weighted-by` and `cauchy-by` take the weights and ordinates as functions of the elements, and so serve a list of records; the others are over pairs.
-- Each is by induction on the list. At a step the right side less the left grows by w (Σ w φ² - 2 t Σ w φ + t² Σ w) at t = φ, which is w Σ w (φ - t)² (`spread`), and so without weights (`cross`).
-- Assumes nothing.
use Rattle.std.proofs.Common.{◌≡◌, ℕ, ◌*◌, ◌≤◌, List, [], ◌∷◌, ℤ, pos, ◌+ℤ◌, ◌-ℤ◌, ◌*ℤ◌, nat_abs, ◌≤ℤ◌, sym, refl, subst}
use lib.Signed.{≤ℤ_refl}
use Rattle.rounding.specs.Sums.{sum_n, sum_z, weight, first, second_n, Cauchy, CauchyWeighted}
use Rattle.rounding.proofs.Ring.{var, con, ◌⊕◌, ◌⊖◌, ◌⊗◌, solve, ring₁, ring₂, ring₅, ring₆}
use Rattle.rounding.proofs.Order.{≤ℤ_by, +ℤ_nonneg, *ℤ_nonneg, square_nonneg, pos_nonneg, diff_nonneg, nat_abs_square, pos_le_out}

-- ---- with weights

module _ {A : Type 0} (w : A → ℕ) (φ : A → ℤ) where
  -- Σ w φ and Σ w φ²
  abbrev pub S₁ : List A → ℤ
  S₁ = sum_z (λ x. pos (w x) *ℤ φ x)

  abbrev pub S₂ : List A → ℤ
  S₂ = sum_z (λ x. pos (w x) *ℤ (φ x *ℤ φ x))

  -- Σ w (φ - t)², written out
  pub spread : (t : ℤ) (l : List A) → pos 0 ≤ℤ (S₂ l -ℤ pos 2 *ℤ t *ℤ S₁ l +ℤ t *ℤ t *ℤ pos (sum_n w l))
  spread t [] = subst (λ z. pos 0 ≤ℤ z) (ring₁ (λ t. con (pos 0)) (λ t. con (pos 0) ⊖ con (pos 2) ⊗ t ⊗ con (pos 0) ⊕ t ⊗ t ⊗ con (pos 0)) refl t) (≤ℤ_refl (pos 0))
  spread t (x ∷ l) =
      let step = ring₆ (λ w φ t W S Q. w ⊗ ((φ ⊖ t) ⊗ (φ ⊖ t)) ⊕ (Q ⊖ con (pos 2) ⊗ t ⊗ S ⊕ t ⊗ t ⊗ W)) (λ w φ t W S Q. w ⊗ (φ ⊗ φ) ⊕ Q ⊖ con (pos 2) ⊗ t ⊗ (w ⊗ φ ⊕ S) ⊕ t ⊗ t ⊗ (w ⊕ W)) refl (pos (w x)) (φ x) t (pos (sum_n w l)) (S₁ l) (S₂ l) in
      subst (λ z. pos 0 ≤ℤ z) step (+ℤ_nonneg (*ℤ_nonneg (pos_nonneg (w x)) (square_nonneg (φ x -ℤ t))) (spread t l))

  pub cauchy_weighted_by : (l : List A) → (S₁ l *ℤ S₁ l) ≤ℤ (pos (sum_n w l) *ℤ S₂ l)
  cauchy_weighted_by [] = ≤ℤ_refl (pos 0)
  cauchy_weighted_by (x ∷ l) =
      let step = ring₅ (λ w φ W S Q. (w ⊕ W) ⊗ (w ⊗ (φ ⊗ φ) ⊕ Q)) (λ w φ W S Q. (w ⊗ φ ⊕ S) ⊗ (w ⊗ φ ⊕ S) ⊕ (w ⊗ (Q ⊖ con (pos 2) ⊗ φ ⊗ S ⊕ φ ⊗ φ ⊗ W) ⊕ (W ⊗ Q ⊖ S ⊗ S))) refl (pos (w x)) (φ x) (pos (sum_n w l)) (S₁ l) (S₂ l) in
      ≤ℤ_by _ step (+ℤ_nonneg (*ℤ_nonneg (pos_nonneg (w x)) (spread (φ x) l)) (diff_nonneg (cauchy_weighted_by l)))

  -- the same over ℕ, with absolute values
  abbrev pub S₂N : List A → ℕ
  S₂N = sum_n (λ x. w x * (nat_abs (φ x) * nat_abs (φ x)))

  pub S₂_is : (l : List A) → pos (S₂N l) ≡ S₂ l
  S₂_is [] = refl
  S₂_is (x ∷ l) = λ i. pos (w x) *ℤ nat_abs_square (φ x) i +ℤ S₂_is l i

  pub cauchy_weighted_by_n : (l : List A) → nat_abs (S₁ l) * nat_abs (S₁ l) ≤ sum_n w l * S₂N l
  cauchy_weighted_by_n l = pos_le_out (rw nat_abs_square (subst (λ z. (S₁ l *ℤ S₁ l) ≤ℤ (pos (sum_n w l) *ℤ z)) (sym (S₂_is l)) (cauchy_weighted_by l)))

pub cauchy_weighted : CauchyWeighted
cauchy_weighted = cauchy_weighted_by (λ x. x.0) (λ x. x.1)

pub cauchy_weighted_n : (l : List (ℕ × ℤ)) → nat_abs (first l) * nat_abs (first l) ≤ weight l * second_n l
cauchy_weighted_n = cauchy_weighted_by_n (λ x. x.0) (λ x. x.1)

-- ---- without

module _ {A : Type 0} (f g : A → ℤ) where
  -- Σ f g, Σ f² and Σ g²
  abbrev pub FG : List A → ℤ
  FG = sum_z (λ x. f x *ℤ g x)

  abbrev pub FF : List A → ℤ
  FF = sum_z (λ x. f x *ℤ f x)

  abbrev pub GG : List A → ℤ
  GG = sum_z (λ x. g x *ℤ g x)

  -- Σ (s g - t f)², written out
  pub cross : (s t : ℤ) (l : List A) → pos 0 ≤ℤ (s *ℤ s *ℤ GG l -ℤ pos 2 *ℤ (s *ℤ t) *ℤ FG l +ℤ t *ℤ t *ℤ FF l)
  cross s t [] = subst (λ z. pos 0 ≤ℤ z) (ring₂ (λ s t. con (pos 0)) (λ s t. s ⊗ s ⊗ con (pos 0) ⊖ con (pos 2) ⊗ (s ⊗ t) ⊗ con (pos 0) ⊕ t ⊗ t ⊗ con (pos 0)) refl s t) (≤ℤ_refl (pos 0))
  cross s t (x ∷ l) =
      let s' = var 0 in let t' = var 1 in let a = var 2 in let b = var 3 in let A' = var 4 in let B' = var 5 in let S' = var 6 in
      let step = solve (s ∷ t ∷ f x ∷ g x ∷ FF l ∷ GG l ∷ FG l ∷ []) ((s' ⊗ b ⊖ t' ⊗ a) ⊗ (s' ⊗ b ⊖ t' ⊗ a) ⊕ (s' ⊗ s' ⊗ B' ⊖ con (pos 2) ⊗ (s' ⊗ t') ⊗ S' ⊕ t' ⊗ t' ⊗ A')) (s' ⊗ s' ⊗ (b ⊗ b ⊕ B') ⊖ con (pos 2) ⊗ (s' ⊗ t') ⊗ (a ⊗ b ⊕ S') ⊕ t' ⊗ t' ⊗ (a ⊗ a ⊕ A')) refl in
      subst (λ z. pos 0 ≤ℤ z) step (+ℤ_nonneg (square_nonneg (s *ℤ g x -ℤ t *ℤ f x)) (cross s t l))

  pub cauchy_by : (l : List A) → (FG l *ℤ FG l) ≤ℤ (FF l *ℤ GG l)
  cauchy_by [] = ≤ℤ_refl (pos 0)
  cauchy_by (x ∷ l) =
      let step = ring₅ (λ a b A B S. (a ⊗ a ⊕ A) ⊗ (b ⊗ b ⊕ B)) (λ a b A B S. (a ⊗ b ⊕ S) ⊗ (a ⊗ b ⊕ S) ⊕ (a ⊗ a ⊗ B ⊖ con (pos 2) ⊗ (a ⊗ b) ⊗ S ⊕ b ⊗ b ⊗ A ⊕ (A ⊗ B ⊖ S ⊗ S))) refl (f x) (g x) (FF l) (GG l) (FG l) in
      ≤ℤ_by _ step (+ℤ_nonneg (cross (f x) (g x) l) (diff_nonneg (cauchy_by l)))

pub cauchy : Cauchy
cauchy = cauchy_by (λ x. x.0) (λ x. x.1)
