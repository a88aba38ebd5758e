-- Laws of the sums of `specs.Sums`. Assumes nothing.
use Rattle.std.proofs.Common.{◌≡◌, ℕ, ◌≤◌, List, [], ◌∷◌, ℤ, pos, ◌+ℤ◌, ◌*ℤ◌, nat_abs, ◌≤ℤ◌, sym, refl, ap, ◌∙◌, le_refl, arith}
use lib.IntN.{*ℤ-zero}
use lib.Signed.{≤ℤ_refl}
use Rattle.rounding.specs.Sums.{sum_n, sum_z}
use Rattle.rounding.proofs.Ring.{◌⊕◌, ring₄, *ℤ-+ℤ}
use Rattle.rounding.proofs.Order.{+ℤ_mono, +ℤ_nonneg, nat_abs_add}

module _ {A : Type 0} where
  pub sum_z-+ : (f g : A → ℤ) (l : List A) → sum_z (λ x. f x +ℤ g x) l ≡ sum_z f l +ℤ sum_z g l
  sum_z-+ f g [] = refl
  sum_z-+ f g (x ∷ l) = ap (λ z. f x +ℤ g x +ℤ z) (sum_z-+ f g l) ∙ ring₄ (λ a b c d. a ⊕ b ⊕ (c ⊕ d)) (λ a b c d. a ⊕ c ⊕ (b ⊕ d)) refl (f x) (g x) (sum_z f l) (sum_z g l)

  pub sum_z_scale : (c : ℤ) (f : A → ℤ) (l : List A) → sum_z (λ x. c *ℤ f x) l ≡ c *ℤ sum_z f l
  sum_z_scale c f [] = sym (*ℤ-zero c)
  sum_z_scale c f (x ∷ l) = ap (λ z. c *ℤ f x +ℤ z) (sum_z_scale c f l) ∙ sym (*ℤ-+ℤ c (f x) (sum_z f l))

  pub sum_z_same : (f g : A → ℤ) → ((x : A) → f x ≡ g x) → (l : List A) → sum_z f l ≡ sum_z g l
  sum_z_same f g h [] = refl
  sum_z_same f g h (x ∷ l) = λ i. h x i +ℤ sum_z_same f g h l i

  pub sum_z_mono : (f g : A → ℤ) → ((x : A) → f x ≤ℤ g x) → (l : List A) → sum_z f l ≤ℤ sum_z g l
  sum_z_mono f g h [] = ≤ℤ_refl (pos 0)
  sum_z_mono f g h (x ∷ l) = +ℤ_mono (h x) (sum_z_mono f g h l)

  pub sum_z_nonneg : (f : A → ℤ) → ((x : A) → pos 0 ≤ℤ f x) → (l : List A) → pos 0 ≤ℤ sum_z f l
  sum_z_nonneg f h [] = ≤ℤ_refl (pos 0)
  sum_z_nonneg f h (x ∷ l) = +ℤ_nonneg (h x) (sum_z_nonneg f h l)

  pub sum_z_pos : (f : A → ℕ) (l : List A) → sum_z (λ x. pos (f x)) l ≡ pos (sum_n f l)
  sum_z_pos f [] = refl
  sum_z_pos f (x ∷ l) = ap (λ z. pos (f x) +ℤ z) (sum_z_pos f l)

  pub sum_n_mono : (f g : A → ℕ) → ((x : A) → f x ≤ g x) → (l : List A) → sum_n f l ≤ sum_n g l
  sum_n_mono f g h [] = le_refl 0
  sum_n_mono f g h (x ∷ l) = omega (arith, h x, sum_n_mono f g h l)

  pub nat_abs_sum_z : (f : A → ℤ) (l : List A) → nat_abs (sum_z f l) ≤ sum_n (λ x. nat_abs (f x)) l
  nat_abs_sum_z f [] = le_refl 0
  nat_abs_sum_z f (x ∷ l) = omega (arith, nat_abs_add (f x) (sum_z f l), nat_abs_sum_z f l)
