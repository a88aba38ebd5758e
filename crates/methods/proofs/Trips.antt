-- Signed sums and products freed of their trips through bits. Assumes nothing.
use Rattle.std.proofs.Common.{◌≡◌, ℕ, ◌^◌, ◌<◌, ◌≤◌, ℤ, pos, ◌+ℤ◌, ◌*ℤ◌, nat_abs, sym, refl, subst, arith, w16, w32, w64, SFits, to_z}
use borrow.Author.Differences.{ints}
use Rattle.std.proofs.lemmas.Int.{to_z_pos}
use Rattle.rounding.proofs.Order.{back, read_back, fits_of, nat_abs_mul_le}

-- a weight × an ordinate
module _ (w : ℕ) (y : ℤ) (p : w ≤ 100000) (q : nat_abs y ≤ 4000) where
  ordinate_is : back w64 (back w16 y) ≡ y
  ordinate_is = read_back w64 (read_back w16 refl (omega (arith, ints))) (omega (arith, ints))

  weight_is : to_z w64 w ≡ pos w
  weight_is = to_z_pos w64 w (omega arith)

  within : SFits w64 (pos w *ℤ y)
  within = fits_of w64 _ (omega (arith, nat_abs_mul_le (pos w) y 100000 4000 p q))

  pub lever_fits : SFits w64 (to_z w64 w *ℤ back w64 (back w16 y))
  lever_fits = subst (SFits w64) (sym (λ i. weight_is i *ℤ ordinate_is i)) within

  pub lever_is : back w64 (to_z w64 w *ℤ back w64 (back w16 y)) ≡ pos w *ℤ y
  lever_is = read_back w64 (λ i. weight_is i *ℤ ordinate_is i) within

-- a sum s and what is left of the total t, one step on
module _ (s z p f g t : ℤ) (z-is : z ≡ p) (left : s +ℤ f ≡ t) (more : f ≡ p +ℤ g) (low : nat_abs t ≤ 2000000000) (rest : nat_abs g ≤ 2000000000) where
  pub sum_fits : SFits w64 (s +ℤ z)
  sum_fits = omega (arith, ints)

  pub sum_step : back w64 (s +ℤ z) +ℤ g ≡ t
  sum_step = omega (arith, ints)

-- a product of two sums
module _ (x y a b : ℤ) (x-is : x ≡ a) (y-is : y ≡ b) (p : nat_abs a ≤ 2000000000) (q : nat_abs b ≤ 2000000000) where
  both_is : back w64 x *ℤ back w64 y ≡ a *ℤ b
  both_is = λ i. read_back w64 x-is (omega (arith, ints)) i *ℤ read_back w64 y-is (omega (arith, ints)) i

  both_fit : SFits w64 (a *ℤ b)
  both_fit = fits_of w64 _ (omega (arith, nat_abs_mul_le a b 2000000000 2000000000 p q))

  pub product_fits : SFits w64 (back w64 x *ℤ back w64 y)
  product_fits = subst (SFits w64) (sym both_is) both_fit

  pub product_is : back w64 (back w64 x *ℤ back w64 y) ≡ a *ℤ b
  product_is = read_back w64 both_is both_fit

-- a number of 64 bits that is small, as one of 32
module _ (x a : ℤ) (x-is : x ≡ a) (p : nat_abs a ≤ 720000) where
  pub narrow_fits : SFits w32 (back w64 x)
  narrow_fits = omega (arith, ints)

  pub narrow_is : back w32 (back w64 x) ≡ a
  narrow_is = read_back w32 (read_back w64 x-is (omega (arith, ints))) (omega (arith, ints))

-- a numerator × a modal weight
module _ (n : ℕ) (x a : ℤ) (small : n < 2 ^ 32) (x-is : x ≡ a) (p : nat_abs a ≤ 720000) where
  factors_are : to_z w64 n *ℤ back w64 (back w32 x) ≡ pos n *ℤ a
  factors_are = λ i. to_z_pos w64 n (omega arith) i *ℤ read_back w64 (read_back w32 x-is (omega (arith, ints))) (omega (arith, ints)) i

  factors_fit : SFits w64 (pos n *ℤ a)
  factors_fit = fits_of w64 _ (omega (arith, nat_abs_mul_le (pos n) a (2 ^ 32) 720000 (omega arith) p))

  pub scaled_fits : SFits w64 (to_z w64 n *ℤ back w64 (back w32 x))
  scaled_fits = subst (SFits w64) (sym factors_are) factors_fit

  pub scaled_is : back w64 (to_z w64 n *ℤ back w64 (back w32 x)) ≡ pos n *ℤ a
  scaled_is = read_back w64 factors_are factors_fit
