-- Some identities by `Ring`, as examples and for use.
-- Assumes nothing.
use Rattle.std.proofs.Common.{◌≡◌, ℤ, pos, ◌+ℤ◌, ◌-ℤ◌, ◌*ℤ◌, refl}
use Rattle.rounding.proofs.Ring.{con, ◌⊕◌, ◌⊖◌, ◌⊗◌, ring₂, ring₄}

pub square_sum : (x y : ℤ) → (x +ℤ y) *ℤ (x +ℤ y) ≡ x *ℤ x +ℤ pos 2 *ℤ (x *ℤ y) +ℤ y *ℤ y
square_sum = ring₂ (λ a b. (a ⊕ b) ⊗ (a ⊕ b)) (λ a b. a ⊗ a ⊕ con (pos 2) ⊗ (a ⊗ b) ⊕ b ⊗ b) refl

pub square_diff : (x y : ℤ) → (x -ℤ y) *ℤ (x -ℤ y) ≡ x *ℤ x -ℤ pos 2 *ℤ (x *ℤ y) +ℤ y *ℤ y
square_diff = ring₂ (λ a b. (a ⊖ b) ⊗ (a ⊖ b)) (λ a b. a ⊗ a ⊖ con (pos 2) ⊗ (a ⊗ b) ⊕ b ⊗ b) refl

pub diff_squares : (x y : ℤ) → x *ℤ x -ℤ y *ℤ y ≡ (x -ℤ y) *ℤ (x +ℤ y)
diff_squares = ring₂ (λ a b. a ⊗ a ⊖ b ⊗ b) (λ a b. (a ⊖ b) ⊗ (a ⊕ b)) refl

-- Lagrange: (a² + b²)(c² + d²) = (a c + b d)² + (a d - b c)²
pub lagrange : (a b c d : ℤ) → (a *ℤ a +ℤ b *ℤ b) *ℤ (c *ℤ c +ℤ d *ℤ d) ≡ (a *ℤ c +ℤ b *ℤ d) *ℤ (a *ℤ c +ℤ b *ℤ d) +ℤ (a *ℤ d -ℤ b *ℤ c) *ℤ (a *ℤ d -ℤ b *ℤ c)
lagrange = ring₄ (λ a b c d. (a ⊗ a ⊕ b ⊗ b) ⊗ (c ⊗ c ⊕ d ⊗ d)) (λ a b c d. (a ⊗ c ⊕ b ⊗ d) ⊗ (a ⊗ c ⊕ b ⊗ d) ⊕ (a ⊗ d ⊖ b ⊗ c) ⊗ (a ⊗ d ⊖ b ⊗ c)) refl
