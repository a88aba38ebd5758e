-- The whole number nearest to a fraction, a half going away from zero, and the laws by which all else knows it.
use Rattle.std.specs.Prelude.{◌≡◌, ℕ, suc, ◌+◌, ◌-◌, ◌*◌, ◌/◌, ◌≤◌, ℤ, pos, negsuc, ◌-ℤ◌, ◌*ℤ◌, neg_ℤ, unsigned_abs}

-- how far two numbers are from one another: one of the two differences is nought
abbrev pub gap : ℕ → ℕ → ℕ
gap a b = (a - b) + (b - a)

-- nearest to n / d
unfoldable pub nearest : ℕ → ℕ → ℕ
nearest n d = (2 * n + d) / (2 * d)

-- nearest to z / d: by size, with the sign of z
unfoldable pub nearestℤ : ℤ → ℕ → ℤ
nearestℤ (pos n) d = pos (nearest n d)
nearestℤ (negsuc n) d = neg_ℤ (pos (nearest (suc n) d))

pub record NearestLaws : Type 0 where
  -- within half of the quotient
  pub close : (n d : ℕ) → 1 ≤ d → 2 * gap (nearest n d * d) n ≤ d
  -- exact on multiples
  pub whole : (k d : ℕ) → 1 ≤ d → nearest (k * d) d ≡ k
  -- of a larger number, no smaller
  pub rising : (m n d : ℕ) → 1 ≤ d → m ≤ n → nearest m d ≤ nearest n d
  -- the signed one: within half of the quotient, and as large as that of the size
  pub closeℤ : (z : ℤ) (d : ℕ) → 1 ≤ d → 2 * unsigned_abs (nearestℤ z d *ℤ pos d -ℤ z) ≤ d
  pub size : (z : ℤ) (d : ℕ) → unsigned_abs (nearestℤ z d) ≡ nearest (unsigned_abs z) d
  -- a half goes away from zero
  pub half : (k : ℕ) → nearest (2 * k + 1) 2 ≡ k + 1
