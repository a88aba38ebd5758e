-- The whole number nearest to a square root. No root of a whole number lies halfway between two whole numbers.
use Rattle.std.specs.Prelude.{◌≡◌, ℕ, ◌+◌, ◌-◌, ◌*◌, ◌<◌, ◌≤◌, nat_lt}
use Rattle.rounding.specs.Least.{smallest}

-- r is nearest to the root of q: r - 1/2 is at most the root, and r + 1/2 is above it
pub record NearestRoot (r q : ℕ) : Type 0 where
  pub low : (2 * r - 1) * (2 * r - 1) ≤ 4 * q
  pub high : 4 * q < (2 * r + 1) * (2 * r + 1)

-- that number: the least one with r + 1/2 above the root
unfoldable pub root : ℕ → ℕ
root q = smallest (λ r. nat_lt (4 * q) ((2 * r + 1) * (2 * r + 1))) q

pub record RootLaws : Type 0 where
  pub near : (q : ℕ) → NearestRoot (root q) q
  pub only : (r q : ℕ) → NearestRoot r q → r ≡ root q
  pub whole : (v : ℕ) → root (v * v) ≡ v
