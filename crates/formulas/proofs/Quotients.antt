-- What is at most k d is at most k once divided by d. Assumes nothing.
use Rattle.std.proofs.Common.{ℕ, ◌*◌, ◌≤◌, ℤ, nat_abs, arith}
use Rattle.rounding.specs.Rounding.{nearest, nearestℤ}
use Rattle.rounding.proofs.Rounding.{whole, rising, size}

pub nearest_at_most : (n d k : ℕ) → 1 ≤ d → n ≤ k * d → nearest n d ≤ k
nearest_at_most n d k p h = omega (arith, rising n (k * d) d p h, whole k d p)

pub nearestℤ_at_most : (z : ℤ) (d k : ℕ) → 1 ≤ d → nat_abs z ≤ k * d → nat_abs (nearestℤ z d) ≤ k
nearestℤ_at_most z d k p h = omega (arith, size z d, nearest_at_most (nat_abs z) d k p h)
