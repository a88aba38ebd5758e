-- Sums over what is left of a list. Assumes nothing.
use Rattle.std.proofs.Common.{ℕ, zero, suc, ◌≤◌, List, [], ◌∷◌, drop, le_refl, arith}
use Rattle.rounding.specs.Sums.{sum_n}

pub sum_n_drop : {A : Type 0} (f : A → ℕ) (k : ℕ) (l : List A) → sum_n f (drop k l) ≤ sum_n f l
sum_n_drop f zero l = le_refl _
sum_n_drop f (suc k) [] = le_refl _
sum_n_drop f (suc k) (x ∷ l) = omega (arith, sum_n_drop f k l)
