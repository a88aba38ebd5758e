-- Sums over lists that calls change. Assumes nothing.
use Rattle.std.proofs.Common.{◌≡◌, ℕ, zero, suc, ◌+◌, ◌<◌, ◌≤◌, List, [], ◌∷◌, ◌++◌, length, get_or, set, le_of_suc-le-suc, not-suc-le-zero, arith}
use Rattle.rounding.specs.Sums.{sum_n}

module _ {A : Type 0} (f : A → ℕ) where
  pub sum_n_push : (xs : List A) (x : A) → sum_n f (xs ++ (x ∷ [])) ≡ sum_n f xs + f x
  sum_n_push [] x = omega arith
  sum_n_push (y ∷ xs) x = omega (arith, sum_n_push xs x)

  pub sum_n_set : (xs : List A) (k : ℕ) (v d : A) → k < length xs → sum_n f (set xs k v) + f (get_or xs k d) ≡ sum_n f xs + f v
  sum_n_set [] k v d l = absurd (not-suc-le-zero l)
  sum_n_set (x ∷ xs) zero v d l = omega arith
  sum_n_set (x ∷ xs) (suc k) v d l = omega (arith, sum_n_set xs k v d (le_of_suc-le-suc l))

  pub at_most_sum_n : (xs : List A) (k : ℕ) (d : A) → k < length xs → f (get_or xs k d) ≤ sum_n f xs
  at_most_sum_n [] k d l = absurd (not-suc-le-zero l)
  at_most_sum_n (x ∷ xs) zero d l = omega arith
  at_most_sum_n (x ∷ xs) (suc k) d l = omega (arith, at_most_sum_n xs k d (le_of_suc-le-suc l))
