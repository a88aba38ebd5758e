-- Forces that are differences of shears add up. Assumes nothing.
use Rattle.std.proofs.Common.{◌≡◌, ℕ, zero, suc, ◌+◌, ◌<◌, ◌≤◌, ltb, ℤ, pos, ◌+ℤ◌, ◌-ℤ◌, ap, arith}
use borrow.Author.Differences.{ints}
use Rattle.std.proofs.lemmas.Bool.{cond-true, cond-false, lt-ltb, le-ltb}
use Rattle.formulas.specs.Forces.{force_of, forces_up_to}
use Rattle.formulas.specs.Theorems.{ForceTheorems}

module _ (n : ℕ) (shear : ℕ → ℕ) where
  below_top : (i : ℕ) → i < n → force_of n shear i ≡ pos (shear i) -ℤ pos (shear (suc i))
  below_top i l =
      let e : shear (i + 1) ≡ shear (suc i) = ap shear (omega arith) in
      omega (arith, ints, cond-true (ltb i n) (pos (shear (i + 1))) (pos 0) (lt-ltb i n l))

  at_top : force_of n shear n ≡ pos (shear n)
  at_top = omega (arith, ints, cond-false (ltb n n) (pos (shear (n + 1))) (pos 0) (le-ltb n n (omega arith)))

  -- below the top, what is still wanting after floor m is the shear of the next storey
  pub forces_below : (m : ℕ) → m < n → forces_up_to (force_of n shear) m ≡ pos (shear 1) -ℤ pos (shear (suc m))
  forces_below zero l = omega (arith, ints)
  forces_below (suc m) l = step _ _ (shear 1) (shear (suc m)) (shear (suc (suc m))) (forces_below m (omega arith)) (below_top (suc m) l)
    where
      step : (t f : ℤ) (s v w : ℕ) → t ≡ pos s -ℤ pos v → f ≡ pos v -ℤ pos w → t +ℤ f ≡ pos s -ℤ pos w
      step t f s v w p q = omega (arith, ints)

pub forces_balanced : (n : ℕ) (shear : ℕ → ℕ) → 1 ≤ n → forces_up_to (force_of n shear) n ≡ pos (shear 1)
forces_balanced zero shear l = let no : ⊥ = omega arith in absurd no
forces_balanced (suc m) shear l = last _ _ (shear 1) (shear (suc m)) (forces_below (suc m) shear m (omega arith)) (at_top (suc m) shear)
  where
    last : (t f : ℤ) (s v : ℕ) → t ≡ pos s -ℤ pos v → f ≡ pos v → t +ℤ f ≡ pos s
    last t f s v p q = omega (arith, ints)

pub force_theorems : ForceTheorems
force_theorems = record { balanced = forces_balanced }
