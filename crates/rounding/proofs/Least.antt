-- Counting up finds the least number that passes. Assumes nothing.
use Rattle.std.proofs.Common.{◌≡◌, ℕ, zero, suc, ◌+◌, ◌≤◌, Bool, true, false, sym, subst, inl, inr, arith}
use Rattle.std.proofs.lemmas.Bool.{cases_Bool, cond-true, cond-false, both_ways, cases_lt}
use Rattle.rounding.specs.Least.{Least, count_up, smallest}

-- one that passes is further on than k, which does not
further : (p : ℕ → Bool) (k s : ℕ) → k ≤ s → p s ≡ true → p k ≡ false → suc k ≤ s
further p k s h passes fails =
    elim (cases_lt k s) [ inl l ↦ l | inr l ↦ (let e : s ≡ k = omega arith in absurd (both_ways (p k) fails (subst (λ (m : ℕ). p m ≡ true) e passes))) ]

-- what counting up from k finds, where nothing below k passes and k + n does
counted : (p : ℕ → Bool) (n k : ℕ) → ((s : ℕ) → p s ≡ true → k ≤ s) → p (k + n) ≡ true → Least (λ t. p t ≡ true) (count_up p n k)
counted p zero k below last = let e : k + 0 ≡ k = omega arith in (rw e at last, below)
counted p (suc n) k below last =
    elim (cases_Bool (p k)) [
      | inl passes ↦ rw (cond-true (p k) k (count_up p n (suc k)) passes) (passes, below)
      | inr fails ↦ rw (cond-false (p k) k (count_up p n (suc k)) fails) (
          let e : k + suc n ≡ suc k + n = omega arith in
          counted p n (suc k) (λ s passes. further p k s (below s passes) passes fails) (subst (λ (m : ℕ). p m ≡ true) e last))
    ]

pub smallest_least : (p : ℕ → Bool) (bound : ℕ) → p bound ≡ true → Least (λ t. p t ≡ true) (smallest p bound)
smallest_least p bound passes = let e : 0 + bound ≡ bound = omega arith in counted p bound 0 (λ s h. omega arith) (subst (λ (m : ℕ). p m ≡ true) (sym e) passes)

-- there is only one least number
pub least_only : (P : ℕ → Type 0) (s t : ℕ) → Least P s → Least P t → s ≡ t
least_only P s t a b = omega (arith, a.1 t b.0, b.1 s a.0)
