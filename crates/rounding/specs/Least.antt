-- The least whole number of a kind.
use Rattle.std.specs.Prelude.{ℕ, zero, suc, ◌≤◌, Bool, cond}

-- t is of the kind P, and no smaller number is
abbrev pub Least : (ℕ → Type 0) → ℕ → Type 0
Least P t = P t × ((s : ℕ) → P s → t ≤ s)

-- counts up from k until the test passes, at most n times
abbrev pub count_up : (ℕ → Bool) → ℕ → ℕ → ℕ
count_up p zero k = k
count_up p (suc n) k = cond (p k) k (count_up p n (suc k))

-- the least number that passes the test, where the number `bound` passes it
abbrev pub smallest : (ℕ → Bool) → ℕ → ℕ
smallest p bound = count_up p bound 0
