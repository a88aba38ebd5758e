-- A building as lists, bottom first. Storey i, from 1, is the one below floor i; what it carries is what stands from i on.
use Rattle.std.specs.Prelude.{ℕ, ◌-◌, ◌≤◌, List, drop, ℤ}
use Rattle.rounding.specs.Sums.{sum_n}
use Rattle.std.specs.List.{AllByRecursion}
use Rattle.formulas.specs.declared.floor.Floor.{Floor}

-- a mode: its period, and one ordinate for each floor
pub record Mode : Type 0 where
  pub period : ℕ
  pub ordinates : List ℤ

-- what stands from storey i on
abbrev pub up_from : {A : Type 0} → ℕ → List A → List A
up_from i xs = drop (i - 1) xs

-- every floor weighs something and lies above the base
abbrev pub Built : List Floor → Type 0
Built fs = AllByRecursion (λ f. (1 ≤ f.weight) × (1 ≤ f.height)) fs

-- the weight of all floors
abbrev pub W : List Floor → ℕ
W fs = sum_n (λ f. f.weight) fs

-- no building weighs more
abbrev pub heaviest : ℕ
heaviest = 500000
