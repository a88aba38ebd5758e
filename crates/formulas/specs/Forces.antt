-- Forces from shears.
use Rattle.std.specs.Prelude.{ℕ, zero, suc, ◌+◌, cond, ℤ, pos, ◌+ℤ◌, ◌-ℤ◌, nat_lt}

-- the force at floor i of n: the shear of its storey less that of the storey above, where there is one
abbrev pub force_of : ℕ → (ℕ → ℕ) → ℕ → ℤ
force_of n shear i = pos (shear i) -ℤ cond (nat_lt i n) (pos (shear (i + 1))) (pos 0)

-- the forces at the floors from 1 to m, added up
abbrev pub forces_up_to : (ℕ → ℤ) → ℕ → ℤ
forces_up_to force zero = pos 0
forces_up_to force (suc m) = forces_up_to force m +ℤ force (suc m)
