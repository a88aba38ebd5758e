-- Modes as the methods see them.
use Rattle.std.specs.Prelude.{ℕ, Bool, true, not, ◌&&◌, List, [], ◌∷◌, map, length, take, ℤ, ◌==◌, nat_eq, nat_lt, unsigned_abs}
use Rattle.standard.specs.Sites.{within}
use Rattle.formulas.specs.Buildings.{Mode}
use Rattle.methods.specs.declared.modes.ModeRow.{ModeRow}
use Rattle.methods.specs.Loads.{every}

-- no sheet has more modes
abbrev pub most_modes : ℕ
most_modes = 9

-- the mode of a period with these ordinates
abbrev pub mode_by : ℕ → List ℤ → Mode
mode_by t ys = record { period = t; ordinates = ys }

-- the mode of a row, with an ordinate for each of n floors
abbrev pub mode_of : ℕ → ModeRow → Mode
mode_of n r = mode_by r.period (take n r.ordinates)

-- the modes of rows
abbrev pub modes_of : ℕ → List ModeRow → List Mode
modes_of n rows = map (mode_of n) rows

-- an ordinate outside its range
abbrev pub outside : ℤ → Bool
outside y = nat_lt 4000 (unsigned_abs y)

-- every ordinate is 0
abbrev pub all_zero : List ℤ → Bool
all_zero ys = every (λ y. nat_eq (unsigned_abs y) 0) ys

-- each period is below the one before it
abbrev pub falls_from : ℕ → List Mode → Bool
falls_from above [] = true
falls_from above (m ∷ ms) = nat_lt m.period above && falls_from m.period ms

-- a mode that the methods can use: a period and ordinates within their ranges, one for each of n floors, not all 0
abbrev pub usable : ℕ → Mode → Bool
usable n m = within 1 4000 m.period && (length m.ordinates == n && (every (λ y. not (outside y)) m.ordinates && not (all_zero m.ordinates)))
