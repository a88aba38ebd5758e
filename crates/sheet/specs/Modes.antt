-- The modes of a sheet as a list, in the order in which they were entered.
use Rattle.std.specs.Prelude.{ℕ, Bool, false, List, [], ◌∷◌, take, ℤ, Option, nat_le}
use Rattle.std.specs.List.{position_from}
use Rattle.fixed_list.specs.declared.FixedList.{FixedList}
use Rattle.fixed_list.specs.Items.{items_of}
use Rattle.formulas.specs.Buildings.{Mode}
use Rattle.methods.specs.declared.modes.ModeRow.{ModeRow}
use Rattle.methods.specs.Shapes.{most_modes, modes_of, outside}
use Rattle.sheet.specs.declared.modes.ModeShape.{ModeShape}

-- the modes of a table, with an ordinate for each of n floors
abbrev pub modes_held_in : ℕ → FixedList ModeRow most_modes → List Mode
modes_held_in n t = modes_of n (items_of t)

-- the ordinates of a mode as it was typed in: those within its count
abbrev pub typed : ModeShape → List ℤ
typed m = take m.count m.ordinates

-- the number, from 1, of the first ordinate outside its range, where there is one
abbrev pub first_outside : List ℤ → Option ℕ
first_outside ys = position_from outside 1 ys

-- a period that is not below that of the last mode
abbrev pub not_below_last : ℕ → List Mode → Bool
not_below_last p [] = false
not_below_last p (m ∷ []) = nat_le m.period p
not_below_last p (m ∷ (k ∷ ms)) = not_below_last p (k ∷ ms)
