-- What a list holds.
use Rattle.std.specs.Prelude.{ℕ, ◌≤◌, List, length, take}
use Rattle.std.proofs.Common.{arith}
use Rattle.std.proofs.lemmas.List.{length-take}
use Rattle.fixed_list.specs.declared.FixedList.{FixedList}

-- the items up to the count, in their order
abbrev pub items_of : {T : Type 0} {n : ℕ} → FixedList T n → List T
items_of l = take l.count l.items

-- never more than there is room for
pub items_fit : {T : Type 0} {n : ℕ} (l : FixedList T n) → length (items_of l) ≤ n
items_fit l = omega (arith, length-take l.count l.items, l.within)
