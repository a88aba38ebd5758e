-- The floors as the methods see them.
use Rattle.std.specs.Prelude.{ℕ, ◌-◌, Bool, true, ◌&&◌, List, [], ◌∷◌, length, slice_index_or}
use Rattle.standard.specs.Sites.{within}
use Rattle.formulas.specs.declared.floor.Floor.{Floor}

-- no building has more floors
abbrev pub most_floors : ℕ
most_floors = 40

-- a floor's height and weight are within their ranges
abbrev pub in_range : Floor → Bool
in_range f = within 20 2000 f.height && within 100 100000 f.weight

-- what passes of every element
abbrev pub every : {A : Type 0} → (A → Bool) → List A → Bool
every p [] = true
every p (x ∷ xs) = p x && every p xs

abbrev pub nothing : Floor
nothing = record { height = 0; weight = 0 }

abbrev pub height_at : List Floor → ℕ → ℕ
height_at fs k = (slice_index_or fs k nothing).height

-- the height of the highest floor, 0 without floors
abbrev pub roof_of : List Floor → ℕ
roof_of fs = height_at fs (length fs - 1)
