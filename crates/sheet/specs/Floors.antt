-- The floors of a sheet as a list, bottom first, and how calls change it.
use Rattle.std.specs.Prelude.{ℕ, Bool, true, ◌&&◌, List, [], ◌∷◌, ◌++◌, take, nat_lt, slice_index_or, slice_set}
use Rattle.formulas.specs.declared.floor.Floor.{Floor}
use Rattle.methods.specs.Loads.{nothing, height_at}
use Rattle.sheet.specs.declared.table.FloorTable.{FloorTable}

abbrev pub floors_of : FloorTable → List Floor
floors_of t = take t.count t.floors

-- each floor is higher than the one before it
abbrev pub rises_from : ℕ → List Floor → Bool
rises_from below [] = true
rises_from below (f ∷ fs) = nat_lt below f.height && rises_from f.height fs

abbrev pub weight_at : List Floor → ℕ → ℕ
weight_at fs k = (slice_index_or fs k nothing).weight

-- one floor more, on top
abbrev pub grown : List Floor → ℕ → ℕ → List Floor
grown fs h w = fs ++ (record { height = h; weight = w } ∷ [])

-- another weight for the floor at place k, from 0
abbrev pub reweighed : List Floor → ℕ → ℕ → List Floor
reweighed fs k w = slice_set fs k (record { height = height_at fs k; weight = w })

-- the floors with the weights that count in the methods: today, all of them as they are
unfoldable pub counted : List Floor → List Floor
counted fs = fs
