-- What a sheet holds, and what it reads.
use Rattle.std.specs.Prelude.{◌≡◌, ℕ, ◌-◌, cond, ◌&&◌, List, [], ℤ, Some, None, Option}
use Rattle.standard.specs.declared.fault.Fault.{Fault}
use Rattle.standard.specs.declared.fault.Ground.TheVariants.{NoFloors}
use Rattle.standard.specs.Faults.{fault}
use Rattle.standard.specs.Sites.{within}
use Rattle.formulas.specs.declared.floor.Floor.{Floor}
use Rattle.formulas.specs.Buildings.{Mode}
use Rattle.methods.specs.declared.outcome.Storey.{Storey}
use Rattle.methods.specs.Outcomes.{storey_at}
use Rattle.sheet.specs.declared.sheet.Sheet.{Sheet}
use Rattle.sheet.specs.Floors.{floors_of, counted}
use Rattle.sheet.specs.Modes.{modes_held_in}
use Rattle.sheet.specs.Stages.{is_run}

abbrev pub floors_in : Sheet → List Floor
floors_in s = floors_of s.table

abbrev pub modes_in : Sheet → List Mode
modes_in s = modes_held_in s.table.count s.modes

-- there is no floor for a method to see, and f says so
abbrev pub NoFloor : Sheet → Fault → Type 0
NoFloor s f = (counted (floors_in s) ≡ []) × (f ≡ fault NoFloors 0)

-- a storey's combined shear, design shear and force
abbrev pub Reading : Type 0
Reading = Option (ℕ × ℕ × ℤ)

-- what is read of a storey
abbrev pub figures_of : Storey → ℕ × ℕ × ℤ
figures_of x = (x.combined, x.design, x.force)

-- what a sheet reads of storey i, from 1
abbrev pub reading_of : Sheet → ℕ → Reading
reading_of s i = cond (is_run s.stage && within 1 s.table.count i) (Some (figures_of (storey_at s.storeys (i - 1)))) None
