-- The lists that a view holds.
use Rattle.std.specs.Prelude.{List, length}
use Rattle.formulas.specs.declared.floor.Floor.{Floor}
use Rattle.formulas.specs.Buildings.{Mode}
use Rattle.methods.specs.declared.loads.Loads.{Loads}
use Rattle.methods.specs.declared.shapes.Shapes.{Shapes}
use Rattle.methods.specs.Shapes.{modes_of}

abbrev pub floors_of_loads : Loads → List Floor
floors_of_loads l = l.floors.now

abbrev pub floors_in : Shapes → List Floor
floors_in s = floors_of_loads s.loads

abbrev pub modes_in : Shapes → List Mode
modes_in s = modes_of (length (floors_in s)) s.rows.now
