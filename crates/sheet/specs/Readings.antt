-- What is to be read of a storey, by the formulas, from floors, modes and the last call.
use Rattle.std.specs.Prelude.{ℕ, cond, List, length, Some, None, Option}
use Rattle.standard.specs.Sites.{within}
use Rattle.formulas.specs.declared.floor.Floor.{Floor}
use Rattle.formulas.specs.Buildings.{Mode}
use Rattle.formulas.specs.Forces.{force_of}
use Rattle.methods.specs.ModalRuns.{modal_combined, modal_design}
use Rattle.methods.specs.Outcomes.{static_shears_of}
use Rattle.sheet.specs.Contents.{Reading}
use Rattle.sheet.specs.Floors.{counted}
use Rattle.sheet.specs.Ledgers.{Asked, floor, reweigh, mode, strike, static, modal, Ledger}

-- of n storeys with combined shears c and design shears d, what is read of storey i
abbrev pub shown : ℕ → (ℕ → ℕ) → (ℕ → ℕ) → ℕ → Reading
shown n c d i = cond (within 1 n i) (Some (c i, d i, force_of n d i)) None

-- after a call was accepted: nothing after an edit, and after a run what its method gives
abbrev pub read_after : List Floor → List Mode → Asked → ℕ → Reading
read_after fs ms (floor h w) i = None
read_after fs ms (reweigh k w) i = None
read_after fs ms (mode p n ys) i = None
read_after fs ms (strike k) i = None
read_after fs ms (static s sa) i = shown (length fs) (static_shears_of s sa (counted fs)) (static_shears_of s sa (counted fs)) i
read_after fs ms (modal s sa q) i = shown (length fs) (modal_combined s sa q (counted fs) ms) (modal_design s sa q (counted fs) ms) i

abbrev pub expected_by : List Floor → List Mode → Option Asked → ℕ → Reading
expected_by fs ms None i = None
expected_by fs ms (Some a) i = read_after fs ms a i

abbrev pub expected : Ledger → ℕ → Reading
expected ℓ i = expected_by ℓ.floors ℓ.modes ℓ.last i
