-- The laws of the floors with the weights that count, which are all that the rest uses. Assumes nothing.
use Rattle.std.proofs.Common.{◌≡◌, ◌≤◌, true, false, List, length, ℤ, refl}
use Rattle.formulas.specs.declared.floor.Floor.{Floor}
use Rattle.formulas.specs.Buildings.{Built}
use Rattle.formulas.specs.Modal.{M}
use Rattle.methods.specs.Loads.{every, in_range, roof_of}
use Rattle.methods.specs.Shapes.{all_zero}
use Rattle.methods.proofs.LoadFacts.{built}
use Rattle.methods.proofs.ModeFacts.{second_some}
use Rattle.sheet.specs.Floors.{counted}

pub counted_length : (fs : List Floor) → length (counted fs) ≡ length fs
unfolding counted
counted_length fs = refl

pub counted_roof : (fs : List Floor) → roof_of (counted fs) ≡ roof_of fs
unfolding counted
counted_roof fs = refl

pub counted_built : (fs : List Floor) → every in_range fs ≡ true → Built (counted fs)
unfolding counted
counted_built fs e = built fs e

-- a mode that is not still moves some weight
pub counted_moves : (fs : List Floor) (φ : List ℤ) → every in_range fs ≡ true → length φ ≡ length fs → all_zero φ ≡ false → 1 ≤ M (counted fs) φ
unfolding counted
counted_moves fs φ e n z = second_some fs φ e n z
