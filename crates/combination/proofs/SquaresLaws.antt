-- The sum of squares keeps the laws. Assumes nothing.
use Rattle.std.specs.Prelude.{◌*◌, ◌≤◌, List}
use Rattle.std.proofs.Common.{arith, refl}
use Rattle.rounding.proofs.Order.{sq_mono}
use Rattle.combination.specs.declared.response.Response.{Response}
use Rattle.combination.specs.Values.{total, largest}
use Rattle.combination.specs.Squared.{squares}
use Rattle.combination.specs.Laws.{Laws}
use Rattle.combination.specs.SquareSums
use Rattle.combination.specs.Bound.{at_most_total}

pub laws : Laws squares
laws = SquareSums.laws squares refl (λ _ _. refl)

pub squares_small : (xs : List Response) → total xs ≤ largest → squares xs ≤ largest * largest
squares_small xs h = omega (arith, at_most_total squares laws.lone laws.triangle xs, sq_mono h)
