-- The static method.
use Rattle.std.specs.Prelude.{ℕ, ◌*◌, ◌<◌, List}
use Rattle.rounding.specs.Rounding.{nearest, gap}
use Rattle.rounding.specs.Sums.{sum_n}
use Rattle.standard.specs.declared.fraction.Fraction.{Fraction}
use Rattle.formulas.specs.declared.floor.Floor.{Floor}
use Rattle.formulas.specs.Buildings.{up_from, W}

-- the sum of weight × height above the base squared
abbrev pub S : List Floor → ℕ
S fs = sum_n (λ f. f.weight * (f.height * f.height)) fs

-- the shear of storey i at the base shear b: the nearest to b × S from i on over S of all floors
abbrev pub static_shear : ℕ → List Floor → ℕ → ℕ
static_shear b fs i = nearest (b * S (up_from i fs)) (S fs)

-- v lies less than 1 from the exact value A × W × S from i on over S of all floors
abbrev pub StaticNear : Fraction → List Floor → ℕ → ℕ → Type 0
StaticNear a fs i v = gap (v * (a.denominator * S fs)) (a.numerator * W fs * S (up_from i fs)) < a.denominator * S fs
