-- The square of the combined size, by two rules.
use Rattle.std.specs.Prelude.{ℕ, ◌+◌, ◌*◌, List, [], ◌∷◌}
use Rattle.combination.specs.declared.response.Response.{Response}
use Rattle.combination.specs.Values.{size, total}

-- the sum of squares
abbrev pub squares : List Response → ℕ
squares [] = 0
squares (x ∷ xs) = size x * size x + squares xs

-- the square of the sum of the sizes
abbrev pub squared_total : List Response → ℕ
squared_total xs = total xs * total xs
