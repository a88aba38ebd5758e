-- A storey's modal values, each with the period of its mode.
use Rattle.std.specs.Prelude.{◌≡◌, ℕ, ◌+◌, ◌≤◌, Bool, true, ◌&&◌, List, [], ◌∷◌, length, ℤ, nat_lt, unsigned_abs}
use Rattle.combination.specs.declared.response.Response.{Response}

-- the value v in a mode of the period p
abbrev pub mode : ℕ → ℤ → Response
mode p v = record { period = p; value = v }

-- how large a value is, whatever its sign
abbrev pub size : Response → ℕ
size x = unsigned_abs x.value

-- the sum of the sizes
abbrev pub total : List Response → ℕ
total [] = 0
total (x ∷ xs) = size x + total xs

-- each period is below the one before it
abbrev pub falls : List Response → Bool
falls [] = true
falls (x ∷ []) = true
falls (x ∷ (y ∷ ys)) = nat_lt y.period x.period && falls (y ∷ ys)

-- as many values as a storey can have
abbrev pub most : ℕ
most = 9

-- as much as their sizes can add up to
abbrev pub largest : ℕ
largest = 10000000

-- the lists that a rule is given
abbrev pub Sound : List Response → Type 0
Sound xs = (length xs ≤ most) × (falls xs ≡ true) × (total xs ≤ largest)
