-- Values of close periods as one.
use Rattle.std.specs.Prelude.{ℕ, ◌+◌, ◌*◌, Bool, cond, List, [], ◌∷◌, pos, nat_le}
use Rattle.combination.specs.declared.response.Response.{Response}
use Rattle.combination.specs.Values.{mode, size}

-- neighbours of the periods p and q, the shorter one, are close: p is at most q and a tenth of it
abbrev pub close : ℕ → ℕ → Bool
close p q = nat_le (10 * p) (11 * q)

-- a value of the period p and the size n, before the groups of those that follow it:
-- the first of these groups begins with its neighbour, whose period is the group's
abbrev pub put : ℕ → ℕ → List Response → List Response
put p n [] = mode p (pos n) ∷ []
put p n (g ∷ gs) = cond (close p g.period) (mode p (pos (n + size g)) ∷ gs) (mode p (pos n) ∷ (g ∷ gs))

-- each run of close neighbours as one value: the sum of their sizes, and the longest of their periods
abbrev pub groups : List Response → List Response
groups [] = []
groups (x ∷ xs) = put x.period (size x) (groups xs)
