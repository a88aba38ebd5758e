-- The rules on short lists, by number.
use Rattle.std.specs.Prelude.{◌≡◌, ℕ, List, [], ◌∷◌, pos, negsuc}
use Rattle.rounding.specs.Roots.{root}
use Rattle.combination.specs.declared.response.Response.{Response}
use Rattle.combination.specs.Values.{mode}
use Rattle.combination.specs.Squared.{squares, squared_total}
use Rattle.combination.specs.Groups.{groups}

-- 300 and -400, of the periods p and q
abbrev pub pair : ℕ → ℕ → List Response
pair p q = mode p (pos 300) ∷ (mode q (negsuc 399) ∷ [])

pub record Examples : Type 0 where
  -- the sum of squares: 90,000 + 160,000, of which the root is 500
  pub by_squares : squares (pair 1000 500) ≡ 250000
  pub by_squares_root : root (squares (pair 1000 500)) ≡ 500
  -- the sum of the sizes: 300 + 400
  pub by_sizes : squared_total (pair 1000 500) ≡ 490000
  pub by_sizes_root : root (squared_total (pair 1000 500)) ≡ 700
  -- 1100 is 1000 and a tenth of it, so the two are close, whatever their signs; 1101 is more
  pub at_a_tenth : squares (groups (pair 1100 1000)) ≡ 490000
  pub past_a_tenth : squares (groups (pair 1101 1000)) ≡ 250000
  -- of a group, the sum of the sizes and the longest period
  pub one_group : groups (pair 1100 1000) ≡ mode 1100 (pos 700) ∷ []
  -- close is each neighbour to the next: 1200 and 1000 alone are not
  pub chain : groups (mode 1200 (pos 300) ∷ (mode 1100 (negsuc 399) ∷ (mode 1000 (pos 50) ∷ []))) ≡ mode 1200 (pos 750) ∷ []
  pub no_chain : groups (pair 1200 1000) ≡ mode 1200 (pos 300) ∷ (mode 1000 (pos 400) ∷ [])
  -- no longer period is close to nought
  pub at_nought : groups (pair 1 0) ≡ mode 1 (pos 300) ∷ (mode 0 (pos 400) ∷ [])
