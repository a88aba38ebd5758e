-- The laws hold of each rule, and what follows from them.
use Rattle.std.specs.Prelude.{ℕ, List}
use Rattle.combination.specs.declared.response.Response.{Response}
use Rattle.combination.specs.Squared.{squares, squared_total}
use Rattle.combination.specs.Groups.{groups}
use Rattle.combination.specs.Laws.{Laws, Consequences}

pub record RuleLaws : Type 0 where
  pub of_squares : Laws squares
  pub of_sizes : Laws squared_total
  -- over the groups, if they hold of the rule below
  pub of_groups : (q : List Response → ℕ) → Laws q → Laws (λ xs. q (groups xs))
  -- of any rule
  pub consequences : (q : List Response → ℕ) → Laws q → Consequences q
