-- The square of the combined size, by the rule that was chosen, and the rules by their numbers.
use Rattle.std.specs.Prelude.{◌≡◌, ℕ, ◌<◌, ◌≤◌, cond, ◌⊎◌, List, Result, MatchResult, ◌==◌}
use Rattle.combination.specs.declared.response.Response.{Response}
use Rattle.combination.specs.declared.choice.RuleChoice.{RuleChoice}
use Rattle.combination.specs.declared.choice.UnknownRule.{UnknownRule}
use Rattle.combination.specs.declared.choice.RuleChoice.TheVariants.{SumOfSquares, AbsoluteSum, GroupedSumOfSquares, GroupedAbsoluteSum}
use Rattle.combination.specs.Squared.{squares, squared_total}
use Rattle.combination.specs.Groups.{groups}

abbrev pub chosen : RuleChoice → List Response → ℕ
chosen SumOfSquares xs = squares xs
chosen AbsoluteSum xs = squared_total xs
chosen GroupedSumOfSquares xs = squares (groups xs)
chosen GroupedAbsoluteSum xs = squared_total (groups xs)

-- 1 sum of squares, 2 absolute sum, 3 grouping over the sum of squares, 4 grouping over the absolute sum
abbrev pub rule_numbered : ℕ → RuleChoice
rule_numbered n = cond (n == 1) SumOfSquares (cond (n == 2) AbsoluteSum (cond (n == 3) GroupedSumOfSquares GroupedAbsoluteSum))

-- the rule of this number, or an error with a number that no rule has
abbrev pub IsNumbered : ℕ → Result RuleChoice UnknownRule → Type 0
IsNumbered n r = MatchResult r (λ rule. (1 ≤ n) × (n ≤ 4) × (rule ≡ rule_numbered n)) (λ e. (e.0 ≡ n) × ((n < 1) ⊎ (4 < n)))
