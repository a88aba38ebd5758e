use Rattle.std.proofs.Common.{nat_lt, rules}
use Rattle.std.proofs.lemmas.List.Sorted.{answers_always}
use Rattle.combination.proofs.Falling.{falls_answered}
use Rattle.combination.proofs.response_list.periods_fall.Goals as goal

pub returns : goal.returns
returns c = falls_answered _ _ (c.is_sorted_by.ensures.cases (λ x y. nat_lt y.period x.period) (answers_always _ _ _ (λ f a r g k. search (rules, k))))
