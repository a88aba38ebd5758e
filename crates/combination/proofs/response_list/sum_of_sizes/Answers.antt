use Rattle.std.proofs.Common.{refl, rules}
use Rattle.std.proofs.iter.runs.Made.{chains}
use Rattle.std.proofs.lemmas.List.Recursion.{is_sum_by}
use Rattle.combination.specs.Values.{size, total}
use Rattle.combination.proofs.response_list.sum_of_sizes.Goals as goal

pub returns : goal.returns
returns c = search (rules, chains, is_sum_by total size refl (λ _ _. refl))
