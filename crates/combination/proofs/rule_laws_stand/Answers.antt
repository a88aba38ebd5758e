use Rattle.std.proofs.Common.{ℕ, List, refl}
use Rattle.rounding.proofs.Roots.{root_laws}
use Rattle.combination.specs.declared.response.Response.{Response}
use Rattle.combination.specs.Laws.{Laws, Consequences}
use Rattle.combination.specs.Examples.{Examples}
use Rattle.combination.proofs.SquaresLaws
use Rattle.combination.specs.TotalLaws
use Rattle.combination.specs.GroupsLaws
use Rattle.combination.specs.Bound.{at_most_total, rooted}
use Rattle.combination.specs.Rising.{rise_all}
use Rattle.combination.proofs.rule_laws_stand.Goals as goal

follow : (q : List Response → ℕ) → Laws q → Consequences q
follow q l = record { bounded = at_most_total q l.lone l.triangle; raised = λ a b r. rise_all q l.rise r; rooted = rooted q l.triangle }

shown : Examples
shown =
    record {
      by_squares = refl;
      by_squares_root = root_laws.whole 500;
      by_sizes = refl;
      by_sizes_root = root_laws.whole 700;
      at_a_tenth = refl;
      past_a_tenth = refl;
      one_group = refl;
      chain = refl;
      no_chain = refl;
      at_nought = refl;
    }

pub returns : goal.returns
returns c = record { laws = record { of_squares = SquaresLaws.laws; of_sizes = TotalLaws.laws; of_groups = GroupsLaws.laws; consequences = follow }; examples = shown }
