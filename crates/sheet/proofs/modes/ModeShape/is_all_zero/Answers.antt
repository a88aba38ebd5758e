use Rattle.std.proofs.Common.{nat_eq, nat_abs, sym, ◌∙◌, rules, tests}
use Rattle.std.proofs.lemmas.Iterator.{YieldsList-from_slice}
use Rattle.std.proofs.lemmas.Iterator.Search.{all_from_yields_List}
use Rattle.sheet.specs.Modes.{typed}
use Rattle.sheet.proofs.Ordinates.{every_all}
use Rattle.sheet.proofs.modes.ModeShape.is_all_zero.Goals as goal

pub returns : goal.returns
returns c =
    all_from_yields_List (λ y. nat_eq (nat_abs y) 0) _ _ _ c.all.ensures.ran (YieldsList-from_slice (typed c.args.self.now) cc) (λ x b q k. search (rules, tests))
    ∙ sym (every_all (λ y. nat_eq (nat_abs y) 0) (typed c.args.self.now))
