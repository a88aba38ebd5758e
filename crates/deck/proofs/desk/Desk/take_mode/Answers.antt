use Rattle.std.proofs.Common.{◌≡◌, ℕ, min, List, [], length, ℤ, sym, ap, take, ◌∙◌, subst, arith, rules}
use Rattle.sheet.specs.Ledgers.{mode}
use Rattle.deck.specs.Books.{ask}
use Rattle.deck.specs.Desks.{Does}
use Rattle.std.proofs.lemmas.List.{take_min}
use Rattle.deck.proofs.desk.Desk.take_mode.Goals as goal

pub returns : goal.returns
returns c =
    let long : length c.decode_ordinates.result ≡ 40 = search rules in
    let p = sym (take_min c.args.count c.decode_ordinates.result) ∙ ap (λ (n : ℕ). take (min c.args.count n) c.decode_ordinates.result) long ∙ c.decode_ordinates.ensures.first (min c.args.count 40) (omega arith) in
    subst (λ (ys : List ℤ). Does c.args.self.now (ask [] (λ t. mode c.args.period c.args.count ys)) c.ask.result c.ask.new.self) p c.ask.ensures
