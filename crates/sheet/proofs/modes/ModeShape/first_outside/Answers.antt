use Rattle.std.proofs.Common.{◌≡◌, suc, rules, tests, ap, ◌∙◌}
use Rattle.std.specs.Option.{option_map}
use Rattle.std.proofs.lemmas.Iterator.{YieldsList-from_slice}
use Rattle.std.proofs.lemmas.Iterator.Search.{position_from_yields_List}
use Rattle.methods.specs.Shapes.{outside}
use Rattle.sheet.specs.Modes.{typed}
use Rattle.sheet.proofs.Ordinates.{numbered}
use Rattle.sheet.proofs.modes.ModeShape.first_outside.Goals as goal

pub returns : goal.returns
returns c =
    let e = position_from_yields_List outside _ _ c.position.result c.position.ensures.ran (YieldsList-from_slice (typed c.args.self.now) cc) (λ x b q k. search (rules, tests)) in
    let m : c.map.result ≡ option_map suc c.position.result = search rules in
    m ∙ ap (option_map suc) e ∙ numbered (typed c.args.self.now)
