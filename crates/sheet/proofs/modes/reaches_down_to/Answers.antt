use Rattle.std.proofs.Common.{◌≡◌, ◌-◌, false, leb, length, ◌∙◌, rules}
use Rattle.std.specs.List.{slice_get}
use Rattle.std.specs.Option.{option_map_or}
use Rattle.fixed_list.specs.Items.{items_of}
use Rattle.methods.specs.declared.modes.ModeRow.{ModeRow}
use Rattle.sheet.proofs.ModeLists.{last_row}
use Rattle.sheet.proofs.modes.reaches_down_to.Goals as goal

pub returns : goal.returns
returns c n =
    let rows = items_of c.args.modes.now in
    let e : c.is_some_and.result ≡ option_map_or (λ (r : ModeRow). leb r.period c.args.period) (slice_get (items_of c.args.modes.now) (length (items_of c.args.modes.now) - 1)) false = search rules in
    e ∙ last_row c.args.period n rows
