use Rattle.std.proofs.Common.{◌≡◌, ℕ, ◌-◌, ◌<◌, List, length, IsSome, OnSome, Option, ◌↔◌, refl, ap, ◌∙◌, Ok, arith}
use Rattle.std.specs.List.{remove}
use Rattle.fixed_list.specs.Items.{items_of}
use Rattle.standard.specs.Faults.{verdict}
use Rattle.methods.specs.declared.modes.ModeRow.{ModeRow}
use Rattle.methods.specs.Loads.{every}
use Rattle.methods.specs.Shapes.{modes_of, falls_from, usable}
use Rattle.sheet.specs.declared.sheet.Sheet.{Sheet}
use Rattle.sheet.specs.Contents.{floors_in, modes_in}
use Rattle.sheet.specs.Ledgers.{strike, refusals}
use Rattle.sheet.proofs.Judged.{strike_taken}
use Rattle.sheet.proofs.ModeLists.{falls_without, every_without, struck}
use Rattle.sheet.proofs.Sheets.{edited}
use Rattle.sheet.proofs.sheet.Sheet.strike.Goals as goal

module _ (s : Sheet) (k : ℕ) (v : Ok tt ≡ verdict (refusals (floors_in s) (modes_in s) (strike k))) (rows : List ModeRow) (r : Option ModeRow)
    (there : IsSome r ↔ (k - 1 < length (items_of s.modes))) (gone : OnSome r (rows ≡ remove (items_of s.modes) (k - 1))) where
  struck_now : modes_of s.table.count rows ≡ remove (modes_in s) (k - 1)
  struck_now =
      let t = strike_taken (floors_in s) (modes_in s) k v in
      struck s.table.count (k - 1) (items_of s.modes) rows r there gone (omega (arith, t.0, t.1))

pub invariant_of-self-clause-falling : goal.invariant_of-self-clause-falling
invariant_of-self-clause-falling c =
    let s = c.args.self.now in
    ap (falls_from 4001) (struck_now s c.args.mode c.in_ok-judge_strike.ensures _ c.remove.result c.remove.ensures.there c.remove.ensures.moved) ∙ falls_without 4001 (modes_in s) (c.args.mode - 1) s.falling

pub invariant_of-self-clause-moving : goal.invariant_of-self-clause-moving
invariant_of-self-clause-moving c =
    let s = c.args.self.now in
    ap (every (usable s.table.count)) (struck_now s c.args.mode c.in_ok-judge_strike.ensures _ c.remove.result c.remove.ensures.there c.remove.ensures.moved) ∙ every_without (usable s.table.count) (modes_in s) (c.args.mode - 1) s.moving

pub returns-clause-answers : goal.returns-clause-answers
returns-clause-answers c =
    let s = c.args.self.now in
    edited s _ (strike c.args.mode) c.in_ok-judge_strike.ensures c.after.ensures refl (struck_now s c.args.mode c.in_ok-judge_strike.ensures _ c.remove.result c.remove.ensures.there c.remove.ensures.moved) (λ i. refl)
