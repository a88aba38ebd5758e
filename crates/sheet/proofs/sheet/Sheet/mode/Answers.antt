use Rattle.std.proofs.Common.{◌≡◌, ℕ, true, not, eqb, leb, List, [], ◌∷◌, ◌++◌, length, refl, ap, ◌∙◌, arith, rules}
use Rattle.std.proofs.lemmas.List.{map_push}
use Rattle.std.proofs.lemmas.Result.{IfOk-at_ok}
use Rattle.fixed_list.specs.Items.{items_of}
use Rattle.std.proofs.lemmas.Bool.{and_from, and_parts, eq-eqb, leb-true}
use Rattle.standard.specs.Sites.{within}
use Rattle.methods.specs.declared.modes.ModeRow.{ModeRow}
use Rattle.methods.specs.Loads.{every}
use Rattle.methods.specs.Shapes.{mode_of, modes_of, falls_from, usable, all_zero, outside}
use Rattle.methods.proofs.Lists.{every_append}
use Rattle.sheet.specs.declared.modes.ModeShape.{ModeShape}
use Rattle.sheet.specs.declared.sheet.Sheet.{Sheet}
use Rattle.sheet.specs.Contents.{floors_in, modes_in}
use Rattle.sheet.specs.Ledgers.{entered}
use Rattle.sheet.specs.Modes.{typed}
use Rattle.sheet.proofs.Judged.{ModeTaken, mode_taken}
use Rattle.sheet.proofs.ModeLists.{falls_pushed}
use Rattle.sheet.proofs.Ordinates.{all_inside, typed_length}
use Rattle.sheet.proofs.sheet.Sheet.mode.Goals as goal

module _ (s : Sheet) (m : ModeShape) (t : ModeTaken (floors_in s) (modes_in s) m.period m.count (typed m)) where
  -- the row that is taken up is the mode that was typed in
  held_now : (rows : List ModeRow) → rows ≡ items_of s.modes ++ (record { period = m.period; ordinates = m.ordinates } ∷ []) → modes_of s.table.count rows ≡ entered (modes_in s) m.period (typed m)
  held_now rows e =
      let n : s.table.count ≡ m.count = omega (arith, t.count, s.held) in
      ap (modes_of s.table.count) e ∙ map_push (mode_of s.table.count) (items_of s.modes) _ ∙ ap (λ (k : ℕ). modes_in s ++ (mode_of k (record { period = m.period; ordinates = m.ordinates }) ∷ [])) n

  falls_now : falls_from 4001 (entered (modes_in s) m.period (typed m)) ≡ true
  falls_now = falls_pushed 4001 (modes_in s) (record { period = m.period; ordinates = typed m }) s.falling (omega (arith, leb-true m.period 4000 (and_parts (leb 1 m.period) (leb m.period 4000) t.period).1)) t.below

  usable_new : length m.ordinates ≡ 40 → usable s.table.count (record { period = m.period; ordinates = typed m }) ≡ true
  usable_new long =
      let n : length (typed m) ≡ s.table.count = typed_length m.ordinates m.count long ∙ omega (arith, t.count, s.few, s.held) in
      and_from (within 1 4000 m.period) _ t.period
      (and_from (eqb (length (typed m)) s.table.count) _ (eq-eqb _ _ n)
      (and_from (every (λ y. not (outside y)) (typed m)) (not (all_zero (typed m))) (all_inside (typed m) t.inside) (ap not t.moves)))

  usable_now : length m.ordinates ≡ 40 → every (usable s.table.count) (entered (modes_in s) m.period (typed m)) ≡ true
  usable_now long = every_append (usable s.table.count) (modes_in s) _ s.moving (and_from (usable s.table.count (record { period = m.period; ordinates = typed m })) true (usable_new long) refl)

pub invariant_of-self-clause-falling : goal.invariant_of-self-clause-falling
invariant_of-self-clause-falling c =
    let s = c.args.self.now in
    let m = c.args.shape.now in
    let t = mode_taken (floors_in s) (modes_in s) m.period m.count (typed m) c.in_ok-judge_mode.ensures in
    let rows = IfOk-at_ok (λ _. items_of c.push.new.self ≡ items_of s.modes ++ (record { period = m.period; ordinates = m.ordinates } ∷ [])) c.unwrap.ensures c.push.ensures.pushed in
    ap (falls_from 4001) (held_now s m t _ rows) ∙ falls_now s m t

pub invariant_of-self-clause-moving : goal.invariant_of-self-clause-moving
invariant_of-self-clause-moving c =
    let s = c.args.self.now in
    let m = c.args.shape.now in
    let long : length c.args.shape.now.ordinates ≡ 40 = search rules in
    let t = mode_taken (floors_in s) (modes_in s) m.period m.count (typed m) c.in_ok-judge_mode.ensures in
    let rows = IfOk-at_ok (λ _. items_of c.push.new.self ≡ items_of s.modes ++ (record { period = m.period; ordinates = m.ordinates } ∷ [])) c.unwrap.ensures c.push.ensures.pushed in
    ap (every (usable s.table.count)) (held_now s m t _ rows) ∙ usable_now s m t long
