use Rattle.std.proofs.Common.{◌≡◌, ◌<◌, ◌++◌, [], ◌∷◌, length, List, sym, ◌∙◌, ap, subst, arith, rules}
use Rattle.fixed_list.specs.Items.{items_of}
use Rattle.std.proofs.lemmas.Int.{ints}
use Rattle.std.proofs.lemmas.List.{length-append}
use Rattle.combination.specs.declared.response.Response.{Response}
use Rattle.combination.specs.Values.{Sound}
use Rattle.combination.specs.Groups.{groups}
use Rattle.combination.proofs.Grown.{both_small, joined, opened, ended, groups_length, groups_sound}
use Rattle.combination.proofs.grouping.grouped.Goals as goal
use Rattle.combination.proofs.grouping.grouped.Goals.{then-is_close, else-is_close, After-push-2}

pub sized-next-requires : goal.sized-next-requires
sized-next-requires c = omega (arith, both_small _ _ _ _ _ _ c.loop-x.invariant c.loop-x-test.true c.args.list.sound.2)

pub overflow_add-group : goal.overflow_add-group
overflow_add-group c = omega (arith, ints, both_small _ _ _ _ _ _ c.loop-x.invariant c.loop-x-test.true c.args.list.sound.2, c.loop-x.invariant.1, ap (λ (r : Response). r.value) c.sized-next.ensures)

pub loop-x-preserved : goal.loop-x-preserved
loop-x-preserved c =
    let small = both_small _ _ _ _ _ _ c.loop-x.invariant c.loop-x-test.true c.args.list.sound.2 in
    elim c.if-is_close.branch [
      | then-is_close w ↦ rw (w.held-is, w.group-is) (joined c.args.list.items.now _ _ _ _ _ c.loop-x.invariant c.loop-x-test.true _ (omega (arith, ints, small, c.loop-x.invariant.1, ap (λ (r : Response). r.value) c.sized-next.ensures)) (sym c.is_close.ensures ∙ w.if-is_close.true))
      | else-is_close w ↦
          let room : length (items_of c.loop-x.held) < 9 = omega (arith, c.loop-x.invariant.0, c.loop-x-test.true, c.in-Some.ensures.cases.1, c.args.list.sound.0) in
          let more : items_of w.push.new.self ≡ items_of c.loop-x.held ++ (c.loop-x.group ∷ []) = search (rules, room) in
          rw (w.held-is, w.group-is) (opened c.args.list.items.now _ _ _ _ _ c.loop-x.invariant c.loop-x-test.true _ _ more c.sized-next.ensures (sym c.is_close.ensures ∙ w.if-is_close.false))
    ]

whole : (c : After-push-2) → items_of c.push-2.new.self ≡ groups c.args.list.items.now
whole c =
    let all : items_of c.loop-x.held ++ (c.loop-x.group ∷ []) ≡ groups c.args.list.items.now = ended c.args.list.items.now _ _ _ _ _ c.loop-x.invariant c.loop-x-test.false in
    let few : length (items_of c.loop-x.held) < 9 = omega (arith, ap length all, length-append (items_of c.loop-x.held) (c.loop-x.group ∷ []), groups_length c.args.list.items.now, c.args.list.sound.0) in
    let e : items_of c.push-2.new.self ≡ items_of c.loop-x.held ++ (c.loop-x.group ∷ []) = search (rules, few) in
    e ∙ all

pub invariant_of-result-2 : goal.invariant_of-result-2
invariant_of-result-2 c = record { sound = subst (λ (l : List Response). Sound l) (sym (whole c)) (groups_sound c.args.list.items.now c.args.list.sound) }

pub returns : goal.returns
returns c = whole (goal.at.returns c).After-push-2
