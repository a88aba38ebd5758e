use Rattle.std.proofs.Common.{ℕ, [], ◌∷◌, ◌++◌, List, map, get_or, rules, ap, sym, ◌∙◌, arith}
use Rattle.std.proofs.lemmas.List.{map_more, get_or-map, take_all}
use Rattle.formulas.specs.Modal.{design_shear}
use Rattle.methods.proofs.Designs.{design_small}
use Rattle.methods.proofs.outcome.design_shears.Goals as goal

pub loop-shear-preserved : goal.loop-shear-preserved
loop-shear-preserved c =
    let f = design_shear c.args.scale.code.value c.args.scale.base in
    let more = map_more f c.args.combined.now c.loop-shear.shear-index 0 c.loop-shear-test.true in
    record { counted = search rules; taken = c.push.ensures.items ∙ (λ j. c.loop-shear.invariant.taken j ++ (c.design_shear.ensures j ∷ [])) ∙ sym more }

pub returns-clause-are : goal.returns-clause-are
returns-clause-are c = c.loop-shear.invariant.taken ∙ ap (map (design_shear c.args.scale.code.value c.args.scale.base)) (take_all c.loop-shear.shear-index c.args.combined.now (omega arith))

pub returns-clause-small : goal.returns-clause-small
returns-clause-small c = λ k l.
    let s = c.args.scale in
    let xs = c.args.combined.now in
    let f = design_shear s.code.value s.base in
    let e = c.loop-shear.invariant.taken ∙ ap (map f) (take_all c.loop-shear.shear-index xs (omega arith)) in
    let is = ap (λ (ys : List ℕ). get_or ys k 0) e ∙ get_or-map f xs k 0 0 l in
    omega (arith, is, design_small s.code.value s.base (get_or c.args.combined.now k 0) s.moves s.code.low (omega (arith, c.type_inv.combined k)))
