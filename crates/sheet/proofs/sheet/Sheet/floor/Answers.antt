use Rattle.std.proofs.Common.{ℕ, ◌+◌, sym, ap, ◌∙◌, arith}
use Rattle.formulas.specs.Buildings.{W}
use Rattle.methods.specs.Loads.{every, in_range}
use Rattle.sheet.specs.Contents.{floors_in, modes_in}
use Rattle.sheet.specs.Floors.{rises_from}
use Rattle.sheet.proofs.FloorLists.{rises_grown, ranged_grown, weight_grown}
use Rattle.sheet.proofs.Judged.{floor_taken}
use Rattle.sheet.proofs.sheet.Sheet.floor.Goals as goal

pub invariant_of-self-clause-rising : goal.invariant_of-self-clause-rising
invariant_of-self-clause-rising c =
    let s = c.args.self.now in
    let t = floor_taken (floors_in s) (modes_in s) c.args.height c.args.weight c.in_ok-judge_floor.ensures in
    ap (rises_from 0) c.push.ensures.floors ∙ rises_grown 0 (floors_in s) c.args.height c.args.weight s.rising (omega (arith, t.above)) t.above

pub invariant_of-self-clause-ranged : goal.invariant_of-self-clause-ranged
invariant_of-self-clause-ranged c =
    let s = c.args.self.now in
    let t = floor_taken (floors_in s) (modes_in s) c.args.height c.args.weight c.in_ok-judge_floor.ensures in
    ap (every in_range) c.push.ensures.floors ∙ ranged_grown (floors_in s) c.args.height c.args.weight s.ranged t.height t.weight

pub invariant_of-self-clause-summed : goal.invariant_of-self-clause-summed
invariant_of-self-clause-summed c =
    let s = c.args.self.now in
    ap (λ (x : ℕ). x + c.args.weight) s.summed ∙ sym (ap W c.push.ensures.floors ∙ weight_grown (floors_in s) c.args.height c.args.weight)
