use Rattle.std.proofs.Common.{rules, ◌*◌, ◌^◌, ◌<◌, arith}
use Rattle.std.specs.List.{sum_by}
use Rattle.std.proofs.iter.runs.Made.{chains}
use Rattle.formulas.specs.declared.floor.Floor.{Floor}
use Rattle.methods.proofs.LoadFacts.{moments, moment_size}
use Rattle.methods.proofs.statics.whole_moment.Goals as goal

pub sum-requires-clause-fits : goal.sum-requires-clause-fits
sum-requires-clause-fits c =
    let l = c.args.loads.now in
    let s = moment_size l.floors.now l.ranged in
    let b : sum_by (λ (f : Floor). f.weight * (f.height * f.height)) c.args.loads.now.floors.now < 2 ^ 64 = omega (arith, s, moments l.floors.now, l.summed, l.light) in
    search (rules, chains)

pub returns : goal.returns
returns c = let e = moments c.args.loads.now.floors.now in search (rules, chains)
