use Rattle.std.proofs.Common.{◌≡◌, drop, sum, Err, sym, ap, ◌∙◌, arith}
use Rattle.std.proofs.lemmas.Bool.{eqb-true}
use Rattle.std.proofs.lemmas.Slice.{between_to_end}
use Rattle.records.proofs.Unused.{found, first_filled, all_clear}
use Rattle.records.proofs.read.clear_from.Goals as goal

pub returns-then-is_clear : goal.returns-then-is_clear
returns-then-is_clear c =
    let rest = between_to_end c.args.bytes.now c.args.used 96 (omega arith) in
    let none : sum (drop c.args.used c.args.bytes.now) ≡ 0 = ap sum (sym rest) ∙ eqb-true _ 0 (sym c.if-is_clear.ensures) in
    sym (all_clear c.args.used (drop c.args.used c.args.bytes.now) none)

pub returns-in-Some : goal.returns-in-Some
returns-in-Some c =
    let rest = between_to_end c.args.bytes.now c.args.used 96 (omega arith) in
    let here = simp rest at c.in-Some.ensures in
    ap Err c.at.ensures ∙ ap (found c.args.used) here ∙ sym (first_filled c.args.used (drop c.args.used c.args.bytes.now))

pub returns-in-None : goal.returns-in-None
returns-in-None c =
    let rest = between_to_end c.args.bytes.now c.args.used 96 (omega arith) in
    let here = simp rest at c.in-None.ensures in
    ap (found c.args.used) here ∙ sym (first_filled c.args.used (drop c.args.used c.args.bytes.now))
