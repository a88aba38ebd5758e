use Rattle.std.proofs.Common.{◌≡◌, ℕ, ◌+◌, List, ◌++◌, length, sym, ap, ◌∙◌, append_assoc, length-append, arith}
use Rattle.print.specs.declared.storeys.Figures.{Figures}
use Rattle.print.specs.Texts.{line_text, lines_text}
use Rattle.print.proofs.Lines.{lines_on_top}
use Rattle.print.proofs.print.storeys_text.Goals as goal

pub loop-i-preserved : goal.loop-i-preserved
loop-i-preserved c =
    let step = c.in-Some-2.ensures.steps in
    let before = c.loop-i.text.bytes in
    let below = c.next.new.self.iter.iter.rest.now in
    let top = c.in-Some-2.figures.now in
    let storey : c.in-Some-2.i + 1 ≡ 0 + length below + 1 = omega (arith, step.1.1) in
    record {
      counted = step.0 ∙ c.loop-i.invariant.counted;
      ends =
          ap (λ (t : List ℕ). t ++ lines_text 0 below) c.push_line.ensures.line
          ∙ append_assoc before (line_text (c.in-Some-2.i + 1) top) (lines_text 0 below)
          ∙ ap (λ (k : ℕ). before ++ (line_text k top ++ lines_text 0 below)) storey
          ∙ ap (λ (t : List ℕ). before ++ t) (sym (lines_on_top 0 below top))
          ∙ ap (λ (r : List Figures). before ++ lines_text 0 r) (sym step.1.0)
          ∙ c.loop-i.invariant.ends;
      room = omega (arith, simp length-append at (ap length step.1.0));
    }
