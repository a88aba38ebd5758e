use Rattle.std.proofs.Common.{◌≡◌, ◌+◌, ◌*◌, ◌≤◌, ◌++◌, length}
use Rattle.print.specs.Texts.{lines_text, text_of}
use Rattle.print.proofs.print.storeys_text.Given as goal

-- the storeys that are left are the lowest, and their lines end the text
abbrev pub invariant-loop-i : goal.invariant-loop-i
invariant-loop-i l =
    let left = l.i-iterator.iter.iter.rest.now in record {
      counted : l.i-iterator.iter.count ≡ 0;
      ends : l.text.bytes ++ lines_text 0 left ≡ text_of l.storeys.figures.now;
      room : length l.text.bytes + 64 * length left ≤ 2586;
    }
