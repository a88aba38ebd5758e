use Rattle.std.proofs.Common.{◌≡◌, ◌+◌, ◌-◌}
use Rattle.sheet.specs.Contents.{reading_of}
use Rattle.deck.specs.Prints.{highest, figures_up_to}
use Rattle.arrayvec.specs.ArrayVec.{array_vec_len}
use Rattle.deck.proofs.pages.figures_of.Given as goal

abbrev pub invariant-loop-storey : goal.invariant-loop-storey
invariant-loop-storey l = record {
  counted : array_vec_len l.figures + 1 ≡ l.storey;
  taken : l.figures.items ≡ figures_up_to (reading_of l.sheet) (l.storey - 1);
  all : highest (reading_of l.sheet) (l.storey - 1) ≡ l.storey - 1;
}
