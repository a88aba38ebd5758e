use Rattle.std.proofs.Common.{◌≡◌, ◌+◌, ◌*◌, ◌<◌, drop, length}
use Rattle.std.specs.Iterator.Adapters.{enumerate_source, enumerate_count}
use Rattle.std.specs.Slice.Iter.{chunks_rest, chunks_size}
use Rattle.deck.specs.Books.{book_of}
use Rattle.deck.specs.Decks.{first_records, verdicts_of, overlaid}
use Rattle.deck.specs.Desks.{DeskStands}
use Rattle.deck.proofs.whole.answer_deck.Given as goal

abbrev pub invariant-loop-i : goal.invariant-loop-i
invariant-loop-i l = record {
  goes : goal.iterator-loop-i.can_next l.i-iterator;
  ends : goal.iterator-loop-i.is_finite l.i-iterator;
  size : chunks_size (enumerate_source l.i-iterator) ≡ 96;
  left : chunks_rest (enumerate_source l.i-iterator) ≡ drop (96 * enumerate_count l.i-iterator) l.deck;
  within : 96 * enumerate_count l.i-iterator < length l.deck + 96;
  desk : DeskStands l.desk (book_of (first_records (enumerate_count l.i-iterator) l.deck));
  answered : l.answers ≡ overlaid (verdicts_of (first_records (enumerate_count l.i-iterator) l.deck)) l.initial.answers;
}
