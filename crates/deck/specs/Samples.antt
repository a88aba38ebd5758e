-- What is printed follows from the records alone; and a deck whose print is known.
use Rattle.std.specs.Prelude.{◌≡◌, ℕ, ◌-◌, List, [], ◌∷◌, ◌++◌, length, replicate, codes}
use Rattle.records.specs.Rows.{byte_of}
use Rattle.sheet.specs.Readings.{expected}
use Rattle.deck.specs.declared.desk.Desk.{Desk}
use Rattle.deck.specs.Books.{Book, book_of}
use Rattle.deck.specs.Desks.{DeskStands}
use Rattle.deck.specs.Prints.{read_text, sheet_text}

-- a desk that stands by a book prints what the book's ledger says is to be read
abbrev pub PrintLaw : Type 0
PrintLaw = (d : Desk) (b : Book) → DeskStands d b → sheet_text d.sheet ≡ read_text (expected b.ledger)

-- bytes followed by as many of 0 as fill a record
abbrev pub card : List ℕ → List ℕ
card bytes = bytes ++ replicate (96 - length bytes) 0

-- a two-storey building: its site, two floors, two modes, and the modal method by the sum of squares
abbrev pub frame_deck : List (List ℕ)
frame_deck =
    card (byte_of "S" ∷ (3 ∷ (1 ∷ (10 ∷ (2 ∷ (1 ∷ []))))))
    ∷ (card (byte_of "F" ∷ (0 ∷ (30 ∷ (0 ∷ (0 ∷ (78 ∷ (32 ∷ [])))))))
    ∷ (card (byte_of "F" ∷ (0 ∷ (60 ∷ (0 ∷ (0 ∷ (78 ∷ (32 ∷ [])))))))
    ∷ (card (byte_of "M" ∷ (1 ∷ (244 ∷ (2 ∷ (2 ∷ (106 ∷ (3 ∷ (232 ∷ []))))))))
    ∷ (card (byte_of "M" ∷ (0 ∷ (190 ∷ (2 ∷ (3 ∷ (232 ∷ (253 ∷ (150 ∷ []))))))))
    ∷ (card (byte_of "C" ∷ (1 ∷ [])) ∷ [])))))

-- a desk that stands by its records prints three lines
abbrev pub FramePrint : Type 0
FramePrint = (d : Desk) → DeskStands d (book_of frame_deck) → sheet_text d.sheet ≡ codes "base 1600\n2 1002 1002\n1 1600 598\n"
