-- A deck cut into records, and what is answered to each.
use Rattle.std.specs.Prelude.{ℕ, zero, suc, ◌+◌, ◌*◌, ◌/◌, ◌%◌, min, List, [], ◌∷◌, ◌++◌, length, take, drop}
use Rattle.standard.specs.Faults.{Verdict}
use Rattle.deck.specs.Books.{Book, verdict_in, enter, blank}

-- the first n records; the last may be shorter than 96 bytes
abbrev pub first_records : ℕ → List ℕ → List (List ℕ)
first_records zero bytes = []
first_records (suc n) bytes = first_records n bytes ++ (take 96 (drop (96 * n) bytes) ∷ [])

-- all of them: the whole ones, and one more where bytes are left over
abbrev pub records_of : List ℕ → List (List ℕ)
records_of bytes = first_records (length bytes / 96 + min 1 (length bytes % 96)) bytes

-- what the book says of records that follow one another, each judged by the book of those before it
abbrev pub verdicts_from : Book → List (List ℕ) → List Verdict
verdicts_from b [] = []
verdicts_from b (bytes ∷ more) = verdict_in b bytes ∷ verdicts_from (enter b bytes) more

-- the same from the start
abbrev pub verdicts_of : List (List ℕ) → List Verdict
verdicts_of records = verdicts_from blank records

-- a list laid over the beginning of another, which keeps its length
abbrev pub overlaid : {A : Type 0} → List A → List A → List A
overlaid [] ys = ys
overlaid (x ∷ xs) [] = []
overlaid (x ∷ xs) (y ∷ ys) = x ∷ overlaid xs ys
