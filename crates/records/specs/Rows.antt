-- What a record of 96 bytes says, and what is refused in it.
use Prim.Native.String.{String}
use Rattle.std.specs.Prelude.{ℕ, ◌+◌, ◌*◌, min, true, cond, not, List, [], ◌∷◌, length, take, drop, Some, None, Ok, Err, codes, Option, Result, ◌==◌, nat_lt, slice_index}
use Rattle.standard.specs.declared.fault.Fault.{Fault}
use Rattle.standard.specs.declared.fault.Ground.TheVariants.{ShortRecord, UnknownLetter, UnusedByte}
use Rattle.standard.specs.declared.values.SiteValues.{SiteValues}
use Rattle.standard.specs.Faults.{Refusal, refusal, Verdict, verdict, fault}
use Rattle.records.specs.Bytes.{number_at}
use Rattle.records.specs.declared.record.Record.{Record}
use Rattle.records.specs.declared.record.Record.TheVariants.{Site, Floor, Reweigh, Mode, Strike, Static, Modal}

-- what a record says, with the bytes of a mode's ordinates as a list
pub data Row : Type 0 where
  site : (values : SiteValues) → Row
  floor : (height weight : ℕ) → Row
  reweigh : (floor weight : ℕ) → Row
  mode : (period count : ℕ) (ordinates : List ℕ) → Row
  strike : (mode : ℕ) → Row
  static : Row
  modal : (rule : ℕ) → Row

-- a record as a row: the ordinates are the bytes that it borrows
abbrev pub told : Record → Row
told (Site values) = site values
told (Floor height weight) = floor height weight
told (Reweigh n weight) = reweigh n weight
told (Mode period count ordinates) = mode period count ordinates.now
told (Strike n) = strike n
told Static = static
told (Modal rule) = modal rule

-- what a reading gives: a row, or why not
abbrev pub heard : Result Record Fault → Result Row Fault
heard (Ok r) = Ok (told r)
heard (Err f) = Err f

-- ---- the places of the fields

-- a text of one letter as its byte
abbrev pub byte_of : String → ℕ
byte_of s = slice_index (codes s) 0

-- the seven values of a site
abbrev pub site_at : List ℕ → SiteValues
site_at bs =
    record {
      zone = number_at bs 1 1;
      soil = number_at bs 2 1;
      importance = number_at bs 3 1;
      system = number_at bs 4 1;
      formula = number_at bs 5 1;
      plan = number_at bs 6 1;
      base = number_at bs 7 2;
    }

-- the bytes that a count of ordinates takes: 46 ordinates fill the record
abbrev pub ordinate_bytes : ℕ → ℕ
ordinate_bytes count = 2 * min count 46

-- what a mode's record says
abbrev pub mode_at : List ℕ → Row
mode_at bs = mode (number_at bs 1 2) (number_at bs 3 1) (take (ordinate_bytes (number_at bs 3 1)) (drop 4 bs))

-- where a mode's ordinates end
abbrev pub mode_end : List ℕ → ℕ
mode_end bs = 4 + ordinate_bytes (number_at bs 3 1)

-- what the letter says of the bytes: the row, and where the unused bytes begin
abbrev pub layout_of : ℕ → List ℕ → Option (Row × ℕ)
layout_of letter bs =
    cond (letter == (byte_of "S")) (Some (site (site_at bs), 9))
    (cond (letter == (byte_of "F")) (Some (floor (number_at bs 1 2) (number_at bs 3 4), 7))
    (cond (letter == (byte_of "W")) (Some (reweigh (number_at bs 1 1) (number_at bs 2 4), 6))
    (cond (letter == (byte_of "M")) (Some (mode_at bs, mode_end bs))
    (cond (letter == (byte_of "K")) (Some (strike (number_at bs 1 1), 2))
    (cond (letter == (byte_of "E")) (Some (static, 1))
    (cond (letter == (byte_of "C")) (Some (modal (number_at bs 1 1), 2))
    None))))))

-- the layout that the code gives, as rows
abbrev pub laid : Option (Record × ℕ) → Option (Row × ℕ)
laid None = None
laid (Some l) = Some (told l.0, l.1)

-- ---- what is refused

-- the bytes from place p on are unused: each is refused where it is not 0
abbrev pub unused_refusals : ℕ → List ℕ → List Refusal
unused_refusals p [] = []
unused_refusals p (b ∷ bs) = refusal UnusedByte p (not (b == 0)) ∷ unused_refusals (p + 1) bs

-- of 96 bytes: a letter that has no layout, then the unused bytes
abbrev pub layout_refusals : List ℕ → Option (Row × ℕ) → List Refusal
layout_refusals bs None = refusal UnknownLetter 0 true ∷ []
layout_refusals bs (Some l) = unused_refusals l.1 (drop l.1 bs)

-- of any bytes: too few of them, then what the first 96 are refused for
abbrev pub record_refusals : List ℕ → List Refusal
record_refusals bs = refusal ShortRecord (length bs) (nat_lt (length bs) 96) ∷ layout_refusals (take 96 bs) (layout_of (slice_index (take 96 bs) 0) (take 96 bs))

-- ---- what is read

-- a row, unless something was refused
abbrev pub after : Verdict → Row → Result Row Fault
after (Ok x) row = Ok row
after (Err f) row = Err f

-- what 96 bytes of a layout say
abbrev pub ruled : List ℕ → Option (Row × ℕ) → Result Row Fault
ruled bs None = Err (fault UnknownLetter 0)
ruled bs (Some l) = after (verdict (unused_refusals l.1 (drop l.1 bs))) l.0

-- what 96 bytes say
abbrev pub whole_of : List ℕ → Result Row Fault
whole_of bs = ruled bs (layout_of (slice_index bs 0) bs)

-- what any bytes say: the first 96 are read
abbrev pub record_of : List ℕ → Result Row Fault
record_of bs = cond (nat_lt (length bs) 96) (Err (fault ShortRecord (length bs))) (whole_of (take 96 bs))

-- whether a reading was accepted, or why not
abbrev pub answer : Result Row Fault → Verdict
answer (Ok row) = Ok tt
answer (Err f) = Err f
