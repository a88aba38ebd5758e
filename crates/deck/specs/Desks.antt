-- What a desk answers and leaves, for every desk; and when a desk stands by a book.
use Rattle.std.specs.Prelude.{◌≡◌, ℕ, true, List, [], ◌∷◌, ◌++◌, is_ok, is_err, Some, None, Ok, Err, Option, Result}
use Rattle.std.specs.Option.{option_map}
use Rattle.standard.specs.declared.fault.Fault.{Fault}
use Rattle.standard.specs.declared.terms.SiteTerms.{SiteTerms}
use Rattle.standard.specs.Faults.{Verdict, verdict}
use Rattle.records.specs.Rows.{Row}
use Rattle.sheet.specs.declared.sheet.Sheet.{Sheet}
use Rattle.sheet.specs.Answers.{Answers}
use Rattle.sheet.specs.Contents.{floors_in, modes_in}
use Rattle.sheet.specs.Faultless.{Faultless, FairLedger}
use Rattle.sheet.specs.Ledgers.{Asked}
use Rattle.deck.specs.declared.desk.Desk.{Desk}
use Rattle.deck.specs.Books.{Deed, accept, ask, deed, grounds, judged, Book, verdict_in, book_of}
use Rattle.deck.specs.Terms.{terms_of}

-- the terms of the site that a desk holds
abbrev pub site_in : Desk → Option SiteTerms
site_in d = option_map (λ s. s.terms) d.site

-- what an accepted record leaves: the site that it gives, or what its call leaves of the sheet
abbrev pub CallLeft : Option SiteTerms → Sheet → (SiteTerms → Asked) → Sheet → Type 0
CallLeft None s call s' = s' ≡ s
CallLeft (Some t) s call s' = Answers s (call t) (Ok tt) s'

abbrev pub Left : Desk → Desk → Deed → Type 0
Left d d' (accept values) = (site_in d' ≡ Some (terms_of values)) × (d'.sheet ≡ d.sheet)
Left d d' (ask own call) = (site_in d' ≡ site_in d) × CallLeft (site_in d) d.sheet call d'.sheet

-- the desk d does a deed, answers r and is d' then
pub record Does (d : Desk) (e : Deed) (r : Verdict) (d' : Desk) : Type 0 where
  pub answer : r ≡ verdict (grounds (site_in d) (floors_in d.sheet) (modes_in d.sheet) e)
  pub kept : is_err r ≡ true → d' ≡ d
  pub left : is_ok r ≡ true → Left d d' e

abbrev pub LeftBy : Desk → Desk → Result Row Fault → Type 0
LeftBy d d' (Err f) = d' ≡ d
LeftBy d d' (Ok row) = Left d d' (deed row)

-- the desk d takes a record that reads so, answers r and is d' then
pub record Takes (d : Desk) (reading : Result Row Fault) (r : Verdict) (d' : Desk) : Type 0 where
  pub answer : r ≡ judged (site_in d) (floors_in d.sheet) (modes_in d.sheet) reading
  pub kept : is_err r ≡ true → d' ≡ d
  pub left : is_ok r ≡ true → LeftBy d d' reading

-- a desk stands by a book: it holds the book's site, and its sheet keeps the whole promise for the book's ledger
pub record DeskStands (d : Desk) (b : Book) : Type 0 where
  pub site : site_in d ≡ b.site
  pub sheet : Faultless d.sheet b.ledger
  pub fair : FairLedger b.ledger

-- the law on histories: a desk that stands by one answers what it says of the next record, and stands by the history with that record
abbrev pub CarriesOn : Desk → List ℕ → Verdict → Desk → Type 0
CarriesOn d bytes r d' = (h : List (List ℕ)) → DeskStands d (book_of h) → (r ≡ verdict_in (book_of h) bytes) × DeskStands d' (book_of (h ++ (bytes ∷ [])))
