-- The book of a deck: what follows from its records alone.
use Rattle.std.specs.Prelude.{ℕ, min, true, not, List, [], ◌∷◌, ◌++◌, Some, None, Ok, Err, fold, Option, Result}
use Rattle.standard.specs.declared.fault.Fault.{Fault}
use Rattle.standard.specs.declared.fault.Ground.TheVariants.{SiteOrder, NoSuchRule}
use Rattle.standard.specs.declared.terms.SiteTerms.{SiteTerms}
use Rattle.standard.specs.declared.values.SiteValues.{SiteValues}
use Rattle.standard.specs.Faults.{Refusal, refusal, Verdict, verdict}
use Rattle.standard.specs.Sites.{site_refusals, within}
use Rattle.spectra.specs.Spectra.{code_curve}
use Rattle.combination.specs.Choice.{chosen, rule_numbered}
use Rattle.formulas.specs.declared.floor.Floor.{Floor}
use Rattle.formulas.specs.Buildings.{Mode}
use Rattle.records.specs.Ordinates.{ordinates_at}
use Rattle.records.specs.Rows as rows
use Rattle.records.specs.Rows.{Row, record_of}
use Rattle.sheet.specs.Ledgers as asks
use Rattle.sheet.specs.Ledgers.{Asked, Ledger, refusals, opened, step}
use Rattle.deck.specs.Terms.{terms_of}

-- what a record is for: the values of a site, or a call on the sheet, at a site, with a refusal of the record's own that is tried before the call's
pub data Deed : Type 0 where
  accept : SiteValues → Deed
  ask : List Refusal → (SiteTerms → Asked) → Deed

-- decks use the code's curve for the site's soil
abbrev pub deed : Row → Deed
deed (rows.site values) = accept values
deed (rows.floor height weight) = ask [] (λ t. asks.floor height weight)
deed (rows.reweigh floor weight) = ask [] (λ t. asks.reweigh floor weight)
deed (rows.mode period count bytes) = ask [] (λ t. asks.mode period count (ordinates_at bytes (min count 40)))
deed (rows.strike mode) = ask [] (λ t. asks.strike mode)
deed rows.static = ask [] (λ t. asks.static t (code_curve t.soil))
deed (rows.modal rule) = ask (refusal NoSuchRule 1 (not (within 1 4 rule)) ∷ []) (λ t. asks.modal t (code_curve t.soil) (chosen (rule_numbered rule)))

-- what is refused: a site after one was accepted, another record before one was, and then by kind
abbrev pub grounds : Option SiteTerms → List Floor → List Mode → Deed → List Refusal
grounds None fs ms (accept values) = site_refusals values
grounds (Some t) fs ms (accept values) = refusal SiteOrder 0 true ∷ []
grounds None fs ms (ask own call) = refusal SiteOrder 0 true ∷ []
grounds (Some t) fs ms (ask own call) = own ++ refusals fs ms (call t)

-- the verdict on a record: of its reading, then of what it is for
abbrev pub judged : Option SiteTerms → List Floor → List Mode → Result Row Fault → Verdict
judged site fs ms (Err f) = Err f
judged site fs ms (Ok row) = verdict (grounds site fs ms (deed row))

-- the site that was accepted, and the ledger of the sheet
pub record Book : Type 0 where
  pub site : Option SiteTerms
  pub ledger : Ledger

abbrev pub blank : Book
blank = record { site = None; ledger = opened }

abbrev pub verdict_in : Book → List ℕ → Verdict
verdict_in b bytes = judged b.site b.ledger.floors b.ledger.modes (record_of bytes)

-- what an accepted record enters
abbrev pub entered : Option SiteTerms → Ledger → Deed → Book
entered site ℓ (accept values) = record { site = Some (terms_of values); ledger = ℓ }
entered None ℓ (ask own call) = record { site = None; ledger = ℓ }
entered (Some t) ℓ (ask own call) = record { site = Some t; ledger = step ℓ (call t) }

-- a refused record enters nothing
abbrev pub turned : Verdict → Book → Result Row Fault → Book
turned (Err f) b reading = b
turned (Ok u) b (Err f) = b
turned (Ok u) b (Ok row) = entered b.site b.ledger (deed row)

abbrev pub enter : Book → List ℕ → Book
enter b bytes = turned (verdict_in b bytes) b (record_of bytes)

-- the book of a history of records
abbrev pub book_of : List (List ℕ) → Book
book_of records = fold enter blank records
