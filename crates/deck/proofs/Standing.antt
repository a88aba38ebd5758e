-- Standing by a book is carried on by each record. Assumes nothing.
use Rattle.std.proofs.Common.{◌≡◌, ℕ, List, [], is_ok, is_err, Some, None, Ok, Err, Option, Result, sym, refl, ap, ◌∙◌, subst}
use Rattle.std.specs.Option.{option_map}
use Rattle.std.proofs.lemmas.List.Sums.{fold_push}
use Rattle.standard.specs.declared.fault.Fault.{Fault}
use Rattle.standard.specs.declared.site.Site.{Site}
use Rattle.standard.specs.declared.terms.SiteTerms.{SiteTerms}
use Rattle.standard.specs.Faults.{Verdict}
use Rattle.base_shear.specs.Periods.{BaseGoes}
use Rattle.records.specs.Rows.{Row, record_of}
use Rattle.sheet.specs.declared.sheet.Sheet.{Sheet}
use Rattle.sheet.specs.Faultless.{Faultless, FairLedger, Fair}
use Rattle.sheet.specs.Ledgers.{Asked, Ledger, step}
use Rattle.sheet.proofs.Standing.{carried, fair_step, faultless}
use Rattle.deck.specs.declared.desk.Desk.{Desk}
use Rattle.deck.specs.Books.{Deed, accept, ask, deed, judged, Book, verdict_in, entered, turned, enter, book_of, blank}
use Rattle.deck.specs.Desks.{site_in, CallLeft, Left, Takes, DeskStands, CarriesOn}
use Rattle.deck.proofs.FairDeeds.{FairAt, fair_deed}

-- the site that a desk holds was accepted
same_terms : (o : Option Site) (t : SiteTerms) → option_map (λ s. s.terms) o ≡ Some t → BaseGoes t.formula
same_terms None t e = absurd (cc)
same_terms (Some s) t e = let p : s.terms ≡ t = cc in subst (λ (x : SiteTerms). BaseGoes x.formula) p s.accepted

-- ---- an accepted record

called : (d d' : Desk) (o : Option SiteTerms) (ℓ : Ledger) (call : SiteTerms → Asked) → site_in d ≡ o → site_in d' ≡ site_in d → ((t : SiteTerms) → o ≡ Some t → Fair (call t)) → Faultless d.sheet ℓ → FairLedger ℓ → CallLeft o d.sheet call d'.sheet
    → DeskStands d' (entered o ℓ (ask [] call))
called d d' None ℓ call site same fair kept last left = record { site = same ∙ site; sheet = subst (λ (s : Sheet). Faultless s ℓ) (sym left) kept; fair = last }
called d d' (Some t) ℓ call site same fair kept last left =
    let f = fair_step ℓ (call t) (fair t refl) last in
    record { site = same ∙ site; sheet = faultless d'.sheet (step ℓ (call t)) (carried d.sheet d'.sheet ℓ (call t) (Ok tt) kept.stands left).1 f; fair = f }

left_to : (d d' : Desk) (b : Book) (e : Deed) → DeskStands d b → ((t : SiteTerms) → site_in d ≡ Some t → FairAt t e) → Left d d' e → DeskStands d' (entered b.site b.ledger e)
left_to d d' b (accept values) st fair left = record { site = left.0; sheet = subst (λ (s : Sheet). Faultless s b.ledger) (sym left.1) st.sheet; fair = st.fair }
left_to d d' b (ask own call) st fair left = own_is b.site (called d d' b.site b.ledger call st.site left.0 (λ t e. fair t (st.site ∙ e)) st.sheet st.fair (subst (λ (o : Option SiteTerms). CallLeft o d.sheet call d'.sheet) st.site left.1))
  where
    -- a refusal of the record's own does not change what is entered
    own_is : (o : Option SiteTerms) → DeskStands d' (entered o b.ledger (ask [] call)) → DeskStands d' (entered o b.ledger (ask own call))
    own_is None h = h
    own_is (Some t) h = h

-- ---- any record

turned_to : (d d' : Desk) (b : Book) (reading : Result Row Fault) (r v : Verdict) → DeskStands d b → Takes d reading r d' → r ≡ v → DeskStands d' (turned v b reading)
turned_to d d' b reading r (Err f) st h e = subst (λ (x : Desk). DeskStands x b) (sym (h.kept (ap is_err e))) st
turned_to d d' b (Err g) r (Ok u) st h e = subst (λ (x : Desk). DeskStands x b) (sym (h.left (ap is_ok e))) st
turned_to d d' b (Ok row) r (Ok u) st h e = left_to d d' b (deed row) st (λ t s. fair_deed t (same_terms d.site t s) row) (h.left (ap is_ok e))

pub carries_on : (d d' : Desk) (bytes : List ℕ) (r : Verdict) → Takes d (record_of bytes) r d' → CarriesOn d bytes r d'
carries_on d d' bytes r h past st =
    let b = book_of past in
    let e : r ≡ verdict_in (book_of past) bytes = h.answer ∙ (λ j. judged (st.site j) (st.sheet.stands.floors j) (st.sheet.stands.modes j) (record_of bytes)) in
    (e, subst (DeskStands d') (sym (fold_push enter blank past bytes)) (turned_to d d' b (record_of bytes) r (verdict_in b bytes) st h e))
