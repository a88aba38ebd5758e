use Rattle.std.proofs.Common.{◌≡◌, false, is_some, arith, Some, None, Ok, Option, sym, refl, ap, ◌∙◌}
use Rattle.std.proofs.lemmas.Bool.{false≢true}
use Rattle.standard.specs.declared.terms.SiteTerms.{SiteTerms}
use Rattle.standard.specs.declared.values.SiteValues.{SiteValues}
use Rattle.standard.specs.Faults.{verdict}
use Rattle.standard.specs.Sites.{site_refusals, values_of}
use Rattle.sheet.specs.Contents.{floors_in, modes_in}
use Rattle.deck.specs.declared.desk.Desk.{Desk}
use Rattle.deck.specs.Books.{accept, grounds}
use Rattle.deck.specs.Desks.{site_in, Does}
use Rattle.deck.specs.Terms.{terms_of}
use Rattle.deck.proofs.TermsBack.{terms_back}
use Rattle.deck.proofs.desk.Desk.take_site.Goals as goal

-- the first site that is accepted
taken : (d d' : Desk) (v : SiteValues) (t : SiteTerms) → site_in d ≡ None → verdict (site_refusals v) ≡ Ok tt → values_of t ≡ v → site_in d' ≡ Some t → d'.sheet ≡ d.sheet → Does d (accept v) (Ok tt) d'
taken d d' v t none ok is site sheet =
    record {
      answer = sym ok ∙ ap (λ (o : Option SiteTerms). verdict (grounds o (floors_in d.sheet) (modes_in d.sheet) (accept v))) (sym none);
      kept = λ bad. absurd (false≢true bad);
      left = λ _. (site ∙ ap (λ (x : SiteTerms). Some x) (sym (terms_back t) ∙ ap terms_of is), sheet);
    }

pub returns : goal.returns
returns c =
    let h = c.in_ok-site.ensures in
    taken c.args.self.now _ c.args.values.now c.in_ok-site.site.terms (let none : is_some c.args.self.now.site ≡ false = sym c.is_some.ensures ∙ c.if-is_some.false in grind arith) h.0 h.1 refl refl
