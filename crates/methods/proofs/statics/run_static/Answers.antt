use Rattle.std.proofs.Common.{◌≡◌, ℕ, List, length, get_or, sym, refl, ap, ◌∙◌, subst, arith, rules}
use Rattle.standard.specs.declared.fraction.Fraction.{Fraction}
use Rattle.standard.specs.declared.terms.SiteTerms.{SiteTerms}
use Rattle.formulas.specs.Modal.{design_shear}
use Rattle.formulas.specs.Static.{static_shear}
use Rattle.formulas.proofs.Static.{static_base}
use Rattle.methods.specs.declared.loads.Loads.{Loads}
use Rattle.methods.specs.declared.outcome.Outcome.{Outcome}
use Rattle.methods.specs.Outcomes.{code_shear, shears_up_to, static_shears_of, Gives}
use Rattle.methods.proofs.Designs.{kept, gives, shear_there}
use Rattle.methods.proofs.LoadFacts.{built}
use Rattle.methods.proofs.statics.run_static.Goals as goal

module _ (l : Loads) (base : ℕ) where
  -- the shear of the first storey is the base shear, so that no shear is scaled
  first_is : static_shear base l.floors.now 1 ≡ base
  first_is = static_base base l.floors.now (built l.floors.now l.ranged) l.some

  module _ (s : SiteTerms) (sa : ℕ → Fraction) (base-is : base ≡ code_shear s sa l.floors.now) where
    unscaled : (i : ℕ) → design_shear base (static_shears_of s sa l.floors.now 1) (static_shears_of s sa l.floors.now i) ≡ static_shears_of s sa l.floors.now i
    unscaled i = sym (kept base (static_shears_of s sa l.floors.now 1) (static_shears_of s sa l.floors.now i) (omega (arith, first_is, ap (λ (b : ℕ). static_shear b l.floors.now 1) base-is)))

    shears_are : (xs : List ℕ) → xs ≡ shears_up_to (static_shear base l.floors.now) (length l.floors.now) → xs ≡ shears_up_to (static_shears_of s sa l.floors.now) (length l.floors.now)
    shears_are xs are = are ∙ ap (λ (b : ℕ). shears_up_to (static_shear b l.floors.now) (length l.floors.now)) base-is

    as_static : (o : Outcome) → Gives (length l.floors.now) (static_shears_of s sa l.floors.now) (λ i. design_shear base (static_shears_of s sa l.floors.now 1) (static_shears_of s sa l.floors.now i)) o → Gives (length l.floors.now) (static_shears_of s sa l.floors.now) (static_shears_of s sa l.floors.now) o
    as_static o h = subst (λ (d : ℕ → ℕ). Gives (length l.floors.now) (static_shears_of s sa l.floors.now) d o) (λ j i. unscaled i j) h

pub invariant_of-scale : goal.invariant_of-scale
invariant_of-scale g c =
    let l = c.args.loads.now in
    let base = c.in_ok-base.base.value in
    let e = ap (λ (ys : List ℕ). get_or ys 0 0) (c.as_slice-combined.ensures.value ∙ c.static_shears-shears.ensures) ∙ shear_there (static_shear base l.floors.now) (length l.floors.now) 0 l.some ∙ first_is l base in
    record { moves = λ h. omega (arith, e, h) }

pub returns : goal.returns
returns g c =
    let l = c.args.loads.now in
    let s = c.args.shaking.now.site.now.terms in
    let sa = g.C.Spectrum.ordinate c.args.shaking.now.spectrum.now in
    let o = c.outcome_of.result in
    let base = c.in_ok-base.base.value in
    let are = shears_are l base s sa c.in_ok-base.ensures.1 c.as_slice-combined.result.now (c.as_slice-combined.ensures.value ∙ c.static_shears-shears.ensures) in
    let h = gives (length l.floors.now) (static_shears_of s sa l.floors.now) base _ c.as_slice-combined.result.now o l.some are refl c.outcome_of.ensures.combined c.outcome_of.ensures.design c.outcome_of.ensures.forces in
    let stands = as_static l base s sa c.in_ok-base.ensures.1 o h in
    search rules
