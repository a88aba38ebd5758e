use Rattle.std.proofs.Common.{◌≡◌, ℕ, ◌*◌, ◌≤◌, Bool, true, false, cond, not, ◌&&◌, eqb, ltb, List, length, get_or, Ok, Err, sym, refl, ap, ◌∙◌, subst, arith}
use Rattle.std.proofs.lemmas.Bool.{cond-true, cond-false, ne_eqb, le-ltb}
use Rattle.standard.specs.declared.fault.Fault.{Fault}
use Rattle.standard.specs.declared.fault.Ground.TheVariants.{NoCombinedShear}
use Rattle.standard.specs.declared.fraction.Fraction.{Fraction}
use Rattle.standard.specs.declared.terms.SiteTerms.{SiteTerms}
use Rattle.standard.specs.Faults.{Verdict, verdict, fault}
use Rattle.base_shear.specs.Accelerations.{period_refusals}
use Rattle.base_shear.specs.Periods.{period_of}
use Rattle.combination.specs.declared.response.Response.{Response}
use Rattle.formulas.specs.declared.floor.Floor.{Floor}
use Rattle.formulas.specs.Buildings.{Mode, W}
use Rattle.formulas.specs.Modal.{modal_weights, design_shear}
use Rattle.methods.specs.Loads.{roof_of}
use Rattle.methods.specs.ModalRuns.{modal_combined, modal_refusals}
use Rattle.methods.specs.Outcomes.{code_shear, shears_up_to, Gives}
use Rattle.methods.specs.Views.{modes_in}
use Rattle.methods.proofs.BaseShears.{period_within}
use Rattle.methods.proofs.Designs.{gives, shear_there}
use Rattle.methods.proofs.modal.run_modal.Goals as goal

-- a refusal that is met is met whatever is tried after it
met : (b : Bool) (x rest : Verdict) (f : Fault) → cond b x (Ok tt) ≡ Err f → cond b x rest ≡ Err f
met true x rest f e = e
met false x rest f e = absurd (let z : ◌≡◌ {A = ℕ} 0 1 = cc in omega arith)

module _ (s : SiteTerms) (sa : ℕ → Fraction) (q : List Response → ℕ) (ms : List Mode) where
  too_long : (fs : List Floor) → 1 ≤ length fs → (f : Fault) → verdict (period_refusals s.formula (roof_of fs)) ≡ Err f → verdict (modal_refusals s sa q fs ms) ≡ Err f
  too_long fs some f e = cond-false _ _ _ (ne_eqb (length fs) 0 (λ e. omega arith)) ∙ met (ltb 4000 (period_of s.formula (roof_of fs))) _ _ f e

  accepted : (fs : List Floor) → 1 ≤ length fs → verdict (period_refusals s.formula (roof_of fs)) ≡ Ok tt → 9 * W fs ≤ 10 * modal_weights fs ms → (eqb (modal_combined s sa q fs ms 1) 0 && not (eqb (code_shear s sa fs) 0)) ≡ false → verdict (modal_refusals s sa q fs ms) ≡ Ok tt
  accepted fs some period enough moves =
      cond-false _ _ _ (ne_eqb (length fs) 0 (λ e. omega arith))
      ∙ cond-false _ _ _ (le-ltb 4000 _ (period_within s (roof_of fs) period))
      ∙ cond-false _ _ _ (le-ltb (10 * modal_weights fs ms) (9 * W fs) enough)
      ∙ cond-false _ _ _ moves

  no_shear : (fs : List Floor) → 1 ≤ length fs → verdict (period_refusals s.formula (roof_of fs)) ≡ Ok tt → 9 * W fs ≤ 10 * modal_weights fs ms → (eqb (modal_combined s sa q fs ms 1) 0 && not (eqb (code_shear s sa fs) 0)) ≡ true → (f : Fault) → f ≡ fault NoCombinedShear 0 → verdict (modal_refusals s sa q fs ms) ≡ Err f
  no_shear fs some period enough still f is =
      cond-false _ _ _ (ne_eqb (length fs) 0 (λ e. omega arith))
      ∙ cond-false _ _ _ (le-ltb 4000 _ (period_within s (roof_of fs) period))
      ∙ cond-false _ _ _ (le-ltb (10 * modal_weights fs ms) (9 * W fs) enough)
      ∙ cond-true _ _ _ still
      ∙ ap (λ (g : Fault). Err g) (sym is)

  -- whether the modes give no shear at the base, by combined shears xs and the code base shear code
  still_is : (fs : List Floor) → 1 ≤ length fs → (xs : List ℕ) → xs ≡ shears_up_to (modal_combined s sa q fs ms) (length fs) → (code : ℕ) → code ≡ code_shear s sa fs → (b : Bool) → b ≡ (eqb (get_or xs 0 0) 0 && not (eqb code 0)) → (eqb (modal_combined s sa q fs ms 1) 0 && not (eqb (code_shear s sa fs) 0)) ≡ b
  still_is fs some xs are code code-is b is =
      let combined = ap (λ (ys : List ℕ). get_or ys 0 0) are ∙ shear_there (modal_combined s sa q fs ms) (length fs) 0 some in
      sym (λ j. eqb (combined j) 0 && not (eqb (code-is j) 0)) ∙ sym is

pub returns-then-is_still : goal.returns-then-is_still
returns-then-is_still g c =
    let s = c.args.shaking.now.site.now.terms in
    let sa = g.C.Spectrum.ordinate c.args.shaking.now.spectrum.now in
    let q = g.R.Rule.squared c.args.rule.now in
    let ms = modes_in c.args.shapes.now in
    let l = c.args.shapes.now.loads in
    let are = c.as_slice-combined.ensures.value ∙ c.combined_shears-shears.ensures.are in
    let still = still_is s sa q ms l.floors.now l.some _ are _ c.in_ok-code.ensures.1 _ c.is_still.ensures ∙ c.if-is_still.true in
    let enough : 9 * W c.args.shapes.now.loads.floors.now ≤ 10 * modal_weights c.args.shapes.now.loads.floors.now (modes_in c.args.shapes.now) = omega (arith, c.if-weight-shapes.false, c.participating_weight-weight.ensures.is, l.summed) in
    no_shear s sa q ms l.floors.now l.some c.in_ok-code.ensures.0 enough still _ c.at-then-is_still.ensures

pub returns : goal.returns
returns g c =
    let s = c.args.shaking.now.site.now.terms in
    let sa = g.C.Spectrum.ordinate c.args.shaking.now.spectrum.now in
    let q = g.R.Rule.squared c.args.rule.now in
    let ms = modes_in c.args.shapes.now in
    let l = c.args.shapes.now.loads in
    let n = length l.floors.now in
    let xs = c.as_slice-combined.result.now in
    let are = c.as_slice-combined.ensures.value ∙ c.combined_shears-shears.ensures.are in
    let moves = still_is s sa q ms l.floors.now l.some xs are _ c.in_ok-code.ensures.1 _ c.is_still.ensures ∙ c.if-is_still.false in
    let enough : 9 * W c.args.shapes.now.loads.floors.now ≤ 10 * modal_weights c.args.shapes.now.loads.floors.now (modes_in c.args.shapes.now) = omega (arith, c.if-weight-shapes.false, c.participating_weight-weight.ensures.is, l.summed) in
    let h = gives n (modal_combined s sa q l.floors.now ms) c.in_ok-code.code.value _ xs c.outcome_of.result l.some are refl c.outcome_of.ensures.combined c.outcome_of.ensures.design c.outcome_of.ensures.forces in
    (accepted s sa q ms l.floors.now l.some c.in_ok-code.ensures.0 enough moves, subst (λ (code : ℕ). Gives (length c.args.shapes.now.loads.floors.now) (modal_combined s sa q l.floors.now ms) (λ i. design_shear code (modal_combined s sa q l.floors.now ms 1) (modal_combined s sa q l.floors.now ms i)) c.outcome_of.result) c.in_ok-code.ensures.1 h)
