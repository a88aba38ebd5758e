use Rattle.std.proofs.Common.{◌≡◌, ℕ, Bool, true, false, sym, ap, ◌∙◌, inl, inr}
use Rattle.standard.specs.declared.fraction.Fraction.{Fraction}
use Rattle.standard.specs.declared.terms.SiteTerms.{SiteTerms}
use Rattle.base_shear.specs.Accelerations.{acceleration_of, reduced, least_acceleration_of}
use Rattle.standard.specs.Fractions.{less}
use Rattle.base_shear.proofs.Accelerations.{chosen_least, chosen_reduced}
use Rattle.base_shear.proofs.shaking.Shaking.acceleration.Goals as goal
use Rattle.base_shear.proofs.shaking.Shaking.acceleration.Goals.{else-period-le100-via-then-period-le100+else-is_less, else-period-le100-via-else-period-le100}

module _ (s : SiteTerms) (sa : ℕ → Fraction) (t : ℕ) where
  -- what the code compares is what the definition compares
  compared : (f g x : Fraction) (b : Bool) → f ≡ reduced s x → x ≡ sa t → g ≡ least_acceleration_of s → b ≡ less f g → less (reduced s (sa t)) (least_acceleration_of s) ≡ b
  compared f g x b e h k d = sym (λ i. less ((e ∙ ap (reduced s) h) i) (k i)) ∙ sym d

pub returns-then-is_less-clause-is : goal.returns-then-is_less-clause-is
returns-then-is_less-clause-is g c =
    let sa = g.C.Spectrum.ordinate c.args.self.now.spectrum.now in
    let t = c.args.period.value in
    let s = c.args.self.now.site.now.terms in
    let less-is = compared s sa t c.reduced_acceleration-reduced.result c.least_acceleration-least.result c.at.result true c.reduced_acceleration-reduced.ensures c.at.ensures c.least_acceleration-least.ensures c.if-is_less.ensures in
    c.least_acceleration-least.ensures ∙ sym (chosen_least s sa t c.if-period-le100.true less-is)

pub returns-else-period-le100-clause-is : goal.returns-else-period-le100-clause-is
returns-else-period-le100-clause-is g c =
    let sa = g.C.Spectrum.ordinate c.args.self.now.spectrum.now in
    let t = c.args.period.value in
    let s = c.args.self.now.site.now.terms in
    let way : acceleration_of c.args.self.now.site.now.terms (g.C.Spectrum.ordinate c.args.self.now.spectrum.now) c.args.period.value ≡ reduced c.args.self.now.site.now.terms (g.C.Spectrum.ordinate c.args.self.now.spectrum.now c.args.period.value) =
    elim c.else-period-le100.branch [
      | else-period-le100-via-then-period-le100+else-is_less w ↦ chosen_reduced s sa t (inr (compared s sa t c.reduced_acceleration-reduced.result c.least_acceleration-least.result c.at.result false c.reduced_acceleration-reduced.ensures c.at.ensures c.least_acceleration-least.ensures (sym w.if-is_less.false ∙ w.is_less.ensures)))
      | else-period-le100-via-else-period-le100 w ↦ chosen_reduced s sa t (inl w.if-period-le100.false)
    ]
    in
    c.reduced_acceleration-reduced.ensures ∙ ap (reduced s) c.at.ensures ∙ sym way
