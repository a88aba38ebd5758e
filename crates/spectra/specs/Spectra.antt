-- What a spectrum owes, and the two curves.
use Rattle.std.specs.Prelude.{ℕ, ◌+◌, ◌*◌, ◌≤◌, Bool, true, cond, not, ◌&&◌, List, [], ◌∷◌, ◌++◌, length, ◌==◌, nat_le, nat_lt}
use Rattle.spectra.specs.declared.curve.Step.{Step}
use Rattle.standard.specs.declared.fault.Ground.TheVariants.{SiteCurveStep}
use Rattle.standard.specs.declared.fraction.Fraction.{Fraction}
use Rattle.standard.specs.declared.terms.Soil.{Soil}
use Rattle.standard.specs.declared.terms.Soil.TheVariants.{Hard, Medium, Soft}
use Rattle.standard.specs.Faults.{Refusal, refusal}
use Rattle.standard.specs.Fractions.{fraction}
use Rattle.standard.specs.Sites.{within}

-- what a spectrum may answer: a denominator from 1 to 4000, a numerator of at least 1, and no more than 8
abbrev pub Ordinate : Fraction → Type 0
Ordinate f = (1 ≤ f.numerator) × (f.numerator ≤ 8 * f.denominator) × (1 ≤ f.denominator) × (f.denominator ≤ 4000)

-- every period from 1 to 4000 has such an ordinate
abbrev pub SpectrumLaw : (ℕ → Fraction) → Type 0
SpectrumLaw sa = (t : ℕ) → 1 ≤ t → t ≤ 4000 → Ordinate (sa t)

-- ---- the code curve

-- the period up to which the curve is level
abbrev pub level_up_to : Soil → ℕ
level_up_to Hard = 400
level_up_to Medium = 550
level_up_to Soft = 670

-- what the falling branch is over the period
abbrev pub falling_from : Soil → ℕ
falling_from Hard = 1000
falling_from Medium = 1360
falling_from Soft = 1670

-- rising up to 100, then level at 5/2, then falling
abbrev pub code_curve : Soil → ℕ → Fraction
code_curve soil t =
    cond (nat_le t 100) (fraction (1000 + 15 * t) 1000) (cond (nat_le t (level_up_to soil)) (fraction 5 2) (fraction (falling_from soil) t))

-- ---- the site curve

-- the thousandths of the first step whose upper period is at least t; 0 where there is none
abbrev pub thousandths_at : List Step → ℕ → ℕ
thousandths_at [] t = 0
thousandths_at (s ∷ ss) t = cond (nat_le t s.upper) s.thousandths (thousandths_at ss t)

abbrev pub site_curve : List Step → ℕ → Fraction
site_curve ss t = fraction (thousandths_at ss t) 1000

-- a step is good after another one: a higher upper period, and thousandths within their range
abbrev pub is_good_after : ℕ → Step → Bool
is_good_after before s = nat_lt before s.upper && within 1 8000 s.thousandths

-- every step is good after the one before it
abbrev pub good_from : ℕ → List Step → Bool
good_from before [] = true
good_from before (s ∷ ss) = is_good_after before s && good_from s.upper ss

-- the upper period of the last step
abbrev pub last_upper : ℕ → List Step → ℕ
last_upper before [] = before
last_upper before (s ∷ ss) = last_upper s.upper ss

-- each step in its order, refused where it is not good
abbrev pub step_refusals : ℕ → ℕ → List Step → List Refusal
step_refusals place before [] = []
step_refusals place before (s ∷ ss) = refusal SiteCurveStep place (not (is_good_after before s)) ∷ step_refusals (place + 1) s.upper ss

-- the count, then the steps, then the last upper period
abbrev pub curve_refusals : List Step → List Refusal
curve_refusals ss =
    refusal SiteCurveStep 0 (not (within 1 32 (length ss)))
    ∷ (step_refusals 1 0 ss ++ (refusal SiteCurveStep (length ss) (not (last_upper 0 ss == 4000)) ∷ []))
