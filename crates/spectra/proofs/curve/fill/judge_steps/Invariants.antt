use Rattle.std.proofs.Common.{◌≡◌, ◌+◌, not, eqb, [], ◌∷◌, ◌++◌, length, drop}
use Rattle.standard.specs.declared.fault.Ground.TheVariants.{SiteCurveStep}
use Rattle.standard.specs.Faults.{verdict, refusal}
use Rattle.spectra.specs.Spectra.{step_refusals, last_upper}
use Rattle.spectra.proofs.curve.fill.judge_steps.Given as goal

-- the verdict on the steps that are left is that on all of them
abbrev pub invariant-loop-i : goal.invariant-loop-i
invariant-loop-i l =
    (last_upper l.before (drop l.i l.steps) ≡ last_upper 0 l.steps) ×
    (verdict (step_refusals (l.i + 1) l.before (drop l.i l.steps) ++ (refusal SiteCurveStep (length l.steps) (not (eqb (last_upper 0 l.steps) 4000)) ∷ []))
    ≡ verdict (step_refusals 1 0 l.steps ++ (refusal SiteCurveStep (length l.steps) (not (eqb (last_upper 0 l.steps) 4000)) ∷ [])))
