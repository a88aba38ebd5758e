use Rattle.std.proofs.Common.{◌≡◌, ℕ, ◌+◌, ◌-◌, ◌*◌, ◌<◌, ◌≤◌, not, ◌&&◌, eqb, ltb, List, [], ◌∷◌, length, pos, ◌-ℤ◌, Some, Err, sym, ap, lit<, lit≤}
use Rattle.standard.specs.declared.fault.Ground.TheVariants.{NoFloors, PeriodTooLong, ModalWeightShort, NoCombinedShear}
use Rattle.standard.specs.declared.terms.Soil.TheVariants.{Hard, Medium}
use Rattle.standard.specs.Faults.{refusal, fault, Verdict, verdict}
use Rattle.rounding.specs.Rounding.{nearest, nearestℤ}
use Rattle.rounding.specs.Roots.{root}
use Rattle.rounding.proofs.Roots.{only}
use Rattle.spectra.specs.Spectra.{code_curve}
use Rattle.base_shear.specs.Accelerations.{acceleration_of}
use Rattle.base_shear.specs.Samples.{office}
use Rattle.base_shear.proofs.SampleFigures.{samples, office_period, frame_period}
use Rattle.combination.specs.declared.response.Response.{Response}
use Rattle.combination.specs.Squared.{squares, squared_total}
use Rattle.formulas.specs.Buildings.{W}
use Rattle.formulas.specs.Modal.{design_shear, modal_weights, storey_values_of}
use Rattle.formulas.specs.Static.{static_shear}
use Rattle.methods.specs.ModalRuns.{modal_combined}
use Rattle.methods.specs.Outcomes.{code_shear}
use Rattle.sheet.specs.Contents.{Reading}
use Rattle.sheet.specs.Floors.{counted}
use Rattle.sheet.specs.Readings.{shown}
use Rattle.sheet.specs.Ledgers.{modal, refusals}
use Rattle.sheet.specs.Samples.{office_floors, frame, frame_floors, slow, quick}
use Rattle.sheet.proofs.samples_stand.Goals as goal

-- the base shear of the office building at the period t
abbrev base_shear_at : ℕ → ℕ
base_shear_at t = nearest ((acceleration_of office (code_curve Medium) t).numerator * (36190 + 36190 + 36190 + 27935)) (acceleration_of office (code_curve Medium) t).denominator

office_base : code_shear office (code_curve Medium) (counted office_floors) ≡ 9100
unfolding nearest acceleration_of counted
office_base = ap base_shear_at office_period

-- what is read of a storey at the base shear b
abbrev at : ℕ → ℕ → Reading
at b i = shown 4 (static_shear b office_floors) (static_shear b office_floors) i

-- ---- the two-storey building

abbrev frame_shear : ℕ → ℕ
frame_shear t = nearest ((acceleration_of frame (code_curve Hard) t).numerator * (20000 + 20000)) (acceleration_of frame (code_curve Hard) t).denominator

frame_base : code_shear frame (code_curve Hard) (counted frame_floors) ≡ 1600
unfolding nearest acceleration_of counted
frame_base = ap frame_shear frame_period

-- the nearest root by its two bounds
root_is : (r q : ℕ) → (2 * r - 1) * (2 * r - 1) ≤ 4 * q → 4 * q < (2 * r + 1) * (2 * r + 1) → root q ≡ r
root_is r q low high = sym (only r q (record { low = low; high = high }))

abbrev combined_by : (List Response → ℕ) → ℕ → ℕ
combined_by q i = modal_combined frame (code_curve Hard) q (counted frame_floors) (slow ∷ quick ∷ []) i

squares_first : combined_by squares 1 ≡ 1215
unfolding nearest nearestℤ acceleration_of counted storey_values_of
squares_first = root_is 1215 1476000 (lit≤ tt) (lit< tt)

squares_second : combined_by squares 2 ≡ 761
unfolding nearest nearestℤ acceleration_of counted storey_values_of
squares_second = root_is 761 579770 (lit≤ tt) (lit< tt)

sums_first : combined_by squared_total 1 ≡ 1296
unfolding nearest nearestℤ acceleration_of counted storey_values_of
sums_first = root_is 1296 1679616 (lit≤ tt) (lit< tt)

sums_second : combined_by squared_total 2 ≡ 886
unfolding nearest nearestℤ acceleration_of counted storey_values_of
sums_second = root_is 886 784996 (lit≤ tt) (lit< tt)

-- what is read of the two storeys at the code base shear b and the combined shears x and y
abbrev lower : ℕ → ℕ → ℕ → Reading
lower b x y = Some (x, design_shear b x x, pos (design_shear b x x) -ℤ pos (design_shear b x y))

abbrev upper : ℕ → ℕ → ℕ → Reading
upper b x y = Some (y, design_shear b x y, pos (design_shear b x y) -ℤ pos 0)

-- the verdict on the quicker mode alone, at the period t
abbrev short_at : ℕ → Verdict
short_at t =
    verdict
    (refusal NoFloors 0 (eqb (length (counted frame_floors)) 0)
    ∷ (refusal PeriodTooLong t (ltb 4000 t)
    ∷ (refusal ModalWeightShort (modal_weights (counted frame_floors) (quick ∷ [])) (ltb (10 * modal_weights (counted frame_floors) (quick ∷ [])) (9 * W (counted frame_floors)))
    ∷ (refusal NoCombinedShear 0 (eqb (modal_combined frame (code_curve Hard) squares (counted frame_floors) (quick ∷ []) 1) 0 && not (eqb (code_shear frame (code_curve Hard) (counted frame_floors)) 0)) ∷ []))))

short : verdict (refusals frame_floors (quick ∷ []) (modal frame (code_curve Hard) squares)) ≡ Err (fault ModalWeightShort 2112)
unfolding nearest nearestℤ counted
short = ap short_at frame_period

pub returns : goal.returns
unfolding nearest counted
returns c =
    record {
      standard = samples;
      office_base = office_base;
      office_1 = ap (λ (b : ℕ). at b 1) office_base;
      office_2 = ap (λ (b : ℕ). at b 2) office_base;
      office_3 = ap (λ (b : ℕ). at b 3) office_base;
      office_4 = ap (λ (b : ℕ). at b 4) office_base;
      office_5 = ap (λ (b : ℕ). at b 5) office_base;
      squares_1 = λ j. lower (frame_base j) (squares_first j) (squares_second j);
      squares_2 = λ j. upper (frame_base j) (squares_first j) (squares_second j);
      sums_1 = λ j. lower (frame_base j) (sums_first j) (sums_second j);
      sums_2 = λ j. upper (frame_base j) (sums_first j) (sums_second j);
      short = short;
    }
