-- The modal shears of a storey are a list that a rule takes. Assumes nothing.
use Rattle.std.proofs.Common.{◌≡◌, ℕ, ◌≤◌, true, ltb, List, [], ◌∷◌, length, refl, arith}
use Rattle.std.specs.List.{AllByRecursion}
use Rattle.std.proofs.lemmas.List.{length-map}
use Rattle.std.proofs.lemmas.Bool.{and_parts, and_from}
use Rattle.standard.specs.declared.fraction.Fraction.{Fraction}
use Rattle.standard.specs.declared.terms.SiteTerms.{SiteTerms}
use Rattle.spectra.specs.Spectra.{SpectrumLaw}
use Rattle.base_shear.specs.Accelerations.{Acceleration, acceleration_of}
use Rattle.base_shear.proofs.Accelerations.{bounded}
use Rattle.combination.specs.Values.{falls, total, Sound}
use Rattle.formulas.specs.declared.floor.Floor.{Floor}
use Rattle.formulas.specs.Buildings.{Mode}
use Rattle.formulas.specs.Modal.{M, storey_values_of}
use Rattle.formulas.proofs.Modal.{total_size_lem}
use Rattle.methods.specs.declared.loads.Loads.{Loads}
use Rattle.methods.specs.declared.shapes.Shapes.{Shapes}
use Rattle.methods.specs.Loads.{every}
use Rattle.methods.specs.Shapes.{falls_from, mode_of, usable}
use Rattle.methods.specs.Views.{floors_in, modes_in}
use Rattle.methods.proofs.ModeFacts.{fit}
use Rattle.methods.proofs.RowFacts.{mass_some}

values_fall : (a : ℕ → Fraction) (fs : List Floor) (i above : ℕ) (ms : List Mode) → falls_from above ms ≡ true → falls (storey_values_of a fs ms i) ≡ true
unfolding storey_values_of
values_fall a fs i above [] e = refl
values_fall a fs i above (m ∷ []) e = refl
values_fall a fs i above (m ∷ (n ∷ ms)) e =
    let h = (and_parts (ltb m.period above) (falls_from m.period (n ∷ ms)) e).1 in
    and_from _ _ (and_parts (ltb n.period m.period) (falls_from n.period ms) h).0 (values_fall a fs i m.period (n ∷ ms) h)

values_count : (a : ℕ → Fraction) (fs : List Floor) (ms : List Mode) (i : ℕ) → length (storey_values_of a fs ms i) ≡ length ms
unfolding storey_values_of
values_count a fs ms i = length-map ms _

-- each mode has an acceleration, and moves some floor
all_usable : (s : SiteTerms) (sa : ℕ → Fraction) (l : Loads) → SpectrumLaw sa → (ms : List Mode) → every (usable (length l.floors.now)) ms ≡ true → AllByRecursion (λ m. Acceleration (acceleration_of s sa m.period) × (1 ≤ M l.floors.now m.ordinates)) ms
all_usable s sa l law [] e = tt
all_usable s sa l law (m ∷ ms) e =
    let h = and_parts (usable (length l.floors.now) m) (every (usable (length l.floors.now)) ms) e in
    let f = fit (length l.floors.now) m h.0 in
    ((bounded s sa m.period law f.some f.few, mass_some l m h.0), all_usable s sa l law ms h.1)

module _ (s : SiteTerms) (sa : ℕ → Fraction) (law : SpectrumLaw sa) (x : Shapes) (i : ℕ) where
  few : length (modes_in x) ≤ 9
  few = omega (arith, length-map x.rows.now (mode_of (length x.loads.floors.now)), x.few)

  pub values_small : total (storey_values_of (acceleration_of s sa) (floors_in x) (modes_in x) i) ≤ 6480000
  values_small = total_size_lem (acceleration_of s sa) (floors_in x) (modes_in x) i (few, all_usable s sa x.loads law (modes_in x) x.fit) (omega (arith, x.loads.summed, x.loads.light))

  pub values_sound : Sound (storey_values_of (acceleration_of s sa) (floors_in x) (modes_in x) i)
  values_sound = (omega (arith, values_count (acceleration_of s sa) (floors_in x) (modes_in x) i, few), values_fall (acceleration_of s sa) (floors_in x) i 4001 (modes_in x) x.falling, omega (arith, values_small))
