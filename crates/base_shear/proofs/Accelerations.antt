-- The laws of the acceleration. Assumes nothing.
use Rattle.std.proofs.Common.{◌≡◌, ℕ, ◌*◌, ◌<◌, ◌≤◌, true, false, ◌&&◌, leb, ◌⊎◌, ap, ◌∙◌, inl, inr, mul-le-mul, mul-le-mul_left, arith}
use Rattle.std.proofs.lemmas.Bool.{cases_Bool, cond-true, cond-false, cond_both, le-leb, lt-leb, le-ltb, and_from, and_left, and_right}
use Rattle.standard.specs.declared.fraction.Fraction.{Fraction}
use Rattle.standard.specs.declared.terms.SiteTerms.{SiteTerms}
use Rattle.standard.specs.declared.terms.Zone.{Zone}
use Rattle.standard.specs.declared.terms.Zone.TheVariants.{II, III, IV, V}
use Rattle.standard.specs.declared.terms.Importance.{Importance}
use Rattle.standard.specs.declared.terms.Importance.TheVariants.{Ordinary, Important}
use Rattle.standard.specs.declared.terms.System.{System}
use Rattle.standard.specs.declared.terms.System.TheVariants.{OrdinaryConcreteFrame, SpecialConcreteFrame, ConcentricBraces, EccentricBraces, PlainMasonry, BandedMasonry, BarredMasonry, OrdinaryWall, DuctileWall, OrdinaryWallOrdinaryFrame, OrdinaryWallSpecialFrame, DuctileWallOrdinaryFrame, DuctileWallSpecialFrame}
use Rattle.base_shear.specs.Accelerations.{reduced, least_acceleration_of, acceleration_of, Acceleration, AccelerationLaw}
use Rattle.standard.specs.Fractions.{less}
use Rattle.standard.specs.Sites.{zone_number, importance_value, reduction}
use Rattle.spectra.specs.Spectra.{Ordinate, SpectrumLaw}

zone_most : (z : Zone) → zone_number z ≤ 36
zone_most II = omega arith
zone_most III = omega arith
zone_most IV = omega arith
zone_most V = omega arith

importance_most : (i : Importance) → importance_value i ≤ 15
importance_most Ordinary = omega arith
importance_most Important = omega arith

reduction_least : (s : System) → 15 ≤ reduction s
reduction_least OrdinaryConcreteFrame = omega arith
reduction_least SpecialConcreteFrame = omega arith
reduction_least ConcentricBraces = omega arith
reduction_least EccentricBraces = omega arith
reduction_least PlainMasonry = omega arith
reduction_least BandedMasonry = omega arith
reduction_least BarredMasonry = omega arith
reduction_least OrdinaryWall = omega arith
reduction_least DuctileWall = omega arith
reduction_least OrdinaryWallOrdinaryFrame = omega arith
reduction_least OrdinaryWallSpecialFrame = omega arith
reduction_least DuctileWallOrdinaryFrame = omega arith
reduction_least DuctileWallSpecialFrame = omega arith

-- Z I n / (200 R d) is at most 36/25, since Z is at most 36, I at most R and n at most 8 d
product : (z i n r d : ℕ) → z ≤ 36 → i ≤ 15 → 15 ≤ r → n ≤ 8 * d → 25 * (z * i * n) ≤ 36 * (200 * r * d)
product z i n r d p q s h =
    let a : z * i ≤ 36 * r = mul-le-mul p (omega arith) in
    let b : z * i * n ≤ 36 * r * (8 * d) = mul-le-mul a h in
    omega arith

reduced_bounded : (s : SiteTerms) (sa : Fraction) → Ordinate sa → Acceleration (reduced s sa)
reduced_bounded s sa o = (
  (let a : 200 * 15 ≤ 200 * reduction s.system = mul-le-mul_left 200 (reduction_least s.system) in
      let b : 200 * 15 * 1 ≤ 200 * reduction s.system * sa.denominator = mul-le-mul a o.2 in
      omega arith),
  product (zone_number s.zone) (importance_value s.importance) sa.numerator (reduction s.system) sa.denominator (zone_most s.zone) (importance_most s.importance) (reduction_least s.system) o.1,
)

least_bounded : (s : SiteTerms) → Acceleration (least_acceleration_of s)
least_bounded s = (omega arith, omega (arith, zone_most s.zone))

pub bounded : (s : SiteTerms) (sa : ℕ → Fraction) (t : ℕ) → SpectrumLaw sa → 1 ≤ t → t ≤ 4000 → Acceleration (acceleration_of s sa t)
unfolding acceleration_of
bounded s sa t law p q =
    cond_both (leb t 100 && less (reduced s (sa t)) (least_acceleration_of s)) (least_acceleration_of s) (reduced s (sa t)) Acceleration
    (λ e. least_bounded s)
    (λ e. reduced_bounded s (sa t) (law t p q))

-- which of the two it is
pub chosen_least : (s : SiteTerms) (sa : ℕ → Fraction) (t : ℕ) → t ≤ 100 → less (reduced s (sa t)) (least_acceleration_of s) ≡ true → acceleration_of s sa t ≡ least_acceleration_of s
unfolding acceleration_of
chosen_least s sa t p b = cond-true _ _ _ (and_from _ _ (le-leb t 100 p) b)

pub chosen_reduced : (s : SiteTerms) (sa : ℕ → Fraction) (t : ℕ) → (100 < t) ⊎ (less (reduced s (sa t)) (least_acceleration_of s) ≡ false) → acceleration_of s sa t ≡ reduced s (sa t)
unfolding acceleration_of
chosen_reduced s sa t (inl l) = cond-false _ _ _ (and_left _ _ (lt-leb t 100 l))
chosen_reduced s sa t (inr b) = cond-false _ _ _ (and_right _ _ b)

least : (s : SiteTerms) (sa : ℕ → Fraction) (t : ℕ) → t ≤ 100 → less (acceleration_of s sa t) (least_acceleration_of s) ≡ false
least s sa t p =
    elim (cases_Bool (less (reduced s (sa t)) (least_acceleration_of s))) [
      | inl b ↦ ap (λ (a : Fraction). less a (least_acceleration_of s)) (chosen_least s sa t p b) ∙ le-ltb _ _ (omega arith)
      | inr b ↦ ap (λ (a : Fraction). less a (least_acceleration_of s)) (chosen_reduced s sa t (inr b)) ∙ b
    ]

pub acceleration_law : AccelerationLaw
acceleration_law = record { bounded = bounded; least = least }
