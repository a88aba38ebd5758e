-- The modal method.
use Rattle.std.specs.Prelude.{ℕ, ◌*◌, cond, List, [], ◌∷◌, map, ℤ, pos, ◌*ℤ◌, nat_lt, unsigned_abs}
use Rattle.rounding.specs.Rounding.{nearest, nearestℤ}
use Rattle.rounding.specs.Roots.{root}
use Rattle.rounding.specs.Sums.{sum_n, first, second_n}
use Rattle.standard.specs.declared.fraction.Fraction.{Fraction}
use Rattle.combination.specs.declared.response.Response.{Response}
use Rattle.combination.specs.Values.{mode}
use Rattle.formulas.specs.declared.floor.Floor.{Floor}
use Rattle.formulas.specs.Buildings.{Mode, up_from}

-- the weight of each floor beside the ordinate of a mode there
abbrev pub paired : List Floor → List ℤ → List (ℕ × ℤ)
paired [] φ = []
paired (f ∷ fs) [] = []
paired (f ∷ fs) (y ∷ φ) = (f.weight, y) ∷ paired fs φ

-- the sum of weight × ordinate from storey i on
abbrev pub L : List Floor → List ℤ → ℕ → ℤ
L fs φ i = first (paired (up_from i fs) (up_from i φ))

-- the sum of weight × ordinate squared
abbrev pub M : List Floor → List ℤ → ℕ
M fs φ = second_n (paired fs φ)

-- the modal weight of storey i: the nearest to L of storey 1 × L of storey i over M
abbrev pub modal_weight_of : List Floor → List ℤ → ℕ → ℤ
modal_weight_of fs φ i = nearestℤ (L fs φ 1 *ℤ L fs φ i) (M fs φ)

-- the modal shear of storey i at the acceleration a: the nearest to a × the modal weight
abbrev pub modal_shear_of : Fraction → List Floor → List ℤ → ℕ → ℤ
modal_shear_of a fs φ i = nearestℤ (pos a.numerator *ℤ modal_weight_of fs φ i) a.denominator

-- the modal shears of storey i, each with its period, by the acceleration at each period: what a rule is given
unfoldable pub storey_values_of : (ℕ → Fraction) → List Floor → List Mode → ℕ → List Response
storey_values_of a fs ms i = map (λ m. mode m.period (modal_shear_of (a m.period) fs m.ordinates i)) ms

-- the combined shear of storey i, by the rule that means q
abbrev pub combined_shear_of : (List Response → ℕ) → (ℕ → Fraction) → List Floor → List Mode → ℕ → ℕ
combined_shear_of q a fs ms i = root (q (storey_values_of a fs ms i))

-- the modal weights of storey 1 over all modes
abbrev pub modal_weights : List Floor → List Mode → ℕ
modal_weights fs ms = sum_n (λ m. unsigned_abs (modal_weight_of fs m.ordinates 1)) ms

-- the scale: code base shear over combined base shear where that is the smaller, else 1
abbrev pub scale_over : ℕ → ℕ → ℕ
scale_over code combined = cond (nat_lt combined code) code 1

abbrev pub scale_under : ℕ → ℕ → ℕ
scale_under code combined = cond (nat_lt combined code) combined 1

-- the design shear of a combined shear c: the nearest to c × the scale
abbrev pub design_shear : ℕ → ℕ → ℕ → ℕ
design_shear code combined c = nearest (c * scale_over code combined) (scale_under code combined)
