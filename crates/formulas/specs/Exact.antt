-- Exact modal shears over a common denominator, and how near a combined shear lies to what its rule makes of them.
use Rattle.std.specs.Prelude.{◌≡◌, ℕ, ◌+◌, ◌-◌, ◌*◌, ◌<◌, ◌≤◌, List, [], ◌∷◌, ℤ, pos, ◌*ℤ◌}
use Rattle.rounding.specs.Rounding.{gap}
use Rattle.standard.specs.declared.fraction.Fraction.{Fraction}
use Rattle.combination.specs.declared.response.Response.{Response}
use Rattle.combination.specs.Values.{mode}
use Rattle.formulas.specs.declared.floor.Floor.{Floor}
use Rattle.formulas.specs.Buildings.{Mode}
use Rattle.formulas.specs.Modal.{L, M, scale_over, scale_under}

-- the exact modal shears A × L of storey 1 × L of storey i over M, times D, are the whole numbers xs
pub data Exact (D : ℕ) (a : ℕ → Fraction) (fs : List Floor) (i : ℕ) : List Mode → List Response → Type 0 where
  none : Exact D a fs i [] []
  more : (m : Mode) (x : ℤ) {ms : List Mode} {xs : List Response}
      → x *ℤ pos ((a m.period).denominator * M fs m.ordinates) ≡ pos D *ℤ (pos (a m.period).numerator *ℤ (L fs m.ordinates 1 *ℤ L fs m.ordinates i))
      → Exact D a fs i ms xs → Exact D a fs i (m ∷ ms) (mode m.period x ∷ xs)

-- a combined shear may lie so far from its exact value, in tenths
abbrev pub margin : ℕ
margin = 12

-- c lies less than the margin from the root of q at the values xs over D: q is D² times as large there
pub record Within (q : List Response → ℕ) (c D : ℕ) (xs : List Response) : Type 0 where
  pub below : q xs < (D * (c + margin)) * (D * (c + margin))
  pub above : margin < c → (D * (c - margin)) * (D * (c - margin)) < q xs

-- over every common denominator, and there is one
pub record CombinedNear (q : List Response → ℕ) (a : ℕ → Fraction) (fs : List Floor) (ms : List Mode) (i c : ℕ) : Type 0 where
  pub near : (D : ℕ) (xs : List Response) → 1 ≤ D → Exact D a fs i ms xs → Within q c D xs
  pub there : (D : ℕ) × (1 ≤ D) × ((xs : List Response) × Exact D a fs i ms xs)

-- a design shear lies at most half from the combined shear × the scale
abbrev pub DesignNear : ℕ → ℕ → ℕ → ℕ → Type 0
DesignNear code combined c d = 2 * gap (d * scale_under code combined) (c * scale_over code combined) ≤ scale_under code combined
