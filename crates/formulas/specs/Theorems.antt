-- What is proved of the formulas.
use Rattle.std.specs.Prelude.{◌≡◌, ℕ, ◌*◌, ◌<◌, ◌≤◌, List, length, ℤ, pos, ◌*ℤ◌, unsigned_abs}
use Rattle.rounding.specs.Rounding.{nearest}
use Rattle.rounding.specs.Roots.{root}
use Rattle.std.specs.List.{AllByRecursion}
use Rattle.standard.specs.declared.fraction.Fraction.{Fraction}
use Rattle.base_shear.specs.Accelerations.{Acceleration}
use Rattle.combination.specs.declared.response.Response.{Response}
use Rattle.combination.specs.Values.{total, most}
use Rattle.combination.specs.Laws.{Laws}
use Rattle.formulas.specs.declared.floor.Floor.{Floor}
use Rattle.formulas.specs.Buildings.{Mode, Built, W, heaviest}
use Rattle.formulas.specs.Static.{S, static_shear, StaticNear}
use Rattle.formulas.specs.Forces.{force_of, forces_up_to}
use Rattle.formulas.specs.Modal.{L, M, modal_weight_of, modal_shear_of, storey_values_of, design_shear}
use Rattle.formulas.specs.Exact.{CombinedNear, DesignNear}

-- at the base shear b, the nearest to a × W
pub record StaticTheorems : Type 0 where
  pub near : (a : Fraction) (fs : List Floor) (i : ℕ) → 1 ≤ a.denominator → Built fs → 1 ≤ i → i ≤ length fs → StaticNear a fs i (static_shear (nearest (a.numerator * W fs) a.denominator) fs i)
  pub base : (b : ℕ) (fs : List Floor) → Built fs → 1 ≤ length fs → static_shear b fs 1 ≡ b
  pub size : (b : ℕ) (fs : List Floor) (i : ℕ) → Built fs → 1 ≤ length fs → static_shear b fs i ≤ b
  pub base_size : (a : Fraction) (fs : List Floor) → Acceleration a → W fs ≤ heaviest → nearest (a.numerator * W fs) a.denominator ≤ 720000
  pub some : (fs : List Floor) → Built fs → 1 ≤ length fs → 1 ≤ S fs

-- forces that are differences of shears add up to the shear of storey 1
pub record ForceTheorems : Type 0 where
  pub balanced : (n : ℕ) (shear : ℕ → ℕ) → 1 ≤ n → forces_up_to (force_of n shear) n ≡ pos (shear 1)

-- a mode that can be used: the acceleration at its period is one, and some floor moves
abbrev pub Usable : (ℕ → Fraction) → List Floor → List Mode → Type 0
Usable a fs ms = (length ms ≤ most) × AllByRecursion (λ m. Acceleration (a m.period) × (1 ≤ M fs m.ordinates)) ms

pub record ModalTheorems : Type 0 where
  -- Cauchy and Schwarz, with the weights
  pub product : (fs : List Floor) (φ : List ℤ) (i : ℕ) → unsigned_abs (L fs φ 1 *ℤ L fs φ i) ≤ M fs φ * W fs
  pub weight_size : (fs : List Floor) (φ : List ℤ) (i : ℕ) → 1 ≤ M fs φ → unsigned_abs (modal_weight_of fs φ i) ≤ W fs
  pub shear_size : (a : Fraction) (fs : List Floor) (φ : List ℤ) (i : ℕ) → Acceleration a → 1 ≤ M fs φ → W fs ≤ heaviest → unsigned_abs (modal_shear_of a fs φ i) ≤ 720000
  pub total_size : (a : ℕ → Fraction) (fs : List Floor) (ms : List Mode) (i : ℕ) → Usable a fs ms → W fs ≤ heaviest → total (storey_values_of a fs ms i) ≤ 6480000

pub record CombinedTheorems : Type 0 where
  -- for any rule that keeps its laws
  pub near : (q : List Response → ℕ) → Laws q → (a : ℕ → Fraction) (fs : List Floor) (ms : List Mode) (i : ℕ) → Usable a fs ms → CombinedNear q a fs ms i (root (q (storey_values_of a fs ms i)))
  pub design : (code combined c : ℕ) → (combined < code → 1 ≤ combined) → DesignNear code combined c (design_shear code combined c)
  -- the first design shear is the larger of the code base shear and the combined one
  pub base : (code combined : ℕ) → (combined < code → 1 ≤ combined) → (combined < code → design_shear code combined combined ≡ code) × (code ≤ combined → design_shear code combined combined ≡ combined)
