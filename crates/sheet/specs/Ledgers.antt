-- The ledger: what follows from the calls alone.
use Rattle.std.specs.Prelude.{ℕ, ◌+◌, ◌-◌, Bool, not, ◌&&◌, ◌||◌, List, [], ◌∷◌, ◌++◌, length, ℤ, Some, None, Ok, Err, Option, is_some, unwrap_or, ◌==◌, nat_le, nat_lt}
use Rattle.std.specs.List.{remove}
use Rattle.standard.specs.declared.fault.Ground.TheVariants.{FloorHeight, FloorWeight, TotalWeight, TooManyFloors, NoSuchFloor, ModesEntered, OrdinateCount, ModePeriod, OrdinateRange, OrdinatesAllZero, TooManyModes, NoSuchMode}
use Rattle.standard.specs.declared.fraction.Fraction.{Fraction}
use Rattle.standard.specs.declared.terms.SiteTerms.{SiteTerms}
use Rattle.standard.specs.Faults.{Refusal, refusal, Verdict, verdict}
use Rattle.standard.specs.Sites.{within}
use Rattle.combination.specs.declared.response.Response.{Response}
use Rattle.formulas.specs.declared.floor.Floor.{Floor}
use Rattle.formulas.specs.Buildings.{Mode, W, heaviest}
use Rattle.methods.specs.Loads.{most_floors, roof_of}
use Rattle.methods.specs.ModalRuns.{modal_refusals}
use Rattle.methods.specs.Refusals.{static_refusals}
use Rattle.sheet.specs.Floors.{weight_at, grown, reweighed, counted}
use Rattle.methods.specs.Shapes.{most_modes, all_zero}
use Rattle.sheet.specs.Modes.{first_outside, not_below_last}

-- a call with what it was made with: a run with the terms of its site and the meanings of its spectrum and rule
pub data Asked : Type 0 where
  floor : ℕ → ℕ → Asked
  reweigh : ℕ → ℕ → Asked
  mode : ℕ → ℕ → List ℤ → Asked
  strike : ℕ → Asked
  static : SiteTerms → (ℕ → Fraction) → Asked
  modal : SiteTerms → (ℕ → Fraction) → (List Response → ℕ) → Asked

-- ---- what is refused, in the order in which it is tried

-- a floor of height h and weight w on top of n floors that reach up to `roof` and weigh `sum`, with m modes
abbrev pub floor_grounds : ℕ → ℕ → ℕ → ℕ → ℕ → ℕ → List Refusal
floor_grounds n roof sum m h w =
    refusal FloorHeight (n + 1) (not (within 20 2000 h) || nat_le h roof)
    ∷ (refusal FloorWeight (n + 1) (not (within 100 100000 w))
    ∷ (refusal TotalWeight (n + 1) (nat_lt heaviest (sum + w))
    ∷ (refusal TooManyFloors (most_floors + 1) (nat_le most_floors n)
    ∷ (refusal ModesEntered m (nat_lt 0 m) ∷ []))))

-- the weight w for floor i of n floors, which weighs `old` out of `sum`; a total is judged only where the floor is there
abbrev pub reweigh_grounds : ℕ → ℕ → ℕ → ℕ → ℕ → List Refusal
reweigh_grounds n sum old i w =
    refusal FloorWeight i (not (within 100 100000 w))
    ∷ (refusal TotalWeight i (within 1 n i && nat_lt heaviest (sum - old + w))
    ∷ (refusal NoSuchFloor i (not (within 1 n i)) ∷ []))

-- a mode of period p that was typed in with a count c, beside n floors and m modes, where it is not below the last,
-- its first ordinate outside the range, where there is one, is number `out`, and all are 0
abbrev pub mode_grounds : ℕ → ℕ → ℕ → ℕ → Bool → Option ℕ → Bool → List Refusal
mode_grounds n m p c notBelow out zeros =
    refusal OrdinateCount c (n == 0 || not (c == n))
    ∷ (refusal ModePeriod (m + 1) (not (within 1 4000 p) || notBelow)
    ∷ (refusal OrdinateRange (unwrap_or out 0) (is_some out)
    ∷ (refusal OrdinatesAllZero (m + 1) zeros
    ∷ (refusal TooManyModes (most_modes + 1) (nat_le most_modes m) ∷ []))))

-- the removal of mode k of m
abbrev pub strike_grounds : ℕ → ℕ → List Refusal
strike_grounds m k = refusal NoSuchMode k (not (within 1 m k)) ∷ []

abbrev pub refusals : List Floor → List Mode → Asked → List Refusal
refusals fs ms (floor h w) = floor_grounds (length fs) (roof_of fs) (W fs) (length ms) h w
refusals fs ms (reweigh i w) = reweigh_grounds (length fs) (W fs) (weight_at fs (i - 1)) i w
refusals fs ms (mode p c ys) = mode_grounds (length fs) (length ms) p c (not_below_last p ms) (first_outside ys) (all_zero ys)
refusals fs ms (strike k) = strike_grounds (length ms) k
refusals fs ms (static s sa) = static_refusals s (counted fs)
refusals fs ms (modal s sa q) = modal_refusals s sa q (counted fs) ms

-- ---- what an accepted call leaves

abbrev pub floors_after : List Floor → Asked → List Floor
floors_after fs (floor h w) = grown fs h w
floors_after fs (reweigh i w) = reweighed fs (i - 1) w
floors_after fs (mode p n ys) = fs
floors_after fs (strike k) = fs
floors_after fs (static s sa) = fs
floors_after fs (modal s sa q) = fs

abbrev pub entered : List Mode → ℕ → List ℤ → List Mode
entered ms p ys = ms ++ (record { period = p; ordinates = ys } ∷ [])

abbrev pub modes_after : List Mode → Asked → List Mode
modes_after ms (floor h w) = ms
modes_after ms (reweigh i w) = ms
modes_after ms (mode p n ys) = entered ms p ys
modes_after ms (strike k) = remove ms (k - 1)
modes_after ms (static s sa) = ms
modes_after ms (modal s sa q) = ms

-- ---- the ledger

-- floors, modes and the last call that was accepted
pub record Ledger : Type 0 where
  pub floors : List Floor
  pub modes : List Mode
  pub last : Option Asked

abbrev pub opened : Ledger
opened = record { floors = []; modes = []; last = None }

-- whether a call is refused, judged on the ledger
abbrev pub verdict_on : Ledger → Asked → Verdict
verdict_on ℓ a = verdict (refusals ℓ.floors ℓ.modes a)

-- a refused call changes nothing; an accepted one becomes the last
abbrev pub step_by : Verdict → Ledger → Asked → Ledger
step_by (Ok u) ℓ a = record { floors = floors_after ℓ.floors a; modes = modes_after ℓ.modes a; last = Some a }
step_by (Err f) ℓ a = ℓ

abbrev pub step : Ledger → Asked → Ledger
step ℓ a = step_by (verdict_on ℓ a) ℓ a
