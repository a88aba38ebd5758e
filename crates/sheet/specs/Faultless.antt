-- The promise: what a sheet shows after a list of calls, judged by a ledger that was fed the calls alone.
use Rattle.std.specs.Prelude.{◌≡◌, ℕ, ◌<◌, ◌≤◌, List, length, ℤ, pos, Some, None, Ok, Option}
use Rattle.standard.specs.declared.fraction.Fraction.{Fraction}
use Rattle.standard.specs.Faults.{verdict}
use Rattle.spectra.specs.Spectra.{SpectrumLaw}
use Rattle.base_shear.specs.Accelerations.{acceleration_at, acceleration_of}
use Rattle.base_shear.specs.Periods.{BaseGoes}
use Rattle.combination.specs.declared.response.Response.{Response}
use Rattle.combination.specs.Laws.{Laws}
use Rattle.formulas.specs.declared.floor.Floor.{Floor}
use Rattle.formulas.specs.Buildings.{Mode}
use Rattle.formulas.specs.Exact.{CombinedNear, DesignNear}
use Rattle.formulas.specs.Forces.{forces_up_to}
use Rattle.formulas.specs.Static.{StaticNear}
use Rattle.methods.specs.Loads.{roof_of}
use Rattle.methods.specs.ModalRuns.{modal_combined, modal_design}
use Rattle.methods.specs.Outcomes.{code_shear}
use Rattle.sheet.specs.declared.sheet.Sheet.{Sheet}
use Rattle.sheet.specs.Answers.{Stands}
use Rattle.sheet.specs.Contents.{Reading, reading_of}
use Rattle.sheet.specs.Floors.{counted}
use Rattle.sheet.specs.Ledgers.{Asked, floor, reweigh, mode, strike, static, modal, Ledger, refusals}

-- the shears and the force of a reading, 0 where there is none
abbrev pub combined_in : Reading → ℕ
combined_in None = 0
combined_in (Some x) = x.0

abbrev pub design_in : Reading → ℕ
design_in None = 0
design_in (Some x) = x.1

abbrev pub force_in : Reading → ℤ
force_in None = pos 0
force_in (Some x) = x.2

-- the forces that the sheet reads of storeys 1 to n add up to the base shear b
abbrev pub AddUp : Sheet → ℕ → ℕ → Type 0
AddUp s n b = forces_up_to (λ i. force_in (reading_of s i)) n ≡ pos b

-- every shear that the sheet reads lies less than one tenth from its exact value
abbrev pub ShearsNear : Sheet → Fraction → List Floor → Type 0
ShearsNear s a fs = (i : ℕ) → 1 ≤ i → i ≤ length fs → StaticNear a fs i (design_in (reading_of s i))

-- every combined shear that the sheet reads lies less than 12 tenths from what the rule makes of the exact modal shears, over every common denominator of these
abbrev pub CombinedShearsNear : Sheet → (List Response → ℕ) → (ℕ → Fraction) → List Floor → List Mode → Type 0
CombinedShearsNear s q a fs ms = (i : ℕ) → 1 ≤ i → i ≤ length fs → CombinedNear q a fs ms i (combined_in (reading_of s i))

-- every design shear that the sheet reads lies at most half a tenth from the combined one × the scale
abbrev pub DesignShearsNear : Sheet → ℕ → ℕ → ℕ → Type 0
DesignShearsNear s n code combined = (i : ℕ) → 1 ≤ i → i ≤ n → DesignNear code combined (combined_in (reading_of s i)) (design_in (reading_of s i))

-- the design base shear d: the code base shear where the combined base shear is the smaller, else that
abbrev pub LargerOf : ℕ → ℕ → ℕ → Type 0
LargerOf code combined d = (combined < code → d ≡ code) × (code ≤ combined → d ≡ combined)

-- what is promised after the last call that was accepted: after a run sums and distances
abbrev pub KeptAfter : Sheet → List Floor → List Mode → Option Asked → Type 0
KeptAfter s fs ms None = Unit {0}
KeptAfter s fs ms (Some (floor h w)) = Unit {0}
KeptAfter s fs ms (Some (reweigh k w)) = Unit {0}
KeptAfter s fs ms (Some (mode p n ys)) = Unit {0}
KeptAfter s fs ms (Some (strike k)) = Unit {0}
KeptAfter s fs ms (Some (static t sa)) =
    AddUp s (length fs) (code_shear t sa (counted fs)) × ShearsNear s (acceleration_at t sa (roof_of (counted fs))) (counted fs)
KeptAfter s fs ms (Some (modal t sa q)) =
    AddUp s (length fs) (modal_design t sa q (counted fs) ms 1)
    × LargerOf (code_shear t sa (counted fs)) (modal_combined t sa q (counted fs) ms 1) (modal_design t sa q (counted fs) ms 1)
    × CombinedShearsNear s q (acceleration_of t sa) (counted fs) ms
    × DesignShearsNear s (length fs) (code_shear t sa (counted fs)) (modal_combined t sa q (counted fs) ms 1)

-- the sheet holds and reads what the ledger says, its forces add up and its shears lie near
pub record Faultless (s : Sheet) (ℓ : Ledger) : Type 0 where
  pub stands : Stands s ℓ
  pub kept : KeptAfter s ℓ.floors ℓ.modes ℓ.last

-- a call that was made with a lawful spectrum, an accepted site and a lawful rule
abbrev pub Fair : Asked → Type 0
Fair (floor h w) = Unit {0}
Fair (reweigh k w) = Unit {0}
Fair (mode p n ys) = Unit {0}
Fair (strike k) = Unit {0}
Fair (static t sa) = SpectrumLaw sa × BaseGoes t.formula
Fair (modal t sa q) = SpectrumLaw sa × BaseGoes t.formula × Laws q

-- where the last call is a run, it was fair, and on these floors and modes nothing refuses it
abbrev pub LastFair : List Floor → List Mode → Option Asked → Type 0
LastFair fs ms None = Unit {0}
LastFair fs ms (Some (floor h w)) = Unit {0}
LastFair fs ms (Some (reweigh k w)) = Unit {0}
LastFair fs ms (Some (mode p n ys)) = Unit {0}
LastFair fs ms (Some (strike k)) = Unit {0}
LastFair fs ms (Some (static t sa)) = Fair (static t sa) × (verdict (refusals fs ms (static t sa)) ≡ Ok tt)
LastFair fs ms (Some (modal t sa q)) = Fair (modal t sa q) × (verdict (refusals fs ms (modal t sa q)) ≡ Ok tt)

abbrev pub FairLedger : Ledger → Type 0
FairLedger ℓ = LastFair ℓ.floors ℓ.modes ℓ.last
