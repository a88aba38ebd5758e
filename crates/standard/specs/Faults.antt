-- Refusals: their numbers and layers, and how a verdict is found among several.
use Rattle.std.specs.Prelude.{◌≡◌, ℕ, Bool, true, false, cond, List, [], ◌∷◌, Ok, Err, Result}
use Rattle.std.specs.List.{AllByRecursion}
use Rattle.standard.specs.declared.fault.Fault.{Fault}
use Rattle.standard.specs.declared.fault.Ground.{Ground}
use Rattle.standard.specs.declared.fault.Ground.TheVariants.{ShortRecord, UnknownLetter, UnusedByte, SiteOrder, SiteValue, FloorHeight, FloorWeight, TotalWeight, TooManyFloors, NoSuchFloor, ModesEntered, OrdinateCount, ModePeriod, OrdinateRange, OrdinatesAllZero, TooManyModes, NoSuchMode, SiteCurveStep, NoFloors, PeriodTooLong, TooHighForStatic, ModalWeightShort, NoCombinedShear, NoSuchRule, PrintBuffer}
use Rattle.standard.specs.declared.fault.Layer.{Layer}
use Rattle.standard.specs.declared.fault.Layer.TheVariants.{Record, Sheet, Method}

-- the number of each ground
abbrev pub number_of : Ground → ℕ
number_of ShortRecord = 1
number_of UnknownLetter = 2
number_of UnusedByte = 3
number_of SiteOrder = 4
number_of SiteValue = 5
number_of FloorHeight = 6
number_of FloorWeight = 7
number_of TotalWeight = 8
number_of TooManyFloors = 9
number_of NoSuchFloor = 10
number_of ModesEntered = 11
number_of OrdinateCount = 12
number_of ModePeriod = 13
number_of OrdinateRange = 14
number_of OrdinatesAllZero = 15
number_of TooManyModes = 16
number_of NoSuchMode = 17
number_of SiteCurveStep = 18
number_of NoFloors = 19
number_of PeriodTooLong = 20
number_of TooHighForStatic = 21
number_of ModalWeightShort = 22
number_of NoCombinedShear = 23
number_of NoSuchRule = 24
number_of PrintBuffer = 25

-- the layer that gives it
abbrev pub layer_of : Ground → Layer
layer_of ShortRecord = Record
layer_of UnknownLetter = Record
layer_of UnusedByte = Record
layer_of SiteOrder = Record
layer_of SiteValue = Record
layer_of FloorHeight = Sheet
layer_of FloorWeight = Sheet
layer_of TotalWeight = Sheet
layer_of TooManyFloors = Sheet
layer_of NoSuchFloor = Sheet
layer_of ModesEntered = Sheet
layer_of OrdinateCount = Sheet
layer_of ModePeriod = Sheet
layer_of OrdinateRange = Sheet
layer_of OrdinatesAllZero = Sheet
layer_of TooManyModes = Sheet
layer_of NoSuchMode = Sheet
layer_of SiteCurveStep = Method
layer_of NoFloors = Method
layer_of PeriodTooLong = Method
layer_of TooHighForStatic = Method
layer_of ModalWeightShort = Method
layer_of NoCombinedShear = Method
layer_of NoSuchRule = Record
layer_of PrintBuffer = Record

abbrev pub fault : (ground : Ground) (place : ℕ) → Fault
fault g p = record { ground = g; place = p }

-- a refusal that a call may meet: its ground and place, and whether its condition holds
pub data Refusal : Type 0 where
  refusal : Ground → ℕ → Bool → Refusal

abbrev pub holds : Refusal → Bool
holds (refusal g p b) = b

-- accepted, or refused with a fault
abbrev pub Verdict : Type 0
Verdict = Result (Unit {0}) Fault

-- of the refusals in the order in which they are tried, the first whose condition holds
abbrev pub verdict : List Refusal → Verdict
verdict [] = Ok tt
verdict (refusal g p b ∷ rs) = cond b (Err (fault g p)) (verdict rs)

-- f is given by a refusal whose condition holds, while no earlier one's does
pub data First : List Refusal → Fault → Type 0 where
  here : (g : Ground) (p : ℕ) {rs : List Refusal} → First (refusal g p true ∷ rs) (fault g p)
  later : (g : Ground) (p : ℕ) {f : Fault} {rs : List Refusal} → First rs f → First (refusal g p false ∷ rs) f

-- a call is refused with a fault exactly when that fault's condition is the first to hold, and accepted exactly when none holds
pub record VerdictLaw : Type 0 where
  pub refused : (rs : List Refusal) (f : Fault) → verdict rs ≡ Err f → First rs f
  pub first : (rs : List Refusal) (f : Fault) → First rs f → verdict rs ≡ Err f
  pub accepted : (rs : List Refusal) → verdict rs ≡ Ok tt → AllByRecursion (λ r. holds r ≡ false) rs
  pub none : (rs : List Refusal) → AllByRecursion (λ r. holds r ≡ false) rs → verdict rs ≡ Ok tt
