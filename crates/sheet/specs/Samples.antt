-- Worked buildings, and what is read of them.
use Rattle.std.specs.Prelude.{◌≡◌, ℕ, List, [], ◌∷◌, pos, negsuc, Some, None, Err}
use Rattle.standard.specs.declared.fault.Ground.TheVariants.{ModalWeightShort}
use Rattle.standard.specs.declared.terms.Formula.TheVariants.{ConcreteFrame}
use Rattle.standard.specs.declared.terms.Importance.TheVariants.{Ordinary}
use Rattle.standard.specs.declared.terms.Plan.TheVariants.{Regular}
use Rattle.standard.specs.declared.terms.SiteTerms.{SiteTerms}
use Rattle.standard.specs.declared.terms.Soil.TheVariants.{Hard, Medium}
use Rattle.standard.specs.declared.terms.System.TheVariants.{SpecialConcreteFrame}
use Rattle.standard.specs.declared.terms.Zone.TheVariants.{III}
use Rattle.standard.specs.Faults.{fault, verdict}
use Rattle.spectra.specs.Spectra.{code_curve}
use Rattle.base_shear.specs.Samples as numbers
use Rattle.base_shear.specs.Samples.{office}
use Rattle.combination.specs.declared.response.Response.{Response}
use Rattle.combination.specs.Squared.{squares, squared_total}
use Rattle.formulas.specs.declared.floor.Floor.{Floor}
use Rattle.formulas.specs.Buildings.{Mode}
use Rattle.methods.specs.Outcomes.{code_shear}
use Rattle.sheet.specs.Contents.{Reading}
use Rattle.sheet.specs.Floors.{counted}
use Rattle.sheet.specs.Ledgers.{static, modal, refusals}
use Rattle.sheet.specs.Readings.{read_after}

abbrev pub level : ℕ → ℕ → Floor
level h w = record { height = h; weight = w }

-- ---- a four-storey office building

abbrev pub office_floors : List Floor
office_floors = level 30 36190 ∷ level 60 36190 ∷ level 90 36190 ∷ level 120 27935 ∷ []

-- what is read of a storey of it after the static method
abbrev pub office_reads : ℕ → Reading
office_reads i = read_after office_floors [] (static office (code_curve Medium)) i

-- ---- a two-storey building with two modes

-- zone III, hard soil, importance 10, special concrete frame, bare concrete frame, regular
abbrev pub frame : SiteTerms
frame = record { zone = III; soil = Hard; importance = Ordinary; system = SpecialConcreteFrame; formula = ConcreteFrame; plan = Regular }

abbrev pub frame_floors : List Floor
frame_floors = level 30 20000 ∷ level 60 20000 ∷ []

abbrev pub slow : Mode
slow = record { period = 500; ordinates = pos 618 ∷ pos 1000 ∷ [] }

abbrev pub quick : Mode
quick = record { period = 190; ordinates = pos 1000 ∷ negsuc 617 ∷ [] }

-- what is read of a storey of it after the modal method, by the rule that means q
abbrev pub frame_reads : (List Response → ℕ) → ℕ → Reading
frame_reads q i = read_after frame_floors (slow ∷ quick ∷ []) (modal frame (code_curve Hard) q) i

pub record Samples : Type 0 where
  -- periods, accelerations and a base shear
  pub standard : numbers.Samples
  -- the office building: its base shear, and combined shear, design shear and force of each storey
  pub office_base : code_shear office (code_curve Medium) (counted office_floors) ≡ 9100
  pub office_1 : office_reads 1 ≡ Some (9100, 9100, pos 345)
  pub office_2 : office_reads 2 ≡ Some (8755, 8755, pos 1382)
  pub office_3 : office_reads 3 ≡ Some (7373, 7373, pos 3108)
  pub office_4 : office_reads 4 ≡ Some (4265, 4265, pos 4265)
  pub office_5 : office_reads 5 ≡ None
  -- the two-storey building by the sum of squares and by the absolute sum
  pub squares_1 : frame_reads squares 1 ≡ Some (1215, 1600, pos 598)
  pub squares_2 : frame_reads squares 2 ≡ Some (761, 1002, pos 1002)
  pub sums_1 : frame_reads squared_total 1 ≡ Some (1296, 1600, pos 506)
  pub sums_2 : frame_reads squared_total 2 ≡ Some (886, 1094, pos 1094)
  -- with the quicker mode alone its modal weights fall short
  pub short : verdict (refusals frame_floors (quick ∷ []) (modal frame (code_curve Hard) squares)) ≡ Err (fault ModalWeightShort 2112)
