-- What a desk prints.
use Rattle.std.specs.Prelude.{ℕ, zero, suc, cond, List, [], ◌∷◌, ◌++◌, is_some}
use Rattle.print.specs.declared.storeys.Figures.{Figures}
use Rattle.print.specs.Texts.{text_of}
use Rattle.sheet.specs.declared.sheet.Sheet.{Sheet}
use Rattle.sheet.specs.Contents.{Reading, reading_of}
use Rattle.sheet.specs.Faultless.{design_in, force_in}

-- the highest storey up to m that is read as present, 0 where none is
abbrev pub highest : (ℕ → Reading) → ℕ → ℕ
highest reads zero = 0
highest reads (suc m) = cond (is_some (reads (suc m))) (suc m) (highest reads m)

-- the design shears and forces of storeys 1 to m
abbrev pub figures_up_to : (ℕ → Reading) → ℕ → List Figures
figures_up_to reads zero = []
figures_up_to reads (suc m) = figures_up_to reads m ++ (record { design = design_in (reads (suc m)); force = force_in (reads (suc m)) } ∷ [])

-- the text of readings
abbrev pub read_text : (ℕ → Reading) → List ℕ
read_text reads = text_of (figures_up_to reads (highest reads 40))

-- the text of what a sheet reads
abbrev pub sheet_text : Sheet → List ℕ
sheet_text s = read_text (reading_of s)
