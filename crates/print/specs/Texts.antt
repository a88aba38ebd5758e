-- The text of the storeys' shears and forces, and of a refusal.
use Rattle.std.specs.Prelude.{ℕ, suc, List, [], ◌∷◌, ◌++◌, codes, decimal}
use Rattle.std.specs.Fmt.{signed_decimal}
use Rattle.print.specs.declared.storeys.Figures.{Figures}

-- a storey's number, its design shear and its force
abbrev pub line_text : ℕ → Figures → List ℕ
line_text storey figures = decimal storey ++ (codes " " ++ (decimal figures.design ++ (codes " " ++ (signed_decimal figures.force ++ codes "\n"))))

-- the lines of the storeys over the lowest n, the highest of them first; the list has the lowest first
abbrev pub lines_text : ℕ → List Figures → List ℕ
lines_text n [] = []
lines_text n (lowest ∷ above) = lines_text (suc n) above ++ line_text (suc n) lowest

-- what is printed of all storeys: the base shear, which is the lowest one's, and the lines from the roof down; of no storey, that there are no forces
abbrev pub text_of : List Figures → List ℕ
text_of [] = codes "none\n"
text_of (lowest ∷ above) = codes "base " ++ (decimal lowest.design ++ (codes "\n" ++ lines_text 0 (lowest ∷ above)))

-- what is told of a refused record: its position in the deck, and the number and place of the refusal
abbrev pub refusal_text : ℕ → ℕ → ℕ → List ℕ
refusal_text position number place = codes "refused " ++ (decimal position ++ (codes " " ++ (decimal number ++ (codes " " ++ (decimal place ++ codes "\n")))))
