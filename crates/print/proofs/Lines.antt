-- One storey more on top of others.
use Rattle.std.proofs.Common.{◌≡◌, ℕ, suc, ◌+◌, List, [], ◌∷◌, ◌++◌, length, sym, ap, ◌∙◌, append-nil, append_assoc, arith}
use Rattle.print.specs.declared.storeys.Figures.{Figures}
use Rattle.print.specs.Texts.{line_text, lines_text}

pub lines_on_top : (n : ℕ) (below : List Figures) (top : Figures) → lines_text n (below ++ (top ∷ [])) ≡ line_text (n + length below + 1) top ++ lines_text n below
lines_on_top n [] top =
    let storey : suc n ≡ n + 0 + 1 = omega arith in
    ap (λ (k : ℕ). line_text k top) storey ∙ sym (append-nil (line_text (n + 0 + 1) top))
lines_on_top n (lowest ∷ above) top =
    let storey : suc n + length above + 1 ≡ n + suc (length above) + 1 = omega arith in
    ap (λ (lines : List ℕ). lines ++ line_text (suc n) lowest) (lines_on_top (suc n) above top ∙ ap (λ (k : ℕ). line_text k top ++ lines_text (suc n) above) storey)
    ∙ append_assoc (line_text (n + suc (length above) + 1) top) (lines_text (suc n) above) (line_text (suc n) lowest)
