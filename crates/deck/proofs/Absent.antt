-- The storeys that a sheet reads have no gap. Assumes nothing.
use Rattle.std.proofs.Common.{◌≡◌, ℕ, zero, suc, ◌+◌, ◌<◌, Bool, true, false, cond, ◌&&◌, is_some, Some, None, refl, ap, ◌∙◌, add-zero, add-suc, arith}
use Rattle.std.proofs.lemmas.Bool.Decides.{nat_tests}
use Rattle.standard.specs.Sites.{within}
use Rattle.sheet.specs.declared.sheet.Sheet.{Sheet}
use Rattle.sheet.specs.Contents.{Reading, reading_of}
use Rattle.sheet.specs.Stages.{is_run}
use Rattle.deck.specs.Prints.{highest}

over : {A : Type 0} (run : Bool) (n i j : ℕ) (x y : A) → cond (run && within 1 n (i + 1)) (Some x) None ≡ None → i < j → is_some (cond (run && within 1 n j) (Some y) None) ≡ false
over false n i j x y e l = refl
over true n i j x y e l = grind (arith, nat_tests)

-- where storey i + 1 is absent, so is each one above i
pub absent_above : (s : Sheet) (i : ℕ) → reading_of s (i + 1) ≡ None → (j : ℕ) → i < j → is_some (reading_of s j) ≡ false
absent_above s i e j l = over (is_run s.stage) s.table.count i j _ _ e l

-- where every storey above k is absent, looking further up finds no higher one
pub stays : (reads : ℕ → Reading) (k d : ℕ) → ((j : ℕ) → k < j → is_some (reads j) ≡ false) → highest reads (k + d) ≡ highest reads k
stays reads k zero none = ap (highest reads) (add-zero k)
stays reads k (suc d) none =
    ap (highest reads) (add-suc k d) ∙ ap (λ (b : Bool). cond b (suc (k + d)) (highest reads (k + d))) (none (suc (k + d)) (omega arith)) ∙ stays reads k d none
