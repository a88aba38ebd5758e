-- The first byte that is not 0, and the refusals of unused bytes.
use Rattle.std.proofs.Common.{◌≡◌, ℕ, suc, ◌+◌, true, false, not, cond, eqb, ltb, List, [], ◌∷◌, length, sum, Some, None, Ok, Err, Option, refl, ◌∙◌, arith}
use Rattle.std.specs.List.{position, position_or_len}
use Rattle.std.proofs.lemmas.List.Sums.{sum_by-cons}
use Rattle.std.proofs.lemmas.Bool.{eq-eqb}
use Rattle.std.proofs.lemmas.Bool.Decides.{nat_tests}
use Rattle.standard.specs.declared.fault.Ground.TheVariants.{UnusedByte}
use Rattle.standard.specs.Faults.{Verdict, verdict, fault}
use Rattle.records.specs.Rows.{unused_refusals}

-- the refusal of the byte so far past place p
abbrev pub found : ℕ → Option ℕ → Verdict
found p None = Ok tt
found p (Some n) = Err (fault UnusedByte (p + n))

-- one place further, with one byte more before it
found_later : (p n l : ℕ) → found (p + 1) (cond (ltb n l) (Some n) None) ≡ found p (cond (ltb (1 + n) (suc l)) (Some (1 + n)) None)
found_later p n l = grind (arith, nat_tests)

pub first_filled : (p : ℕ) (bs : List ℕ) → verdict (unused_refusals p bs) ≡ found p (position (λ b. not (eqb b 0)) bs)
first_filled p [] = refl
first_filled p (b ∷ bs) =
    let n = position_or_len (λ a. not (eqb a 0)) bs in
    elim (eqb b 0) as (λ z. cond (not z) (Err (fault UnusedByte p)) (verdict (unused_refusals (p + 1) bs)) ≡ found p (cond (ltb (cond (not (not z)) (1 + n) 0) (length (b ∷ bs))) (Some (cond (not (not z)) (1 + n) 0)) None)) [
      | true ↦ first_filled (p + 1) bs ∙ found_later p n (length bs)
      | false ↦ grind (arith, nat_tests)
    ]

pub all_clear : (p : ℕ) (bs : List ℕ) → sum bs ≡ 0 → verdict (unused_refusals p bs) ≡ Ok tt
all_clear p [] none = refl
all_clear p (b ∷ bs) none =
    let parts : sum (b ∷ bs) ≡ b + sum bs = sum_by-cons (λ (x : ℕ). x) b bs in
    rw (eq-eqb b 0 (omega arith)) (all_clear (p + 1) bs (omega arith))
