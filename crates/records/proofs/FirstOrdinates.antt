-- The first elements of a list whose elements are ordinates.
use Rattle.std.proofs.Common.{◌≡◌, ℕ, zero, suc, ◌<◌, ◌≤◌, List, [], ◌∷◌, ◌++◌, length, get_or, take, ℤ, pos, refl, ◌∙◌, arith, take-suc}
use Rattle.records.specs.Ordinates.{ordinate_at, ordinates_at}

pub first_ordinates : (bs : List ℕ) (zs : List ℤ) → ((k : ℕ) → k < length zs → get_or zs k (pos 0) ≡ ordinate_at bs k) → (n : ℕ) → n ≤ length zs → take n zs ≡ ordinates_at bs n
first_ordinates bs zs each zero h = refl
first_ordinates bs zs each (suc n) h =
    let here : get_or zs n (pos 0) ≡ ordinate_at bs n = each n (omega arith) in
    let front : take n zs ≡ ordinates_at bs n = first_ordinates bs zs each n (omega arith) in
    take-suc zs n (pos 0) (omega arith) ∙ (λ i. front i ++ here i ∷ [])
