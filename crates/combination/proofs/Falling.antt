-- What was answered at each two neighbours is whether the periods fall. Assumes nothing.
use Rattle.std.proofs.Common.{◌≡◌, ℕ, zero, suc, ◌+◌, ◌<◌, Bool, true, false, ◌&&◌, List, [], ◌∷◌, length, get_or, nat_lt, sym, refl, ap, ◌∙◌, arith}
use Rattle.std.proofs.Math.Numerals.{add-one}
use Rattle.std.proofs.lemmas.Bool.Decides.{nat_tests}
use Rattle.std.specs.List.{IsAllAdjacentAnswer}
use Rattle.combination.specs.declared.response.Response.{Response}
use Rattle.combination.specs.Values.{falls}

-- whether the period at the next place is below that at place k
abbrev below : List Response → ℕ → Response → Bool
below xs k d = nat_lt (get_or xs (k + 1) d).period (get_or xs k d).period

behind : (x : Response) (xs : List Response) (k : ℕ) (d : Response) → below (x ∷ xs) (k + 1) d ≡ below xs k d
behind x xs k d = rw (add-one (k + 1), add-one k) refl

all_fall : (xs : List Response) → ((k : ℕ) (d : Response) → k + 1 < length xs → true ≡ below xs k d) → true ≡ falls xs
all_fall [] h = refl
all_fall (x ∷ []) h = refl
all_fall (x ∷ (y ∷ ys)) h =
    let here : true ≡ below (x ∷ (y ∷ ys)) 0 x = h 0 x (omega arith) in
    let rest : true ≡ falls (y ∷ ys) = all_fall (y ∷ ys) (λ k d l. h (k + 1) d (omega (arith, l)) ∙ behind x (y ∷ ys) k d) in
    grind (arith, nat_tests)

one_rises : (xs : List Response) (k : ℕ) → k + 1 < length xs → ((d : Response) → false ≡ below xs k d) → false ≡ falls xs
one_rises [] k l h = absurd (omega (arith, l))
one_rises (x ∷ []) k l h = absurd (omega (arith, l))
one_rises (x ∷ (y ∷ ys)) zero l h = ap (λ b. b && falls (y ∷ ys)) (h x)
one_rises (x ∷ (y ∷ ys)) (suc k) l h =
    let rest : false ≡ falls (y ∷ ys) = one_rises (y ∷ ys) k (omega (arith, l)) (λ d. h d ∙ ap (λ (n : ℕ). below (x ∷ (y ∷ ys)) n d) (sym (add-one k)) ∙ behind x (y ∷ ys) k d) in
    grind (arith, nat_tests)

pub falls_answered : (xs : List Response) (r : Bool) → IsAllAdjacentAnswer (λ x y b. b ≡ nat_lt y.period x.period) xs r → r ≡ falls xs
falls_answered xs true h = all_fall xs h
falls_answered xs false h = one_rises xs h.0 h.1 h.2
