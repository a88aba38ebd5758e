-- A deck cut into records, one after the other. Assumes nothing.
use Rattle.std.proofs.Common.{◌≡◌, ℕ, ◌+◌, ◌*◌, ◌/◌, ◌%◌, ◌<◌, min, List, [], ◌∷◌, ◌++◌, length, take, drop, sym, ap, ◌∙◌, add-one, arith}
use Rattle.std.proofs.lemmas.List.{take_at, drop_at, take_min, drop_min, drop-drop, length-drop}
use Rattle.deck.specs.Decks.{first_records}

-- of what is left after k records, the next one comes off the front
pub one_more : (deck left bytes more : List ℕ) (k next size : ℕ) → left ≡ drop (96 * k) deck → size ≡ 96 → (left ≡ bytes ++ more) × (length bytes ≡ min size (length left)) × (0 < length left) → next ≡ k + 1
    → (first_records k deck ++ (bytes ∷ []) ≡ first_records next deck) × (more ≡ drop (96 * next) deck) × (96 * next < length deck + 96)
one_more deck left bytes more k next size so_far whole cut one =
    let long : length bytes ≡ min 96 (length left) = cut.1 ∙ ap (λ (n : ℕ). min n (length left)) whole in
    let first : bytes ≡ take 96 (drop (96 * k) deck) = sym (take_at bytes more _ long) ∙ ap (take (min 96 (length left))) (sym cut.0) ∙ take_min 96 left ∙ ap (take 96) so_far in
    let on : 96 * k + 96 ≡ 96 * next = omega arith in (
      ap (λ (b : List ℕ). first_records k deck ++ (b ∷ [])) first ∙ sym (ap (λ (n : ℕ). first_records n deck) (one ∙ add-one k)),
      sym (drop_at bytes more _ long) ∙ ap (drop (min 96 (length left))) (sym cut.0) ∙ drop_min 96 left ∙ ap (drop 96) so_far ∙ drop-drop 96 (96 * k) deck ∙ ap (λ (n : ℕ). drop n deck) on,
      omega (arith, ap length so_far, length-drop (96 * k) deck),
    )

-- where nothing is left, they are all there
pub none_left : (deck left : List ℕ) (k : ℕ) → left ≡ drop (96 * k) deck → 96 * k < length deck + 96 → length left ≡ 0 → k ≡ length deck / 96 + min 1 (length deck % 96)
none_left deck left k so_far within none = let n = ap length so_far ∙ length-drop (96 * k) deck in omega arith
