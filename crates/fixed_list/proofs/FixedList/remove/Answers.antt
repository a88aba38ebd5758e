use Rattle.std.proofs.Common.{◌≡◌, ℕ, ◌+◌, ◌-◌, ◌<◌, List, ◌++◌, length, take, drop, ap, ◌∙◌, arith, rules}
use Rattle.std.proofs.lemmas.List.{length-drop, length-take-le, take-append-le, take_all}
use Rattle.std.proofs.lemmas.List.Edits.{length-paste, take-paste}
use Rattle.std.proofs.Math.Numerals.{add-one}
use Rattle.std.specs.List.{copy_within, remove}
use Rattle.fixed_list.proofs.FixedList.remove.Goals as goal

-- what the copy leaves up to the place before the last, whatever stands behind it
moved_up : {X : Type 0} (held more : List X) (n k : ℕ) → length held ≡ n → k < n → take (n - 1) (copy_within held (k + 1) n k ++ more) ≡ remove held k
moved_up held more n k e l =
    let rest = drop (k + 1) held in
    let short : length rest ≡ n - (k + 1) = omega (arith, length-drop (k + 1) held, e) in
    let same : length (copy_within held (k + 1) n k) ≡ length held = length-paste held k rest (n - (k + 1)) (omega arith) (omega arith) in
    let split : n - 1 ≡ k + (n - (k + 1)) = omega arith in
    take-append-le (n - 1) (copy_within held (k + 1) n k) more (omega arith)
    ∙ ap (λ (m : ℕ). take m (copy_within held (k + 1) n k)) split
    ∙ take-paste held k rest (n - (k + 1)) (omega arith) (omega arith)
    ∙ ap (λ (xs : List _). take k held ++ xs) (take_all (n - (k + 1)) rest (omega arith))
    ∙ ap (λ (m : ℕ). take k held ++ drop m held) (add-one k)

pub returns-clause-moved : goal.returns-clause-moved
returns-clause-moved g c = search (rules, moved_up, length-take-le)
