use Rattle.std.proofs.Common.{◌≡◌, ℕ, zero, suc, List, [], ◌∷◌, ◌++◌, length, set, fold, sym, refl, ap, ◌∙◌, subst, add-one, rules}
use Rattle.std.proofs.lemmas.List.{length_push, set_past}
use Rattle.std.specs.Iterator.Adapters.{enumerate_count}
use Rattle.standard.specs.Faults.{Verdict}
use Rattle.deck.specs.Books.{Book, book_of, verdict_in, enter, blank}
use Rattle.deck.specs.Decks.{first_records, verdicts_from, verdicts_of, overlaid}
use Rattle.deck.specs.Desks.{DeskStands}
use Rattle.deck.proofs.Cuts.{one_more, none_left}
use Rattle.deck.proofs.whole.answer_deck.Goals as goal

-- the answer to one record more
verdicts_push : (b : Book) (records : List (List ℕ)) (bytes : List ℕ) → verdicts_from b (records ++ (bytes ∷ [])) ≡ verdicts_from b records ++ (verdict_in (fold enter b records) bytes ∷ [])
verdicts_push b [] bytes = refl
verdicts_push b (r ∷ records) bytes = ap (λ (vs : List Verdict). verdict_in b r ∷ vs) (verdicts_push (enter b r) records bytes)

-- as many answers as records
verdicts_length : (b : Book) (records : List (List ℕ)) → length (verdicts_from b records) ≡ length records
verdicts_length b [] = refl
verdicts_length b (r ∷ records) = ap suc (verdicts_length (enter b r) records)

records_length : (n : ℕ) (bytes : List ℕ) → length (first_records n bytes) ≡ n
records_length zero bytes = refl
records_length (suc n) bytes = length_push (first_records n bytes) _ ∙ add-one _ ∙ ap suc (records_length n bytes)

-- one element more, where there is room for it
overlaid_push : {A : Type 0} (xs ys : List A) (x : A) → overlaid (xs ++ (x ∷ [])) ys ≡ set (overlaid xs ys) (length xs) x
overlaid_push [] [] x = refl
overlaid_push [] (y ∷ ys) x = refl
overlaid_push (w ∷ xs) [] x = refl
overlaid_push (w ∷ xs) (y ∷ ys) x = ap (λ zs. w ∷ zs) (overlaid_push xs ys x)

-- the answers after one record more
answers_push : (records more : List (List ℕ)) (bytes : List ℕ) (i : ℕ) (r : Verdict) (answers before : List Verdict) → records ++ (bytes ∷ []) ≡ more → length records ≡ i → r ≡ verdict_in (book_of records) bytes → answers ≡ overlaid (verdicts_of records) before
    → set answers i r ≡ overlaid (verdicts_of more) before
answers_push records more bytes i r answers before grown counted is held =
    (λ j. set (held j) ((sym counted ∙ sym (verdicts_length blank records)) j) (is j)) ∙ sym (overlaid_push (verdicts_of records) before (verdict_in (book_of records) bytes)) ∙
    ap (λ (vs : List Verdict). overlaid vs before) (sym (verdicts_push blank records bytes) ∙ ap verdicts_of grown)

pub loop-i-preserved-then-i-answers : goal.loop-i-preserved-then-i-answers
loop-i-preserved-then-i-answers c =
    let z = c.loop-i.invariant in
    let s = c.in-Some.ensures.steps in
    let cut = one_more c.args.deck.now _ c.in-Some.record.now _ _ (enumerate_count c.next.new.self) _ z.left z.size s.0.1 s.2 in
    let said = c.take-answer.ensures.carries (first_records (enumerate_count c.loop-i.i-iterator) c.args.deck.now) z.desk in
    record {
      goes = search rules;
      ends = search rules;
      size = s.0.0 ∙ z.size;
      left = cut.1;
      within = cut.2;
      desk = subst (λ (rs : List (List ℕ)). DeskStands c.take-answer.new.self (book_of rs)) cut.0 said.1;
      answered = answers_push _ _ _ c.in-Some.i _ _ _ cut.0 (records_length _ c.args.deck.now ∙ sym s.1) said.0 z.answered;
    }

pub loop-i-preserved : goal.loop-i-preserved
loop-i-preserved c =
    let z = c.loop-i.invariant in
    let s = c.in-Some.ensures.steps in
    let cut = one_more c.args.deck.now _ c.in-Some.record.now _ _ (enumerate_count c.next.new.self) _ z.left z.size s.0.1 s.2 in
    let said = c.take-answer.ensures.carries (first_records (enumerate_count c.loop-i.i-iterator) c.args.deck.now) z.desk in
    record {
      goes = search rules;
      ends = search rules;
      size = s.0.0 ∙ z.size;
      left = cut.1;
      within = cut.2;
      desk = subst (λ (rs : List (List ℕ)). DeskStands c.take-answer.new.self (book_of rs)) cut.0 said.1;
      answered = sym (set_past c.loop-i.answers c.in-Some.i c.take-answer.result c.if-i-answers.false) ∙ answers_push _ _ _ c.in-Some.i _ _ _ cut.0 (records_length _ c.args.deck.now ∙ sym s.1) said.0 z.answered;
    }

pub returns : goal.returns
returns c =
    let z = c.loop-i.invariant in
    let k = none_left c.args.deck.now _ _ z.left z.within c.in-None.ensures.steps.0.1.0 in
    record {
      desk = subst (λ (n : ℕ). DeskStands c.loop-i.desk (book_of (first_records n c.args.deck.now))) k z.desk;
      answered = subst (λ (n : ℕ). c.loop-i.answers ≡ overlaid (verdicts_of (first_records n c.args.deck.now)) c.args.answers.now) k z.answered;
    }
