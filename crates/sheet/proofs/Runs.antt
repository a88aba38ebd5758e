-- What a run leaves reads as its method gives it. Assumes nothing.
use Rattle.std.proofs.Common.{◌≡◌, ℕ, ◌+◌, ◌-◌, ◌≤◌, true, cond, ◌&&◌, ltb, leb, ℤ, pos, ◌-ℤ◌, Some, None, Ok, sym, ap, ◌∙◌, subst, inl, inr, length, arith}
use Rattle.std.proofs.lemmas.Bool.{and_parts, leb-true, cases_Bool, cond-false, ltb-true, false≢true}
use Rattle.standard.specs.Faults.{verdict}
use Rattle.standard.specs.Sites.{within}
use Rattle.formulas.specs.Forces.{force_of}
use Rattle.methods.specs.declared.outcome.Outcome.{Outcome}
use Rattle.methods.specs.Outcomes.{Gives, storey_at, design_at}
use Rattle.sheet.specs.declared.sheet.Sheet.{Sheet}
use Rattle.sheet.specs.declared.table.FloorTable.{FloorTable}
use Rattle.sheet.specs.Floors.{floors_of}
use Rattle.sheet.specs.Modes.{modes_held_in}
use Rattle.sheet.specs.Answers.{Answers}
use Rattle.sheet.specs.Contents.{figures_of, floors_in, modes_in, reading_of}
use Rattle.sheet.specs.Ledgers.{Asked, refusals, floors_after, modes_after}
use Rattle.sheet.specs.Readings.{shown, read_after}
use Rattle.sheet.specs.Stages.{is_run}

module _ (n : ℕ) (c d : ℕ → ℕ) (o : Outcome) (gives : Gives n c d o) (i : ℕ) (low : 1 ≤ i) (high : i ≤ n) where
  at : i - 1 + 1 ≡ i
  at = omega arith

  combined_is : (storey_at o.storeys (i - 1)).combined ≡ c i
  combined_is = gives.combined (i - 1) (omega arith) ∙ ap c at

  design_is : design_at o.storeys i ≡ d i
  design_is = gives.design (i - 1) (omega arith) ∙ ap d at

  above_is : cond (ltb i n) (pos (design_at o.storeys (i + 1))) (pos 0) ≡ cond (ltb i n) (pos (d (i + 1))) (pos 0)
  above_is =
      elim (cases_Bool (ltb i n)) [
        | inl b ↦
            let k : i + 1 - 1 ≡ i = omega arith in
            let e : design_at o.storeys (i + 1) ≡ d (i + 1) = ap (λ (j : ℕ). (storey_at o.storeys j).design) k ∙ gives.design i (ltb-true i n b) in
            ap (λ (x : ℕ). cond (ltb i n) (pos x) (pos 0)) e
        | inr b ↦ cond-false (ltb i n) _ _ b ∙ sym (cond-false (ltb i n) _ _ b)
      ]

  force_is : (storey_at o.storeys (i - 1)).force ≡ force_of n d i
  force_is = gives.forces (i - 1) (omega arith) ∙ ap (force_of n (design_at o.storeys)) at ∙ (λ j. pos (design_is j) -ℤ above_is j)

  figures : figures_of (storey_at o.storeys (i - 1)) ≡ (c i, d i, force_of n d i)
  figures = λ j. (combined_is j, design_is j, force_is j)

shows : (n : ℕ) (c d : ℕ → ℕ) (o : Outcome) → Gives n c d o → (i : ℕ) → cond (within 1 n i) (Some (figures_of (storey_at o.storeys (i - 1)))) None ≡ shown n c d i
shows n c d o gives i =
    elim (cases_Bool (within 1 n i)) [
      | inl b ↦
          let p = and_parts (leb 1 i) (leb i n) b in
          ap (λ (x : ℕ × ℕ × ℤ). cond (within 1 n i) (Some x) None) (figures n c d o gives i (leb-true _ _ p.0) (leb-true _ _ p.1))
      | inr b ↦ cond-false (within 1 n i) _ _ b ∙ sym (cond-false (within 1 n i) _ _ b)
    ]

-- a sheet on which an outcome stands reads it
outcome_reads : (s : Sheet) (c d : ℕ → ℕ) (o : Outcome) → is_run s.stage ≡ true → s.storeys ≡ o.storeys → Gives s.table.count c d o → (i : ℕ) → reading_of s i ≡ shown s.table.count c d i
outcome_reads s c d o run e gives i =
    (λ j. cond (run j && within 1 s.table.count i) (Some (figures_of (storey_at (e j) (i - 1)))) None) ∙ shows s.table.count c d o gives i

-- an accepted run: it leaves floors and modes as they were
pub ran : (s s' : Sheet) (a : Asked) → Ok tt ≡ verdict (refusals (floors_in s) (modes_in s) a) → floors_in s' ≡ floors_after (floors_in s) a → modes_in s' ≡ modes_after (modes_in s) a
    → ((i : ℕ) → reading_of s' i ≡ read_after (floors_after (floors_in s) a) (modes_after (modes_in s) a) a i) → Answers s a (Ok tt) s'
ran s s' a v fs ms reads =
    record {
      answer = v;
      kept = λ bad. absurd (false≢true bad);
      floors = λ _. fs;
      modes = λ _. ms;
      reads = λ _. reads;
    }

-- the same, where an outcome stands on it then
pub ran_to : (s s' : Sheet) (a : Asked) (c d : ℕ → ℕ) (o : Outcome) → Ok tt ≡ verdict (refusals (floors_in s) (modes_in s) a) → floors_in s' ≡ floors_after (floors_in s) a → modes_in s' ≡ modes_after (modes_in s) a
    → is_run s'.stage ≡ true → s'.storeys ≡ o.storeys → Gives s'.table.count c d o
    → ((i : ℕ) → shown s'.table.count c d i ≡ read_after (floors_after (floors_in s) a) (modes_after (modes_in s) a) a i) → Answers s a (Ok tt) s'
ran_to s s' a c d o v fs ms run e gives shows = ran s s' a v fs ms (λ i. outcome_reads s' c d o run e gives i ∙ shows i)

-- the same, where floors and modes are the very ones that were there
pub ran_in_place : (s s' : Sheet) (a : Asked) (c d : ℕ → ℕ) (o : Outcome) → verdict (refusals (floors_in s) (modes_in s) a) ≡ Ok tt
    → s'.table ≡ s.table → s'.modes ≡ s.modes → is_run s'.stage ≡ true → s'.storeys ≡ o.storeys → Gives (length (floors_in s)) c d o
    → floors_in s ≡ floors_after (floors_in s) a → modes_in s ≡ modes_after (modes_in s) a
    → ((i : ℕ) → shown (length (floors_in s)) c d i ≡ read_after (floors_after (floors_in s) a) (modes_after (modes_in s) a) a i) → Answers s a (Ok tt) s'
ran_in_place s s' a c d o v table modes run e gives fs ms shows =
    let n : s'.table.count ≡ length (floors_in s) = ap (λ (t : FloorTable). t.count) table ∙ sym s.held in
    ran_to s s' a c d o (sym v) (ap floors_of table ∙ fs) ((λ j. modes_held_in (table j).count (modes j)) ∙ ms) run e
    (subst (λ (k : ℕ). Gives k c d o) (sym n) gives) (λ i. ap (λ (k : ℕ). shown k c d i) n ∙ shows i)
