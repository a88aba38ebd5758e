-- The steps of a site curve: the verdict on them, and what good ones answer. Assumes nothing.
-- `accepted`, `answered`, `sought_answers` and `placed_answers` serve the proofs. The lemmas on one step of a walk (`judged_more`, `judged_bad`, `judged_good`,
-- `last_upper_more`, `judged_all`, `last_upper_all`, `ended`, `found`, `passed`) serve none now: they stand for readers, as what the definitions say step by step.
use Rattle.std.specs.Prelude.{◌≡◌, ℕ, ◌+◌, ◌<◌, ◌≤◌, Bool, true, false, cond, not, ◌&&◌, List, [], ◌∷◌, ◌++◌, length, get_or, drop, Ok, Err, ◌==◌, nat_le, nat_lt, slice_index_or, Some, Option, find, position, unwrap_or, refl}
use Rattle.std.specs.Option.{option_map}
use Rattle.std.specs.List.{position_or_len}
use Rattle.std.proofs.Common.{sym, ap, ◌∙◌, inl, inr, arith}
use Rattle.std.proofs.lemmas.List.{at_drop_more, drop_all}
use Rattle.std.proofs.lemmas.List.Folds.{find_at}
use Rattle.std.proofs.lemmas.Option.{slice_get-get_or, slice_get_past}
use Rattle.std.proofs.lemmas.Bool.{cases_lt, lt-ltb, le-ltb, cases_Bool, and_parts, leb-true, leb-false, le-leb, lt-leb, cond-true, cond-false, eqb-true}
use Rattle.std.proofs.lemmas.Bool.Decides.{nat_tests}
use Rattle.spectra.specs.declared.curve.Step.{Step}
use Rattle.standard.specs.declared.fault.Ground.TheVariants.{SiteCurveStep}
use Rattle.standard.specs.Faults.{Refusal, refusal, fault, Verdict, verdict}
use Rattle.spectra.specs.Spectra.{is_good_after, good_from, last_upper, thousandths_at, step_refusals, curve_refusals}
use Rattle.standard.specs.Sites.{within}

abbrev pub blank : Step
blank = record { upper = 0; thousandths = 0 }

-- the verdict on steps from a place on, before what is tried after them
abbrev pub judged : ℕ → ℕ → List Refusal → List Step → Verdict
judged place before after ss = verdict (step_refusals place before ss ++ after)

-- what is tried last
abbrev pub closing : List Step → List Refusal
closing ss = refusal SiteCurveStep (length ss) (not (last_upper 0 ss == 4000)) ∷ []

module _ (ss : List Step) (i place before : ℕ) (after : List Refusal) (l : i < length ss) where
  judged_more : judged place before after (drop i ss) ≡ cond (not (is_good_after before (slice_index_or ss i blank))) (Err (fault SiteCurveStep place)) (judged (place + 1) (get_or ss i blank).upper after (drop (i + 1) ss))
  judged_more = at_drop_more (judged place before after) ss i blank l

  pub judged_bad : is_good_after before (slice_index_or ss i blank) ≡ false → judged place before after (drop i ss) ≡ Err (fault SiteCurveStep place)
  judged_bad b = judged_more ∙ cond-true _ _ _ (ap not b)

  pub judged_good : is_good_after before (slice_index_or ss i blank) ≡ true → judged place before after (drop i ss) ≡ judged (place + 1) (get_or ss i blank).upper after (drop (i + 1) ss)
  judged_good b = judged_more ∙ cond-false _ _ _ (ap not b)

  pub last_upper_more : last_upper before (drop i ss) ≡ last_upper (get_or ss i blank).upper (drop (i + 1) ss)
  last_upper_more = at_drop_more (last_upper before) ss i blank l

pub judged_all : (ss : List Step) (i place before : ℕ) (after : List Refusal) → length ss ≤ i → judged place before after (drop i ss) ≡ verdict after
judged_all ss i place before after l = ap (judged place before after) (drop_all i ss l)

pub last_upper_all : (ss : List Step) (i before : ℕ) → length ss ≤ i → last_upper before (drop i ss) ≡ before
last_upper_all ss i before l = ap (last_upper before) (drop_all i ss l)

-- with a count within its range the verdict is that on the steps
pub counted : (ss : List Step) → 1 ≤ length ss → length ss ≤ 32 → verdict (curve_refusals ss) ≡ judged 1 0 (closing ss) ss
counted ss p q = cond-false (not (within 1 32 (length ss))) _ _ (grind (arith, nat_tests))

-- ---- from an accepted verdict to good steps

never : {A : Type 0} (r : Verdict) (g : ℕ) → r ≡ Ok tt → r ≡ Err (fault SiteCurveStep g) → A
never r g e f = let z : ◌≡◌ {A = ℕ} 0 1 = cc in absurd (apart z)
  where
    apart : ◌≡◌ {A = ℕ} 0 1 → ⊥
    apart z = omega arith

good : (place before : ℕ) (after : List Refusal) (ss : List Step) → judged place before after ss ≡ Ok tt → (good_from before ss ≡ true) × (verdict after ≡ Ok tt)
good place before after [] e = (refl, e)
good place before after (s ∷ ss) e =
    elim (cases_Bool (is_good_after before s)) [
      | inl b ↦
          let r = good (place + 1) s.upper after ss (sym (cond-false (not (is_good_after before s)) _ _ (ap not b)) ∙ e) in
          (ap (λ (x : Bool). x && good_from s.upper ss) b ∙ r.0, r.1)
      | inr b ↦ never _ place e (cond-true (not (is_good_after before s)) _ _ (ap not b))
    ]

pub record Accepted (ss : List Step) : Type 0 where
  pub some : 1 ≤ length ss
  pub few : length ss ≤ 32
  pub good : good_from 0 ss ≡ true
  pub whole : last_upper 0 ss ≡ 4000

pub accepted : (ss : List Step) → verdict (curve_refusals ss) ≡ Ok tt → Accepted ss
accepted ss e =
    elim (cases_Bool (within 1 32 (length ss))) [
      | inl b ↦
          let h = and_parts (nat_le 1 (length ss)) (nat_le (length ss) 32) b in
          let p = leb-true 1 (length ss) h.0 in
          let q = leb-true (length ss) 32 h.1 in
          let r = good 1 0 (closing ss) ss (sym (counted ss p q) ∙ e) in
          record { some = p; few = q; good = r.0; whole = last r.1 }
      | inr b ↦ never _ 0 e (cond-true (not (within 1 32 (length ss))) _ _ (ap not b))
    ]
  where
    last : verdict (closing ss) ≡ Ok tt → last_upper 0 ss ≡ 4000
    last e = elim (cases_Bool (last_upper 0 ss == 4000)) [ inl b ↦ eqb-true _ _ b | inr b ↦ never _ (length ss) e (cond-true (not (last_upper 0 ss == 4000)) _ _ (ap not b)) ]

-- ---- what good steps answer

pub answered : (ss : List Step) (before t : ℕ) → good_from before ss ≡ true → last_upper before ss ≡ 4000 → before < t → t ≤ 4000 → (1 ≤ thousandths_at ss t) × (thousandths_at ss t ≤ 8000)
answered [] before t g w p q = absurd (omega arith)
answered (s ∷ ss) before t g w p q =
    let h = and_parts (is_good_after before s) (good_from s.upper ss) g in
    let v = and_parts (nat_lt before s.upper) (within 1 8000 s.thousandths) h.0 in
    let r = and_parts (nat_le 1 s.thousandths) (nat_le s.thousandths 8000) v.1 in
    elim (cases_Bool (nat_le t s.upper)) [
      | inl b ↦ rw (cond-true (nat_le t s.upper) s.thousandths (thousandths_at ss t) b) (leb-true _ _ r.0, leb-true _ _ r.1)
      | inr b ↦ rw (cond-false (nat_le t s.upper) s.thousandths (thousandths_at ss t) b) (answered ss s.upper t h.1 w (leb-false _ _ b) q)
    ]

-- ---- the search for a step

module _ (ss : List Step) (i t : ℕ) (l : i < length ss) where
  pub found : t ≤ (get_or ss i blank).upper → thousandths_at (drop i ss) t ≡ (get_or ss i blank).thousandths
  found h = at_drop_more (λ (xs : List Step). thousandths_at xs t) ss i blank l ∙ cond-true _ _ _ (le-leb _ _ h)

  pub passed : (get_or ss i blank).upper < t → thousandths_at (drop i ss) t ≡ thousandths_at (drop (i + 1) ss) t
  passed h = at_drop_more (λ (xs : List Step). thousandths_at xs t) ss i blank l ∙ cond-false _ _ _ (lt-leb _ _ h)

-- a search finds the step that answers
pub sought_answers : (ss : List Step) (t : ℕ) → unwrap_or (option_map (λ s. s.thousandths) (find (λ s. nat_le t s.upper) ss)) 0 ≡ thousandths_at ss t
sought_answers [] t = refl
sought_answers (s ∷ ss) t =
    elim (cases_Bool (nat_le t s.upper)) [
      | inl b ↦ rw (cond-true (nat_le t s.upper) (Some s) (find (λ s. nat_le t s.upper) ss) b, cond-true (nat_le t s.upper) s.thousandths (thousandths_at ss t) b) refl
      | inr b ↦ rw (cond-false (nat_le t s.upper) (Some s) (find (λ s. nat_le t s.upper) ss) b, cond-false (nat_le t s.upper) s.thousandths (thousandths_at ss t) b) (sought_answers ss t)
    ]

-- the verdict, once the last step is behind
pub ended : (ss : List Step) (i place before : ℕ) → 1 ≤ length ss → length ss ≤ 32 → length ss ≤ i → last_upper before (drop i ss) ≡ last_upper 0 ss → judged place before (closing ss) (drop i ss) ≡ judged 1 0 (closing ss) ss
    → verdict (curve_refusals ss) ≡ cond (not (before == 4000)) (Err (fault SiteCurveStep (length ss))) (Ok tt)
ended ss i place before p q l u v =
    let b : last_upper 0 ss ≡ before = sym u ∙ last_upper_all ss i before l in
    counted ss p q ∙ sym v ∙ judged_all ss i place before (closing ss) l ∙ ap (λ (x : ℕ). cond {A = Verdict} (not (x == 4000)) (Err (fault SiteCurveStep (length ss))) (Ok tt)) b

-- what a step answers that is named by its place, and 0 where none is named
abbrev pub named_step : List Step → Option ℕ → ℕ
named_step ss r = unwrap_or (option_map (λ (k : ℕ). (get_or ss k blank).thousandths) r) 0

-- a search finds the place of the step that answers
pub placed_answers : (ss : List Step) (t : ℕ) → named_step ss (position (λ s. nat_le t s.upper) ss) ≡ thousandths_at ss t
placed_answers ss t =
    let p = λ (s : Step). nat_le t s.upper in
    let answer = λ (o : Option Step). unwrap_or (option_map (λ (s : Step). s.thousandths) o) 0 in
    elim (cases_lt (position_or_len p ss) (length ss)) [
      | inl l ↦ ap (named_step ss) (cond-true _ _ _ (lt-ltb _ _ l)) ∙ ap answer (sym (find_at p ss ∙ slice_get-get_or ss _ blank l)) ∙ sought_answers ss t
      | inr l ↦ ap (named_step ss) (cond-false _ _ _ (le-ltb _ _ l)) ∙ ap answer (sym (find_at p ss ∙ slice_get_past ss _ l)) ∙ sought_answers ss t
    ]
