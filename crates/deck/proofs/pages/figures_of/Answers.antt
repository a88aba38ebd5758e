use Rattle.std.proofs.Common.{◌≡◌, ℕ, ◌+◌, ◌-◌, ◌<◌, ◌≤◌, suc, false, cond, List, [], ◌∷◌, ◌++◌, ℤ, is_some, rules, ap, sym, subst, ◌∙◌, None, Some, add-one, arith, w64, SFits}
use Rattle.std.proofs.lemmas.Int.{to_z-of_z}
use Rattle.print.specs.declared.storeys.Figures.{Figures}
use Rattle.sheet.specs.Contents.{Reading, reading_of}
use Rattle.sheet.specs.Faultless.{design_in, force_in}
use Rattle.deck.specs.Prints.{highest, figures_up_to}
use Rattle.deck.proofs.Absent.{absent_above, stays}
use Rattle.deck.proofs.pages.figures_of.Goals as goal

-- where storeys up to k are listed and none above is present, all are
listed : (reads : ℕ → Reading) (k : ℕ) (xs : List Figures) → k ≤ 40 → xs ≡ figures_up_to reads k → highest reads k ≡ k → ((j : ℕ) → k < j → is_some (reads j) ≡ false) → xs ≡ figures_up_to reads (highest reads 40)
listed reads k xs few taken all none =
    let up : k + (40 - k) ≡ 40 = omega arith in
    taken ∙ ap (figures_up_to reads) (sym all ∙ sym (stays reads k (40 - k) none) ∙ ap (highest reads) up)

-- one storey more
module _ (reads : ℕ → Reading) (k : ℕ) (r : ℕ × ℕ × ℤ) (there : reads (k + 1) ≡ Some r) where
  is : reads (suc k) ≡ Some r
  is = ap reads (sym (add-one k)) ∙ there

  list_grows : (xs : List Figures) (f : ℤ) → f ≡ r.2 → xs ≡ figures_up_to reads k → xs ++ (record { design = r.1; force = f } ∷ []) ≡ figures_up_to reads (k + 1)
  list_grows xs f same taken =
      (λ j. taken j ++ (record { design = r.1; force = same j } ∷ [])) ∙ (λ j. figures_up_to reads k ++ (record { design = design_in (sym is j); force = force_in (sym is j) } ∷ [])) ∙
      sym (ap (figures_up_to reads) (add-one k))

  highest_grows : highest reads (k + 1) ≡ k + 1
  highest_grows = ap (highest reads) (add-one k) ∙ ap (λ (o : Reading). cond (is_some o) (suc k) (highest reads k)) is ∙ sym (add-one k)

pub returns-in_default : goal.returns-in_default
returns-in_default c =
    let reads = reading_of c.args.sheet.now in
    let k = c.loop-storey.storey - 1 in
    let up : k + 1 ≡ c.loop-storey.storey = omega (arith, c.loop-storey.invariant.counted) in
    let gone : c.reading.result ≡ None = search rules in
    listed reads k c.loop-storey.figures.items (omega (arith, c.loop-storey.invariant.counted)) c.loop-storey.invariant.taken c.loop-storey.invariant.all
    (absent_above c.args.sheet.now k (ap reads up ∙ sym c.reading.ensures ∙ gone))

pub loop-storey-preserved : goal.loop-storey-preserved
loop-storey-preserved c =
    let reads = reading_of c.args.sheet.now in
    let k = c.loop-storey.storey - 1 in
    let up : k + 1 ≡ c.loop-storey.storey = omega (arith, c.loop-storey.invariant.counted) in
    let next : k + 1 ≡ c.loop-storey.storey + 1 - 1 = omega (arith, up) in
    let there : reads (k + 1) ≡ Some (c.in-Some.field-0-0, c.in-Some.design, c.in-Some.force) = ap reads up ∙ sym c.reading.ensures ∙ c.in-Some.is in
    let f : SFits w64 c.in-Some.force = search rules in
    record {
      counted = search rules;
      taken = c.push.ensures.items ∙ list_grows reads k _ there c.loop-storey.figures.items _ (to_z-of_z w64 c.in-Some.force f) c.loop-storey.invariant.taken ∙ ap (figures_up_to reads) next;
      all = subst (λ (n : ℕ). highest reads n ≡ n) next (highest_grows reads k _ there);
    }

pub returns : goal.returns
returns c =
    let k : c.loop-storey.storey - 1 ≡ 40 = omega (arith, c.loop-storey.invariant.counted) in
    c.loop-storey.invariant.taken ∙ ap (figures_up_to (reading_of c.args.sheet.now)) (sym c.loop-storey.invariant.all ∙ ap (highest (reading_of c.args.sheet.now)) k)
