-- Standing by a ledger is carried on by each call, and what follows of sums and distances. Assumes nothing.
use Rattle.std.proofs.Common.{◌≡◌, ℕ, zero, suc, ◌-◌, ◌<◌, ◌≤◌, true, false, not, ◌&&◌, eqb, leb, List, [], ◌∷◌, length, get_or, ℤ, pos, ◌+ℤ◌, is_ok, is_err, Some, None, Ok, Err, Option, sym, refl, ap, ◌∙◌, subst, arith}
use Rattle.std.specs.List.{AllByRecursion}
use Rattle.std.proofs.lemmas.List.{length-map}
use Rattle.std.proofs.lemmas.Bool.{cond-true, cond-false, and_from, and_parts, le-leb, eqb-false}
use Rattle.std.proofs.lemmas.Bool.Decides.{nat_tests}
use Rattle.standard.specs.declared.fraction.Fraction.{Fraction}
use Rattle.standard.specs.declared.terms.SiteTerms.{SiteTerms}
use Rattle.standard.specs.Faults.{Verdict, verdict}
use Rattle.standard.specs.Sites.{within}
use Rattle.standard.proofs.Verdicts.{verdict_law}
use Rattle.spectra.specs.Spectra.{SpectrumLaw}
use Rattle.base_shear.specs.Accelerations.{acceleration_at, acceleration_of, Acceleration}
use Rattle.base_shear.specs.Periods.{BaseGoes}
use Rattle.base_shear.proofs.Accelerations.{bounded as Bounded-at}
use Rattle.combination.specs.declared.response.Response.{Response}
use Rattle.combination.specs.Laws.{Laws}
use Rattle.fixed_list.specs.Items.{items_of, items_fit}
use Rattle.formulas.specs.declared.floor.Floor.{Floor}
use Rattle.formulas.specs.Buildings.{Mode}
use Rattle.formulas.specs.Exact.{CombinedNear, DesignNear}
use Rattle.formulas.specs.Forces.{force_of, forces_up_to}
use Rattle.formulas.specs.Modal.{M}
use Rattle.formulas.specs.Static.{StaticNear}
use Rattle.formulas.specs.Theorems.{Usable}
use Rattle.formulas.proofs.Combined.{combined_near}
use Rattle.formulas.proofs.Design.{design_near, design_raised, design_kept}
use Rattle.formulas.proofs.Forces.{forces_balanced}
use Rattle.formulas.proofs.Static.{static_base, static_near}
use Rattle.methods.specs.Loads.{every, in_range, nothing, roof_of}
use Rattle.methods.specs.Outcomes.{code_shear, static_shears_of}
use Rattle.methods.specs.ModalRuns.{modal_combined, modal_design, modal_refusals}
use Rattle.methods.specs.Refusals.{static_refusals}
use Rattle.methods.specs.Shapes.{mode_of, usable}
use Rattle.methods.proofs.BaseShears.{acceleration_within}
use Rattle.methods.proofs.Lists.{every_at}
use Rattle.methods.proofs.LoadFacts.{ranged}
use Rattle.methods.proofs.ModeFacts.{fit}
use Rattle.sheet.specs.declared.call.Call.{Call}
use Rattle.sheet.specs.declared.call.Call.TheVariants.{Floor as FloorCall, Reweigh, Mode as ModeCall, Strike, Static, Modal}
use Rattle.sheet.specs.declared.sheet.Sheet.{Sheet}
use Rattle.sheet.specs.Answers.{Answers, Stands}
use Rattle.sheet.specs.Carried.{Carried}
use Rattle.sheet.specs.Contents.{Reading, floors_in, modes_in, reading_of}
use Rattle.sheet.specs.Faultless.{combined_in, design_in, force_in, AddUp, ShearsNear, KeptAfter, Faultless, Fair, LastFair, FairLedger}
use Rattle.sheet.specs.Floors.{counted}
use Rattle.sheet.specs.Histories.{asked}
use Rattle.sheet.specs.Ledgers.{Asked, floor, reweigh, mode, strike, static, modal, Ledger, refusals, floors_after, modes_after, verdict_on, step_by, step}
use Rattle.sheet.specs.Readings.{shown, read_after, expected_by}
use Rattle.sheet.proofs.Counted.{counted_length, counted_roof, counted_built, counted_moves}

-- ---- standing is carried on

carried_by : (s s' : Sheet) (ℓ : Ledger) (a : Asked) (r v : Verdict) → Stands s ℓ → Answers s a r s' → r ≡ v → Stands s' (step_by v ℓ a)
carried_by s s' ℓ a r (Ok u) st h e =
    let ok = ap is_ok e in
    record {
      floors = h.floors ok ∙ ap (λ (fs : List Floor). floors_after fs a) st.floors;
      modes = h.modes ok ∙ ap (λ (ms : List Mode). modes_after ms a) st.modes;
      reads = λ i. h.reads ok i ∙ (λ j. read_after (floors_after (st.floors j) a) (modes_after (st.modes j) a) a i);
    }
carried_by s s' ℓ a r (Err f) st h e = subst (λ (x : Sheet). Stands x ℓ) (sym (h.kept (ap is_err e))) st

pub carried : Carried
carried s s' ℓ a r st h =
    let e = h.answer ∙ (λ j. verdict (refusals (st.floors j) (st.modes j) a)) in
    (e, carried_by s s' ℓ a r (verdict_on ℓ a) st h e)

-- ---- what the last call was made with

fair_by : (ℓ : Ledger) (a : Asked) (v : Verdict) → Fair a → FairLedger ℓ → verdict_on ℓ a ≡ v → FairLedger (step_by v ℓ a)
fair_by ℓ (floor h w) (Ok u) f l e = tt
fair_by ℓ (reweigh k w) (Ok u) f l e = tt
fair_by ℓ (mode p n ys) (Ok u) f l e = tt
fair_by ℓ (strike k) (Ok u) f l e = tt
fair_by ℓ (static t sa) (Ok u) f l e = (f, e)
fair_by ℓ (modal t sa q) (Ok u) f l e = (f, e)
fair_by ℓ a (Err g) f l e = l

pub fair_step : (ℓ : Ledger) (a : Asked) → Fair a → FairLedger ℓ → FairLedger (step ℓ a)
fair_step ℓ a f l = fair_by ℓ a (verdict_on ℓ a) f l refl

-- ---- sums and distances

same_forces : (f g : ℕ → ℤ) (m : ℕ) → ((i : ℕ) → 1 ≤ i → i ≤ m → f i ≡ g i) → forces_up_to f m ≡ forces_up_to g m
same_forces f g zero h = refl
same_forces f g (suc m) h = λ j. same_forces f g m (λ i p q. h i p (omega arith)) j +ℤ h (suc m) (omega arith) (omega arith) j

shown_there : (n : ℕ) (c d : ℕ → ℕ) (i : ℕ) → 1 ≤ i → i ≤ n → shown n c d i ≡ Some (c i, d i, force_of n d i)
shown_there n c d i p q = cond-true (within 1 n i) _ _ (and_from (leb 1 i) (leb i n) (le-leb _ _ p) (le-leb _ _ q))

-- a sheet that reads n storeys with design shears d: its forces add up to the first of them
pub adds_up : (s : Sheet) (n : ℕ) (c d : ℕ → ℕ) → 1 ≤ n → ((i : ℕ) → reading_of s i ≡ shown n c d i) → forces_up_to (λ i. force_in (reading_of s i)) n ≡ pos (d 1)
adds_up s n c d p reads =
    same_forces (λ i. force_in (reading_of s i)) (force_of n d) n (λ i low high. ap force_in (reads i ∙ shown_there n c d i low high)) ∙ forces_balanced n d p

roof_low : (fs : List Floor) → every in_range fs ≡ true → 1 ≤ length fs → 20 ≤ roof_of fs
roof_low fs all p = (ranged (get_or fs (length fs - 1) nothing) (every_at in_range fs (length fs - 1) nothing all (omega arith))).low

module _ (s : Sheet) (fs : List Floor) (held : floors_in s ≡ fs) (t : SiteTerms) (sa : ℕ → Fraction) (law : SpectrumLaw sa) (goes : BaseGoes t.formula)
    (ok : verdict (static_refusals t (counted fs)) ≡ Ok tt) where
  in_range_lem : every in_range fs ≡ true
  in_range_lem = subst (λ (l : List Floor). every in_range l ≡ true) held s.ranged

  some : 1 ≤ length (counted fs)
  some = let z = eqb-false (length (counted fs)) 0 (verdict_law.accepted (static_refusals t (counted fs)) ok).0 in omega (arith, z)

  bounded : Acceleration (acceleration_at t sa (roof_of (counted fs)))
  bounded =
      acceleration_within t sa (roof_of (counted fs)) law goes (subst (λ (h : ℕ). 20 ≤ h) (sym (counted_roof fs)) (roof_low fs in_range_lem (omega (arith, some, counted_length fs))))
      (cond-false _ _ _ (verdict_law.accepted (static_refusals t (counted fs)) ok).1.0)

  module _ (reads : (i : ℕ) → reading_of s i ≡ shown (length fs) (static_shears_of t sa (counted fs)) (static_shears_of t sa (counted fs)) i) where
    pub static_adds : AddUp s (length fs) (code_shear t sa (counted fs))
    static_adds =
        adds_up s (length fs) (static_shears_of t sa (counted fs)) (static_shears_of t sa (counted fs)) (omega (arith, some, counted_length fs)) reads
        ∙ ap pos (static_base (code_shear t sa (counted fs)) (counted fs) (counted_built fs in_range_lem) some)

    pub static_lies_near : ShearsNear s (acceleration_at t sa (roof_of (counted fs))) (counted fs)
    static_lies_near i p q =
        let a = acceleration_at t sa (roof_of (counted fs)) in
        let e : design_in (reading_of s i) ≡ static_shears_of t sa (counted fs) i = ap design_in (reads i ∙ shown_there (length fs) (static_shears_of t sa (counted fs)) (static_shears_of t sa (counted fs)) i p (omega (arith, counted_length fs))) in
        subst (λ (v : ℕ). StaticNear (acceleration_at t sa (roof_of (counted fs))) (counted fs) i v) (sym e) (static_near a (counted fs) i bounded.0 (counted_built fs in_range_lem) p q)

-- the modes of a sheet can be used by the modal method
usable_all : (n : ℕ) (a : ℕ → Fraction) (fs : List Floor) (ms : List Mode) → ((t : ℕ) → 1 ≤ t → t ≤ 4000 → Acceleration (a t)) → every in_range fs ≡ true → n ≡ length fs → every (usable n) ms ≡ true
    → AllByRecursion (λ m. Acceleration (a m.period) × (1 ≤ M (counted fs) m.ordinates)) ms
usable_all n a fs [] law all e u = tt
usable_all n a fs (m ∷ ms) law all e u =
    let p = and_parts (usable n m) (every (usable n) ms) u in
    let f = fit n m p.0 in
    ((law m.period f.some f.few, counted_moves fs m.ordinates all (f.counted ∙ e) f.moves), usable_all n a fs ms law all e p.1)

module _ (s : Sheet) (fs : List Floor) (ms : List Mode) (held : floors_in s ≡ fs) (modes : modes_in s ≡ ms) (t : SiteTerms) (sa : ℕ → Fraction) (q : List Response → ℕ)
    (law : SpectrumLaw sa) (laws : Laws q) (ok : verdict (modal_refusals t sa q (counted fs) ms) ≡ Ok tt) where
  modal_some : 1 ≤ length fs
  modal_some = let z = eqb-false (length (counted fs)) 0 (verdict_law.accepted (modal_refusals t sa q (counted fs) ms) ok).0 in omega (arith, z, counted_length fs)

  modal_usable : Usable (acceleration_of t sa) (counted fs) ms
  modal_usable =
      let n = ap length (sym modes) ∙ length-map (items_of s.modes) (mode_of s.table.count) in
      let all = subst (λ (l : List Floor). every in_range l ≡ true) held s.ranged in
      let can = subst (λ (l : List Mode). every (usable s.table.count) l ≡ true) modes s.moving in (
        omega (arith, n, items_fit s.modes),
        usable_all s.table.count (acceleration_of t sa) fs ms (λ p low high. Bounded-at t sa p law low high) all (sym s.held ∙ ap length held) can,
      )

  -- a combined base shear of 0 goes with a code base shear of 0
  modal_moves : modal_combined t sa q (counted fs) ms 1 < code_shear t sa (counted fs) → 1 ≤ modal_combined t sa q (counted fs) ms 1
  modal_moves l = moves (modal_combined t sa q (counted fs) ms 1) (code_shear t sa (counted fs)) l (verdict_law.accepted (modal_refusals t sa q (counted fs) ms) ok).1.1.1.0
    where
      moves : (c b : ℕ) → c < b → (eqb c 0 && not (eqb b 0)) ≡ false → 1 ≤ c
      moves c b l e = grind (arith, nat_tests)

  module _ (reads : (i : ℕ) → reading_of s i ≡ shown (length fs) (modal_combined t sa q (counted fs) ms) (modal_design t sa q (counted fs) ms) i) where
    there : (i : ℕ) → 1 ≤ i → i ≤ length fs → reading_of s i ≡ Some (modal_combined t sa q (counted fs) ms i, modal_design t sa q (counted fs) ms i, force_of (length fs) (modal_design t sa q (counted fs) ms) i)
    there i p h = reads i ∙ shown_there (length fs) (modal_combined t sa q (counted fs) ms) (modal_design t sa q (counted fs) ms) i p h

    pub modal_kept : KeptAfter s fs ms (Some (modal t sa q))
    modal_kept = (
      adds_up s (length fs) (modal_combined t sa q (counted fs) ms) (modal_design t sa q (counted fs) ms) modal_some reads,
      (λ l. design_raised (code_shear t sa (counted fs)) (modal_combined t sa q (counted fs) ms 1) l (modal_moves l), λ l. design_kept (code_shear t sa (counted fs)) (modal_combined t sa q (counted fs) ms 1) l),
      λ i p h. subst (λ (c : ℕ). CombinedNear q (acceleration_of t sa) (counted fs) ms i c) (sym (ap combined_in (there i p (omega (arith, counted_length fs))))) (combined_near q laws (acceleration_of t sa) (counted fs) ms i modal_usable),
      λ i p h. subst (λ (r : Reading). DesignNear (code_shear t sa (counted fs)) (modal_combined t sa q (counted fs) ms 1) (combined_in r) (design_in r)) (sym (there i p h)) (design_near (code_shear t sa (counted fs)) (modal_combined t sa q (counted fs) ms 1) (modal_combined t sa q (counted fs) ms i) modal_moves),
    )

kept_after : (s : Sheet) (fs : List Floor) (ms : List Mode) (last : Option Asked) → floors_in s ≡ fs → modes_in s ≡ ms → LastFair fs ms last → ((i : ℕ) → reading_of s i ≡ expected_by fs ms last i) → KeptAfter s fs ms last
kept_after s fs ms None held modes f reads = tt
kept_after s fs ms (Some (floor h w)) held modes f reads = tt
kept_after s fs ms (Some (reweigh k w)) held modes f reads = tt
kept_after s fs ms (Some (mode p n ys)) held modes f reads = tt
kept_after s fs ms (Some (strike k)) held modes f reads = tt
kept_after s fs ms (Some (modal t sa q)) held modes f reads = modal_kept s fs ms held modes t sa q f.0.0 f.0.2 f.1 reads
kept_after s fs ms (Some (static t sa)) held modes f reads =
    (static_adds s fs held t sa f.0.0 f.0.1 f.1 reads, static_lies_near s fs held t sa f.0.0 f.0.1 f.1 reads)

pub faultless : (s : Sheet) (ℓ : Ledger) → Stands s ℓ → FairLedger ℓ → Faultless s ℓ
faultless s ℓ st f = record { stands = st; kept = kept_after s ℓ.floors ℓ.modes ℓ.last st.floors st.modes f st.reads }

-- ---- a list of calls made with one site, one spectrum and one rule

pub fair_asked : (t : SiteTerms) (sa : ℕ → Fraction) (q : List Response → ℕ) → SpectrumLaw sa → BaseGoes t.formula → Laws q → (call : Call) → Fair (asked t sa q call)
fair_asked t sa q law goes laws (FloorCall h w) = tt
fair_asked t sa q law goes laws (Reweigh i w) = tt
fair_asked t sa q law goes laws (ModeCall m) = tt
fair_asked t sa q law goes laws (Strike k) = tt
fair_asked t sa q law goes laws Static = (law, goes)
fair_asked t sa q law goes laws Modal = (law, goes, laws)
