-- What is common to the calls on a sheet. Assumes nothing.
use Rattle.std.proofs.Common.{◌≡◌, ℕ, ◌-◌, true, cond, ◌&&◌, is_ok, Some, None, Ok, Err, sym, refl, ap, ◌∙◌}
use Rattle.std.proofs.lemmas.Bool.{false≢true}
use Rattle.std.proofs.lemmas.Result.{err_from_is_err_and}
use Rattle.std.specs.Result.{IsErrAnd}
use Rattle.standard.specs.declared.fault.Fault.{Fault}
use Rattle.standard.specs.Faults.{Verdict, verdict}
use Rattle.standard.specs.Sites.{within}
use Rattle.methods.specs.Outcomes.{storey_at}
use Rattle.sheet.specs.declared.sheet.Sheet.{Sheet}
use Rattle.sheet.specs.declared.stage.Stage.{Stage}
use Rattle.sheet.specs.declared.stage.Stage.TheVariants.{Draft}
use Rattle.sheet.specs.Answers.{Answers}
use Rattle.sheet.specs.Contents.{figures_of, floors_in, modes_in, reading_of}
use Rattle.sheet.specs.Ledgers.{Asked, refusals, floors_after, modes_after}
use Rattle.sheet.specs.Readings.{read_after}
use Rattle.sheet.specs.Stages.{is_run}

-- a draft reads nothing
draft_reads : (s : Sheet) → s.stage ≡ Draft → (i : ℕ) → reading_of s i ≡ None
draft_reads s e i = ap (λ (g : Stage). cond (is_run g && within 1 s.table.count i) (Some (figures_of (storey_at s.storeys (i - 1)))) None) e

-- a refused call: the fault that it answers is the verdict's
pub refused : (s : Sheet) (a : Asked) (r : Verdict) (f : Fault) → IsErrAnd r (λ g. g ≡ f) → Err f ≡ verdict (refusals (floors_in s) (modes_in s) a) → Answers s a r s
refused s a r f h v =
    let p = err_from_is_err_and r h in
    let no : is_ok r ≡ true → ⊥ = λ ok. false≢true (sym (ap is_ok p.1) ∙ ok) in
    record {
      answer = p.1 ∙ ap Err p.2 ∙ v;
      kept = λ _. refl;
      floors = λ ok. absurd (no ok);
      modes = λ ok. absurd (no ok);
      reads = λ ok. absurd (no ok);
    }

-- an accepted edit: it leaves a draft
pub edited : (s s' : Sheet) (a : Asked) → Ok tt ≡ verdict (refusals (floors_in s) (modes_in s) a) → s'.stage ≡ Draft
    → floors_in s' ≡ floors_after (floors_in s) a → modes_in s' ≡ modes_after (modes_in s) a
    → ((i : ℕ) → read_after (floors_after (floors_in s) a) (modes_after (modes_in s) a) a i ≡ None) → Answers s a (Ok tt) s'
edited s s' a v draft fs ms none =
    record {
      answer = v;
      kept = λ bad. absurd (false≢true bad);
      floors = λ _. fs;
      modes = λ _. ms;
      reads = λ _ i. draft_reads s' draft i ∙ sym (none i);
    }
