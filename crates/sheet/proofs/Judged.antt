-- What an accepted call tells of the floors and modes that the sheet holds. Assumes nothing.
use Rattle.std.proofs.Common.{◌≡◌, ℕ, ◌<◌, ◌≤◌, true, false, not, eqb, leb, List, length, ℤ, is_some, Ok, sym}
use Rattle.std.proofs.lemmas.Bool.{or_parts, not-false, leb-false, and_parts, leb-true, eqb-true}
use Rattle.standard.specs.Faults.{verdict}
use Rattle.standard.specs.Sites.{within}
use Rattle.standard.proofs.Verdicts.{verdict_law}
use Rattle.formulas.specs.declared.floor.Floor.{Floor}
use Rattle.formulas.specs.Buildings.{Mode}
use Rattle.methods.specs.Loads.{roof_of}
use Rattle.methods.specs.Shapes.{all_zero}
use Rattle.sheet.specs.Ledgers.{floor, mode, strike, refusals}
use Rattle.sheet.specs.Modes.{first_outside, not_below_last}

between : (low high x : ℕ) → within low high x ≡ true → (low ≤ x) × (x ≤ high)
between low high x e = let q = and_parts (leb low x) (leb x high) e in (leb-true _ _ q.0, leb-true _ _ q.1)

pub record FloorTaken (fs : List Floor) (h w : ℕ) : Type 0 where
  pub height : within 20 2000 h ≡ true
  pub above : roof_of fs < h
  pub weight : within 100 100000 w ≡ true

pub floor_taken : (fs : List Floor) (ms : List Mode) (h w : ℕ) → Ok tt ≡ verdict (refusals fs ms (floor h w)) → FloorTaken fs h w
floor_taken fs ms h w e =
    let a = verdict_law.accepted (refusals fs ms (floor h w)) (sym e) in
    let p = or_parts (not (within 20 2000 h)) (leb h (roof_of fs)) a.0 in
    record {
      height = not-false _ p.0;
      above = leb-false _ _ p.1;
      weight = not-false _ a.1.0;
    }

pub record ModeTaken (fs : List Floor) (ms : List Mode) (p c : ℕ) (ys : List ℤ) : Type 0 where
  pub count : c ≡ length fs
  pub period : within 1 4000 p ≡ true
  pub below : not_below_last p ms ≡ false
  pub inside : is_some (first_outside ys) ≡ false
  pub moves : all_zero ys ≡ false

pub mode_taken : (fs : List Floor) (ms : List Mode) (p c : ℕ) (ys : List ℤ) → Ok tt ≡ verdict (refusals fs ms (mode p c ys)) → ModeTaken fs ms p c ys
mode_taken fs ms p c ys e =
    let a = verdict_law.accepted (refusals fs ms (mode p c ys)) (sym e) in
    let q = or_parts (eqb (length fs) 0) (not (eqb c (length fs))) a.0 in
    let r = or_parts (not (within 1 4000 p)) (not_below_last p ms) a.1.0 in
    record {
      count = eqb-true c (length fs) (not-false _ q.1);
      period = not-false _ r.0;
      below = r.1;
      inside = a.1.1.0;
      moves = a.1.1.1.0;
    }

pub strike_taken : (fs : List Floor) (ms : List Mode) (k : ℕ) → Ok tt ≡ verdict (refusals fs ms (strike k)) → (1 ≤ k) × (k ≤ length ms)
strike_taken fs ms k e = between 1 (length ms) k (not-false (within 1 (length ms) k) (verdict_law.accepted (refusals fs ms (strike k)) (sym e)).0)
