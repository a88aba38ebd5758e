-- The two tables of bare-frame periods, and their rule: one test over each whole table, which antt computes, and what it says of each entry. Assumes nothing.
use Rattle.std.proofs.Common.{◌≡◌, ℕ, zero, suc, ◌+◌, ◌-◌, ◌<◌, ◌≤◌, Bool, true, false, not, ◌&&◌, ltb, List, [], ◌∷◌, length, get_or, sym, refl, ◌∙◌, subst, le_of_suc-le-suc, not-suc-le-zero, add-zero, add-suc, suc-add, arith}
use Rattle.std.proofs.lemmas.Bool.{and_parts, ltb-true, not-true}
use Rattle.standard.specs.declared.terms.Formula.{Formula}
use Rattle.standard.specs.declared.terms.Formula.TheVariants.{ConcreteFrame, SteelFrame}
use Rattle.base_shear.specs.declared.tables.TheConstants.{CONCRETE_FRAME, STEEL_FRAME}
use Rattle.base_shear.specs.Periods.{passes, period_of, IsPeriod, BaseGoes}
use Rattle.base_shear.proofs.Periods.{first_passing, period_only}

-- every entry passes the test at its place
abbrev pub every : (ℕ → ℕ → Bool) → ℕ → List ℕ → Bool
every f i [] = true
every f i (x ∷ xs) = f i x && every f (suc i) xs

from : (f : ℕ → ℕ → Bool) (xs : List ℕ) (i : ℕ) → every f i xs ≡ true → (k : ℕ) → k < length xs → f (i + k) (get_or xs k 0) ≡ true
from f [] i t k h = absurd (not-suc-le-zero h)
from f (x ∷ xs) i t zero h = subst (λ (m : ℕ). f m x ≡ true) (sym (add-zero i)) (and_parts (f i x) (every f (suc i) xs) t).0
from f (x ∷ xs) i t (suc k) h =
    subst (λ (m : ℕ). f m (get_or xs k 0) ≡ true) (suc-add i k ∙ sym (add-suc i k))
    (from f xs (suc i) (and_parts (f i x) (every f (suc i) xs) t).1 k (le_of_suc-le-suc h))

-- the entry at place i passes at the height 20 + i, and the number before it does not
abbrev pub right : Formula → ℕ → ℕ → Bool
right f i t = passes f (20 + i) t && (ltb 0 t && not (passes f (20 + i) (t - 1)))

entry : (f : Formula) (xs : List ℕ) → every (right f) 0 xs ≡ true → (h : ℕ) → 20 ≤ h → h - 20 < length xs → IsPeriod f h (get_or xs (h - 20) 0)
entry f xs all h p l =
    let i : ℕ = h - 20 in
    let t : ℕ = get_or xs (h - 20) 0 in
    let e : 20 + (0 + (h - 20)) ≡ h = omega arith in
    let r = and_parts (passes f (20 + (0 + (h - 20))) (get_or xs (h - 20) 0)) _ (from (right f) xs 0 all (h - 20) l) in
    let q = and_parts (ltb 0 (get_or xs (h - 20) 0)) _ r.1 in
    first_passing f h (get_or xs (h - 20) 0) (subst (λ (m : ℕ). passes f m (get_or xs (h - 20) 0) ≡ true) e r.0) (ltb-true _ _ q.0) (subst (λ (m : ℕ). passes f m (get_or xs (h - 20) 0 - 1) ≡ false) e (not-true _ q.1))

-- the entry of a table that is right, as the period by a formula that is known
pub known_frame : (f g : Formula) (xs : List ℕ) → every (right f) 0 xs ≡ true → (h t : ℕ) → 20 ≤ h → h - 20 < length xs → t ≡ get_or xs (h - 20) 0 → g ≡ f → BaseGoes g → (t ≡ period_of g h) × IsPeriod g h t
known_frame f g xs all h t p l t-is e b =
    let right-is : IsPeriod g h t = rw (e, t-is) (entry f xs all h p l) in
    (period_only g h t b right-is, right-is)

pub concrete_right : every (right ConcreteFrame) 0 CONCRETE_FRAME ≡ true
concrete_right = refl

pub steel_right : every (right SteelFrame) 0 STEEL_FRAME ≡ true
steel_right = refl
