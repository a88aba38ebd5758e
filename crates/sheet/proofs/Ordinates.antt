-- Ordinates as they were typed in. Assumes nothing.
use Rattle.std.proofs.Common.{◌≡◌, ℕ, suc, ◌+◌, min, Bool, true, false, not, ◌&&◌, List, [], ◌∷◌, length, take, ℤ, is_some, Some, refl, sym, ap, ◌∙◌, inl, inr, arith}
use Rattle.std.specs.List.{list_all, position, position_from}
use Rattle.std.specs.Option.{option_map}
use Rattle.std.proofs.lemmas.List.{length-take}
use Rattle.std.proofs.lemmas.Bool.{and_from, cases_Bool, cond-true, cond-false}
use Rattle.std.proofs.lemmas.Iterator.Adapters.{position_from-zero}
use Rattle.methods.specs.Loads.{every}
use Rattle.methods.specs.Shapes.{outside}
use Rattle.sheet.specs.Modes.{first_outside}

pub typed_length : (os : List ℤ) (n : ℕ) → length os ≡ 40 → length (take n os) ≡ min n 40
typed_length os n long = length-take n os ∙ ap (min n) long

-- a number one higher is the same place counted from one further
counted_up : (p : ℕ) (ys : List ℤ) → option_map suc (position_from outside p ys) ≡ position_from outside (p + 1) ys
counted_up p [] = refl
counted_up p (y ∷ ys) =
    elim (cases_Bool (outside y)) [
      | inl b ↦ rw (cond-true (outside y) (Some p) (position_from outside (p + 1) ys) b, cond-true (outside y) (Some (p + 1)) (position_from outside (p + 1 + 1) ys) b) (ap Some (omega arith))
      | inr b ↦ rw (cond-false (outside y) (Some p) (position_from outside (p + 1) ys) b, cond-false (outside y) (Some (p + 1)) (position_from outside (p + 1 + 1) ys) b) (counted_up (p + 1) ys)
    ]

-- the number of the first ordinate outside, by its place
pub numbered : (ys : List ℤ) → option_map suc (position outside ys) ≡ first_outside ys
numbered ys = ap (option_map suc) (position_from-zero outside ys) ∙ counted_up 0 ys

inside_from : (p : ℕ) (ys : List ℤ) → is_some (position_from outside p ys) ≡ false → every (λ y. not (outside y)) ys ≡ true
inside_from p [] h = refl
inside_from p (y ∷ ys) h =
    elim (cases_Bool (outside y)) [
      | inl b ↦ (let z : true ≡ false = sym (ap is_some (cond-true (outside y) (Some p) (position_from outside (p + 1) ys) b)) ∙ h in absurd (cc))
      | inr b ↦ and_from (not (outside y)) (every (λ y. not (outside y)) ys) (ap not b) (inside_from (p + 1) ys (sym (ap is_some (cond-false (outside y) (Some p) (position_from outside (p + 1) ys) b)) ∙ h))
    ]

-- where no ordinate is outside its range, each is inside
pub all_inside : (ys : List ℤ) → is_some (first_outside ys) ≡ false → every (λ y. not (outside y)) ys ≡ true
all_inside ys none = inside_from 1 ys none

pub every_all : {A : Type 0} (p : A → Bool) (xs : List A) → every p xs ≡ list_all p xs
every_all p [] = refl
every_all p (x ∷ xs) = ap (λ (b : Bool). p x && b) (every_all p xs)
