-- Facts about lists that several proofs use. Assumes nothing.
use Rattle.std.proofs.Common.{◌≡◌, ℕ, zero, suc, ◌+◌, ◌<◌, Bool, true, List, [], ◌∷◌, ◌++◌, length, get_or, drop, set, refl, le_of_suc-le-suc, not-suc-le-zero}
use Rattle.std.proofs.lemmas.List.Edits.{fill_by_more}
use Rattle.std.proofs.lemmas.Bool.{and_parts, and_from}
use Rattle.methods.specs.Loads.{every}

module _ {A : Type 0} (p : A → Bool) where
  -- what passes of every element passes of the one at k
  pub every_at : (xs : List A) (k : ℕ) (d : A) → every p xs ≡ true → k < length xs → p (get_or xs k d) ≡ true
  every_at [] k d e l = absurd (not-suc-le-zero l)
  every_at (x ∷ xs) zero d e l = (and_parts (p x) (every p xs) e).0
  every_at (x ∷ xs) (suc k) d e l = every_at xs k d (and_parts (p x) (every p xs) e).1 (le_of_suc-le-suc l)

  pub every_append : (xs ys : List A) → every p xs ≡ true → every p ys ≡ true → every p (xs ++ ys) ≡ true
  every_append [] ys e f = f
  every_append (x ∷ xs) ys e f = let h = and_parts (p x) (every p xs) e in and_from (p x) (every p (xs ++ ys)) h.0 (every_append xs ys h.1 f)

  pub every_set : (xs : List A) (k : ℕ) (v : A) → every p xs ≡ true → p v ≡ true → every p (set xs k v) ≡ true
  every_set [] k v e f = refl
  every_set (x ∷ xs) zero v e f = and_from (p v) (every p xs) f (and_parts (p x) (every p xs) e).1
  every_set (x ∷ xs) (suc k) v e f = let h = and_parts (p x) (every p xs) e in and_from (p x) (every p (set xs k v)) h.0 (every_set xs k v h.1 f)

  pub every_drop : (xs : List A) (k : ℕ) → every p xs ≡ true → every p (drop k xs) ≡ true
  every_drop xs zero e = e
  every_drop [] (suc k) e = refl
  every_drop (x ∷ xs) (suc k) e = every_drop xs k (and_parts (p x) (every p xs) e).1

-- one step of a loop that writes f k at each place k
pub fill_with_more : {X : Type 0} (f : ℕ → X) (xs : List X) (i : ℕ) (d v : X) → v ≡ f i → i < length xs → ((k : ℕ) → k < i → get_or xs k d ≡ f k) → (k : ℕ) → k < i + 1 → get_or (set xs i v) k d ≡ f k
fill_with_more f xs i d v e l below k b = rw e (fill_by_more f xs i d l below k b)
