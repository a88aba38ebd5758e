-- From one value that rises to every value that does. Assumes nothing.
use Rattle.std.specs.Prelude.{ℕ, ◌≤◌, List, ◌∷◌, pos}
use Rattle.std.proofs.Common.{le_refl, le_trans}
use Rattle.combination.specs.declared.response.Response.{Response}
use Rattle.combination.specs.Values.{mode}
use Rattle.combination.specs.Laws.{RiseLaw, NoNegatives, RaisedOne, Raised, none, more, here, later}

lower : {a b : List Response} → Raised a b → NoNegatives a
lower none = none
lower (more p m n h r) = more p m (lower r)

-- first the first value rises, then the rest; after a value that is not negative, q keeps its law
pub rise_all : (q : List Response → ℕ) → RiseLaw q → {a b : List Response} → Raised a b → q a ≤ q b
rise_all q rise none = le_refl _
rise_all q rise (more p m n h r) = le_trans (rise _ _ (here p m n h (lower r))) (rise_all (λ xs. q (mode p (pos n) ∷ xs)) (λ a b s. rise _ _ (later p n s)) r)

same : {xs : List Response} → NoNegatives xs → Raised xs xs
same none = none
same (more p n s) = more p n n (le_refl n) (same s)

pub raised_of : {a b : List Response} → RaisedOne a b → Raised a b
raised_of (here p m n h s) = more p m n h (same s)
raised_of (later p n r) = more p n n (le_refl n) (raised_of r)
