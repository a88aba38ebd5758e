-- The law of the verdict. Assumes nothing.
use Rattle.std.proofs.Common.{◌≡◌, true, false, List, [], ◌∷◌, Ok, Err, refl}
use Rattle.std.specs.List.{AllByRecursion}
use Rattle.standard.specs.declared.fault.Fault.{Fault}
use Rattle.standard.specs.Faults.{Refusal, refusal, holds, fault, verdict, First, here, later, VerdictLaw}

refused : (rs : List Refusal) (f : Fault) → verdict rs ≡ Err f → First rs f
refused [] f e = cc
refused (refusal g p true ∷ rs) f e = let same : fault g p ≡ f = cc in rw (← same) (here g p)
refused (refusal g p false ∷ rs) f e = later g p (refused rs f e)

first : (rs : List Refusal) (f : Fault) → First rs f → verdict rs ≡ Err f
first rs f (here g p) = refl
first rs f (later g p h) = first _ f h

accepted : (rs : List Refusal) → verdict rs ≡ Ok tt → AllByRecursion (λ r. holds r ≡ false) rs
accepted [] e = tt
accepted (refusal g p true ∷ rs) e = cc
accepted (refusal g p false ∷ rs) e = (refl, accepted rs e)

none : (rs : List Refusal) → AllByRecursion (λ r. holds r ≡ false) rs → verdict rs ≡ Ok tt
none [] h = refl
none (refusal g p true ∷ rs) h = cc h.0
none (refusal g p false ∷ rs) h = none rs h.1

pub verdict_law : VerdictLaw
verdict_law = record { refused = refused; first = first; accepted = accepted; none = none }
