-- What writing into a buffer leaves.
use Rattle.std.specs.Prelude.{◌≡◌, ℕ, ◌<◌, ◌≤◌, List, length, take, drop}
use Rattle.standard.specs.declared.fault.Fault.{Fault}
use Rattle.standard.specs.declared.fault.Ground.TheVariants.{PrintBuffer}
use Rattle.standard.specs.Faults.{fault}

-- a buffer that held before holds the n bytes of a text at its start, and past them what it held
abbrev pub Printed : List ℕ → List ℕ → List ℕ → ℕ → Type 0
Printed text before after n = (n ≡ length text) × (n ≤ length before) × (take n after ≡ text) × (drop n after ≡ drop n before) × (length after ≡ length before)

-- a buffer is too short for a text, holds what it held, and the bytes needed are named
abbrev pub TooShort : List ℕ → List ℕ → List ℕ → Fault → Type 0
TooShort text before after f = (f ≡ fault PrintBuffer (length text)) × (length before < length text) × (after ≡ before)
