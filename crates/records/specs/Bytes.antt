-- Numbers as bytes write them.
use Rattle.std.specs.Prelude.{ℕ, zero, suc, ◌+◌, ◌*◌, List, slice_index}

-- the number that the n bytes from place p on write, the high byte first
abbrev pub number_at : List ℕ → ℕ → ℕ → ℕ
number_at bs p zero = 0
number_at bs p (suc n) = number_at bs p n * 256 + slice_index bs (p + n)
