-- Ordinates as bytes write them: two bytes each, in two's complement.
use Rattle.std.specs.Prelude.{ℕ, zero, suc, ◌+◌, ◌*◌, cond, List, [], ◌∷◌, ◌++◌, length, ℤ, pos, ◌-ℤ◌, nat_lt}
use Rattle.records.specs.Bytes.{number_at}

-- the number that 16 bits write in two's complement
abbrev pub twos : ℕ → ℤ
twos n = cond (nat_lt n 32768) (pos n) (pos n -ℤ pos 65536)

-- ordinate k; 0 where the bytes have ended
abbrev pub ordinate_at : List ℕ → ℕ → ℤ
ordinate_at bs k = cond (nat_lt (2 * k + 1) (length bs)) (twos (number_at bs (2 * k) 2)) (pos 0)

-- the first n ordinates
abbrev pub ordinates_at : List ℕ → ℕ → List ℤ
ordinates_at bs zero = []
ordinates_at bs (suc n) = ordinates_at bs n ++ (ordinate_at bs n ∷ [])
