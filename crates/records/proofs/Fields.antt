-- The number that a copy of some bytes writes.
use Rattle.std.proofs.Common.{◌≡◌, ℕ, zero, suc, ◌+◌, ◌*◌, ◌<◌, List, get_or, zero-add, refl, arith}
use Rattle.records.specs.Bytes.{number_at}

pub number_copied : (xs bs : List ℕ) (p n : ℕ) → ((k : ℕ) → k < n → get_or xs k 0 ≡ get_or bs (p + k) 0) → number_at xs 0 n ≡ number_at bs p n
number_copied xs bs p zero same = refl
number_copied xs bs p (suc n) same =
    let front : number_at xs 0 n ≡ number_at bs p n = number_copied xs bs p n (λ k below. same k (omega arith)) in
    let last : get_or xs (0 + n) 0 ≡ get_or bs (p + n) 0 = rw (zero-add n) (same n (omega arith)) in
    λ i. front i * 256 + last i
