use Rattle.std.proofs.Common.{◌≡◌, ℕ, ◌*◌, ◌%◌, ◌^◌, ◌<◌, ◌≤◌, ℤ, pos, ◌+ℤ◌, ◌-ℤ◌, nat_abs, ◌≤ℤ◌, ◌<ℤ◌, sym, refl, ap, ◌∙◌, arith, w64, SFits, to_z}
use lib.Signed.{quot_z, rem_z}
use borrow.Author.Differences.{ints}
use Rattle.std.proofs.lemmas.Int.{to_z_pos}
use Rattle.rounding.specs.Rounding.{nearestℤ}
use Rattle.rounding.proofs.Order.{back, read_back}
use Rattle.rounding.proofs.Rounding.{nearestℤ_same, nearestℤ_up, nearestℤ_down, nearestℤ_fits, quot_z_fits, rem_z_fits, rest_size}
use Rattle.rounding.proofs.quotient.nearest_signed_quotient.Goals as goal

-- what the code computes, freed of the trips through bits
module _ (n : ℤ) (d : ℕ) (fits : SFits w64 n) (p : 1 ≤ d) (q : d < 2 ^ 63) where
  d_is : to_z w64 d ≡ pos d
  d_is = to_z_pos w64 d q

  quotient_is : back w64 (quot_z (back w64 n) (to_z w64 d)) ≡ quot_z n (pos d)
  quotient_is = read_back w64 (λ i. quot_z (read_back w64 refl fits i) (d_is i)) (quot_z_fits w64 n d fits)

  rest_is : nat_abs (back w64 (rem_z (back w64 n) (to_z w64 d))) ≡ nat_abs n % d
  rest_is = ap nat_abs (read_back w64 (λ i. rem_z (read_back w64 refl fits i) (d_is i)) (rem_z_fits w64 n d fits)) ∙ rest_size n d

  same : 2 * (nat_abs n % d) < d → back w64 (quot_z (back w64 n) (to_z w64 d)) ≡ nearestℤ n d
  same h = quotient_is ∙ sym (nearestℤ_same n d p h)

  up : d ≤ 2 * (nat_abs n % d) → pos 0 ≤ℤ n → back w64 (back w64 (quot_z (back w64 n) (to_z w64 d)) +ℤ pos 1) ≡ nearestℤ n d
  up h s = read_back w64 (ap (λ (z : ℤ). z +ℤ pos 1) quotient_is ∙ sym (nearestℤ_up n d p h s)) (nearestℤ_fits w64 n d p fits)

  down : d ≤ 2 * (nat_abs n % d) → n <ℤ pos 0 → back w64 (back w64 (quot_z (back w64 n) (to_z w64 d)) -ℤ pos 1) ≡ nearestℤ n d
  down h s = read_back w64 (ap (λ (z : ℤ). z -ℤ pos 1) quotient_is ∙ sym (nearestℤ_down n d p h s)) (nearestℤ_fits w64 n d p fits)

pub returns-then-rest-divisor : goal.returns-then-rest-divisor
returns-then-rest-divisor c =
    let r = rest_is c.args.n c.args.divisor.value c.ranges.n (omega arith) (omega arith) in
    same c.args.n c.args.divisor.value c.ranges.n (omega arith) (omega arith) (omega (arith, r, c.unsigned_abs-rest.ensures.value))

pub returns-then-n-lt0 : goal.returns-then-n-lt0
returns-then-n-lt0 c =
    let r = rest_is c.args.n c.args.divisor.value c.ranges.n (omega arith) (omega arith) in
    down c.args.n c.args.divisor.value c.ranges.n (omega arith) (omega arith) (omega (arith, r, c.unsigned_abs-rest.ensures.value)) (omega (arith, ints))

pub returns-else-n-lt0 : goal.returns-else-n-lt0
returns-else-n-lt0 c =
    let r = rest_is c.args.n c.args.divisor.value c.ranges.n (omega arith) (omega arith) in
    up c.args.n c.args.divisor.value c.ranges.n (omega arith) (omega arith) (omega (arith, r, c.unsigned_abs-rest.ensures.value)) (omega (arith, ints))
