-- The laws of `nearest`. Assumes nothing.
use Rattle.std.proofs.Common.{◌≡◌, ℕ, suc, ◌+◌, ◌*◌, ◌/◌, ◌%◌, ◌<◌, ◌≤◌, ℤ, pos, negsuc, ◌+ℤ◌, ◌-ℤ◌, ◌*ℤ◌, neg_ℤ, nat_abs, ◌≤ℤ◌, ◌<ℤ◌, refl, ap, ◌∙◌, mul-le-mul_right, mod-lt, mul-le-mul_left, div-add-mod', div-le_self, div-mul-le_self, arith, SFits}
use native.Mathlib.Nat.{lt-div-mul-add, div-eq_of_lt-le, mod-le}
use mir.Syntax.{Width}
use lib.Signed.{quot_z, rem_z}
use native.Mathlib.Decide.{dec_le}
use borrow.Author.Differences.{ints}
use Rattle.rounding.proofs.Ring.{negℤ-*ℤ}
use Rattle.rounding.proofs.Order.{nat_abs_neg}
use Rattle.rounding.specs.Rounding.{gap, nearest, nearestℤ, NearestLaws}

pub close : (n d : ℕ) → 1 ≤ d → 2 * gap (nearest n d * d) n ≤ d
unfolding nearest
close n d h =
    let p : 0 < 2 * d = omega arith in
    omega (arith, div-mul-le_self (2 * n + d) (2 * d), lt-div-mul-add {a = 2 * n + d} p)

-- two numbers within half of the same fraction are the same, and so `whole` and `rising` follow from `close`, whatever becomes of halves
pub whole : (k d : ℕ) → 1 ≤ d → nearest (k * d) d ≡ k
whole k d p = same (nearest (k * d) d) (close (k * d) d p)
  where
    same : (q : ℕ) → 2 * gap (q * d) (k * d) ≤ d → q ≡ k
    same q h =
        let a : q ≤ k = elim (dec_le q k) [ yes l ↦ l | no l ↦ (let m : suc k * d ≤ q * d = mul-le-mul_right d (omega arith) in omega arith) ] in
        let b : k ≤ q = elim (dec_le k q) [ yes l ↦ l | no l ↦ (let m : suc q * d ≤ k * d = mul-le-mul_right d (omega arith) in omega arith) ] in
        omega arith

pub rising : (m n d : ℕ) → 1 ≤ d → m ≤ n → nearest m d ≤ nearest n d
rising m n d p h = elim (dec_le (nearest m d) (nearest n d)) [ yes l ↦ l | no l ↦ absurd (clash (omega arith)) ]
  where
    clash : nearest n d < nearest m d → ⊥
    clash l =
        let k : suc (nearest n d) * d ≤ nearest m d * d = mul-le-mul_right d l in
        let e : m ≡ n = omega (arith, close m d p, close n d p) in
        omega (arith, ap (λ (x : ℕ). nearest x d) e)

pub size : (z : ℤ) (d : ℕ) → nat_abs (nearestℤ z d) ≡ nearest (nat_abs z) d
unfolding nearestℤ
size (pos n) d = refl
size (negsuc n) d = nat_abs_neg (pos (nearest (suc n) d))

pub closeℤ : (z : ℤ) (d : ℕ) → 1 ≤ d → 2 * nat_abs (nearestℤ z d *ℤ pos d -ℤ z) ≤ d
unfolding nearestℤ
closeℤ (pos n) d h = omega (arith, ints, close n d h)
closeℤ (negsuc n) d h = let e : neg_ℤ (pos (nearest (suc n) d)) *ℤ pos d ≡ neg_ℤ (pos (nearest (suc n) d * d)) = negℤ-*ℤ (pos (nearest (suc n) d)) (pos d) in rw e (omega (arith, ints, close (suc n) d h))

-- what a quotient and a rest say of the nearest whole number
pub nearest_up : (n d : ℕ) → 1 ≤ d → d ≤ 2 * (n % d) → nearest n d ≡ n / d + 1
unfolding nearest
nearest_up n d p h = div-eq_of_lt-le {k = n / d + 1} (2 * d) (omega (arith, div-add-mod' n d)) (omega (arith, div-add-mod' n d, mod-lt n p))

pub nearest_down : (n d : ℕ) → 1 ≤ d → 2 * (n % d) < d → nearest n d ≡ n / d
unfolding nearest
nearest_down n d p h = div-eq_of_lt-le {k = n / d} (2 * d) (omega (arith, div-add-mod' n d)) (omega (arith, div-add-mod' n d))

-- the same of signed numbers, whose quotients go towards zero
pub nearestℤ_same : (z : ℤ) (d : ℕ) → 1 ≤ d → 2 * (nat_abs z % d) < d → nearestℤ z d ≡ quot_z z (pos d)
unfolding nearestℤ
nearestℤ_same (pos n) d p h = ap pos (nearest_down n d p h)
nearestℤ_same (negsuc n) d p h = ap (λ (q : ℕ). neg_ℤ (pos q)) (nearest_down (suc n) d p h)

pub nearestℤ_up : (z : ℤ) (d : ℕ) → 1 ≤ d → d ≤ 2 * (nat_abs z % d) → pos 0 ≤ℤ z → nearestℤ z d ≡ quot_z z (pos d) +ℤ pos 1
unfolding nearestℤ
nearestℤ_up (pos n) d p h s = ap pos (nearest_up n d p h)
nearestℤ_up (negsuc n) d p h s = absurd s.le

pub nearestℤ_down : (z : ℤ) (d : ℕ) → 1 ≤ d → d ≤ 2 * (nat_abs z % d) → z <ℤ pos 0 → nearestℤ z d ≡ quot_z z (pos d) -ℤ pos 1
unfolding nearestℤ
nearestℤ_down (pos n) d p h s = omega (arith, ints)
nearestℤ_down (negsuc n) d p h s = ap (λ (q : ℕ). neg_ℤ (pos q)) (nearest_up (suc n) d p h) ∙ omega (arith, ints)

-- the rest of a signed division is as large as that of the sizes
pub rest_size : (z : ℤ) (d : ℕ) → nat_abs (rem_z z (pos d)) ≡ nat_abs z % d
rest_size (pos n) d = refl
rest_size (negsuc n) d = nat_abs_neg (pos (suc n % d))

-- no nearest quotient is larger than what is divided
pub nearest_le : (n d : ℕ) → 1 ≤ d → nearest n d ≤ n
nearest_le n d p = let h : n * 1 ≤ n * d = mul-le-mul_left n p in omega (arith, rising n (n * d) d p (omega arith), whole n d p)

pub nearestℤ_fits : (w : Width) (z : ℤ) (d : ℕ) → 1 ≤ d → SFits w z → SFits w (nearestℤ z d)
unfolding nearestℤ
nearestℤ_fits w (pos n) d p f = record { sfits = omega (arith, nearest_le n d p, f.sfits) }
nearestℤ_fits w (negsuc n) d p f = let h = nearest_le (suc n) d p in let m = f.sfits in omega (arith, ints)

pub quot_z_fits : (w : Width) (z : ℤ) (d : ℕ) → SFits w z → SFits w (quot_z z (pos d))
quot_z_fits w (pos n) d f = record { sfits = omega (arith, div-le_self n d, f.sfits) }
quot_z_fits w (negsuc n) d f = let h = div-le_self (suc n) d in let m = f.sfits in omega (arith, ints)

pub rem_z_fits : (w : Width) (z : ℤ) (d : ℕ) → SFits w z → SFits w (rem_z z (pos d))
rem_z_fits w (pos n) d f = record { sfits = omega (arith, mod-le n d, f.sfits) }
rem_z_fits w (negsuc n) d f = let h = mod-le (suc n) d in let m = f.sfits in omega (arith, ints)

half : (k : ℕ) → nearest (2 * k + 1) 2 ≡ k + 1
half k = let e : (2 * k + 1) / 2 ≡ k = div-eq_of_lt-le {k = k} 2 (omega arith) (omega arith) in nearest_up (2 * k + 1) 2 (omega arith) (omega (arith, div-add-mod' (2 * k + 1) 2, e)) ∙ ap (λ (q : ℕ). q + 1) e

pub nearest_laws : NearestLaws
nearest_laws = record { close = close; whole = whole; rising = rising; closeℤ = closeℤ; size = size; half = half }
