-- Inequalities over ℤ and ℕ that bounds want: sums and products of inequalities, squares, absolute values, square roots.
-- What is linear over ℤ is `omega (arith, ints)`, with `ints` of borrow.Author.Differences; the laws below named so are for use as terms.
-- Assumes nothing.
use Rattle.std.proofs.Common.{◌≡◌, ℕ, zero, suc, ◌+◌, ◌-◌, ◌*◌, ◌^◌, ◌<◌, ◌≤◌, ◌⊎◌, ℤ, pos, negsuc, ◌+ℤ◌, ◌-ℤ◌, ◌*ℤ◌, neg_ℤ, nat_abs, ◌≤ℤ◌, ◌<ℤ◌, sym, refl, ap, ◌∙◌, subst, inl, inr, le_trans, mul-le-mul, mul-le-mul_left, arith, to_z-of_z, SFits, to_z, of_z}
use native.Mathlib.Decide.{dec_le}
use lib.IntN.{*ℤ-zero}
use lib.Signed.{mag, nat_abs-le}
use mir.Syntax.{Width}
use mir.Val.{hbits}
use borrow.Author.Differences.{ints}
use Rattle.rounding.proofs.Ring.{con, ◌⊕◌, ◌⊖◌, ◌⊗◌, ring₂, ring₃}

-- ---- the order of ℤ

pub ≤ℤ_trans : {a b c : ℤ} → a ≤ℤ b → b ≤ℤ c → a ≤ℤ c
≤ℤ_trans {a} {b} {c} h k = omega (arith, ints)

pub ≤ℤ_antisym : {a b : ℤ} → a ≤ℤ b → b ≤ℤ a → a ≡ b
≤ℤ_antisym {a} {b} h k = omega (arith, ints)

pub ≤ℤ_of_≡ : {a b : ℤ} → a ≡ b → a ≤ℤ b
≤ℤ_of_≡ {a} {b} e = omega (arith, ints)

pub ≤ℤ_cases : (a b : ℤ) → (a ≤ℤ b) ⊎ (b <ℤ a)
≤ℤ_cases (pos a) (pos b) = elim (dec_le a b) [ yes h ↦ inl (omega (arith, ints)) | no h ↦ inr (omega (arith, ints)) ]
≤ℤ_cases (pos a) (negsuc b) = inr (omega (arith, ints))
≤ℤ_cases (negsuc a) (pos b) = inl (omega (arith, ints))
≤ℤ_cases (negsuc a) (negsuc b) = elim (dec_le b a) [ yes h ↦ inl (omega (arith, ints)) | no h ↦ inr (omega (arith, ints)) ]

pub pos_le : {m n : ℕ} → m ≤ n → pos m ≤ℤ pos n
pos_le {m} {n} h = omega (arith, ints)

pub pos_le_out : {m n : ℕ} → pos m ≤ℤ pos n → m ≤ n
pos_le_out {m} {n} h = omega (arith, ints)

pub pos_nonneg : (n : ℕ) → pos 0 ≤ℤ pos n
pos_nonneg n = omega (arith, ints)

pub +ℤ_mono : {a b c d : ℤ} → a ≤ℤ b → c ≤ℤ d → (a +ℤ c) ≤ℤ (b +ℤ d)
+ℤ_mono {a} {b} {c} {d} h k = omega (arith, ints)

pub negℤ_anti : {a b : ℤ} → a ≤ℤ b → neg_ℤ b ≤ℤ neg_ℤ a
negℤ_anti {a} {b} h = omega (arith, ints)

pub +ℤ_nonneg : {a b : ℤ} → pos 0 ≤ℤ a → pos 0 ≤ℤ b → pos 0 ≤ℤ (a +ℤ b)
+ℤ_nonneg {a} {b} h k = omega (arith, ints)

-- a ≤ b since b is a + r, with r not negative: r a sum of squares, and the equation by `Ring`
pub ≤ℤ_by : {a b : ℤ} (r : ℤ) → b ≡ a +ℤ r → pos 0 ≤ℤ r → a ≤ℤ b
≤ℤ_by {a} {b} r e h = omega (arith, ints)

pub diff_nonneg : {a b : ℤ} → a ≤ℤ b → pos 0 ≤ℤ (b -ℤ a)
diff_nonneg {a} {b} h = omega (arith, ints)

pub ≤ℤ_of_diff : {a b : ℤ} → pos 0 ≤ℤ (b -ℤ a) → a ≤ℤ b
≤ℤ_of_diff {a} {b} h = omega (arith, ints)

-- an integer that is not negative is a natural
pub is_pos : (a : ℤ) → pos 0 ≤ℤ a → (n : ℕ) × (a ≡ pos n)
is_pos (pos n) h = (n, refl)
is_pos (negsuc n) h = absurd h.le

pub *ℤ_nonneg : {a b : ℤ} → pos 0 ≤ℤ a → pos 0 ≤ℤ b → pos 0 ≤ℤ (a *ℤ b)
*ℤ_nonneg {a} {b} h k = let (m, p) = is_pos a h in let (n, q) = is_pos b k in rw (p, q) (pos_nonneg (m * n))

pub square_nonneg : (x : ℤ) → pos 0 ≤ℤ (x *ℤ x)
square_nonneg (pos n) = pos_nonneg (n * n)
square_nonneg (negsuc n) = pos_nonneg (suc n * suc n)

pub *ℤ_mono_left : {a b : ℤ} (c : ℤ) → pos 0 ≤ℤ c → a ≤ℤ b → (c *ℤ a) ≤ℤ (c *ℤ b)
*ℤ_mono_left {a} {b} c h k = ≤ℤ_by (c *ℤ (b -ℤ a)) (ring₃ (λ a b c. c ⊗ b) (λ a b c. c ⊗ a ⊕ c ⊗ (b ⊖ a)) refl a b c) (*ℤ_nonneg h (diff_nonneg k))

pub *ℤ_mono_right : {a b : ℤ} (c : ℤ) → pos 0 ≤ℤ c → a ≤ℤ b → (a *ℤ c) ≤ℤ (b *ℤ c)
*ℤ_mono_right {a} {b} c h k = ≤ℤ_by ((b -ℤ a) *ℤ c) (ring₃ (λ a b c. b ⊗ c) (λ a b c. a ⊗ c ⊕ (b ⊖ a) ⊗ c) refl a b c) (*ℤ_nonneg (diff_nonneg k) h)

pub *ℤ_mono : {a b c d : ℤ} → pos 0 ≤ℤ c → pos 0 ≤ℤ b → a ≤ℤ b → c ≤ℤ d → (a *ℤ c) ≤ℤ (b *ℤ d)
*ℤ_mono {a} {b} {c} {d} h k p q = ≤ℤ_trans (*ℤ_mono_right c h p) (*ℤ_mono_left b k q)

pub *ℤ_cancel : {a b : ℤ} (c : ℤ) → pos 0 <ℤ c → (c *ℤ a) ≤ℤ (c *ℤ b) → a ≤ℤ b
*ℤ_cancel {a} {b} c h k = elim (≤ℤ_cases a b) [ inl p ↦ p | inr p ↦ absurd (apart (c *ℤ a) (c *ℤ b) c h k (*ℤ_mono_left c (weak c h) (next b a p)) (ring₂ (λ b c. c ⊗ (b ⊕ con (pos 1))) (λ b c. c ⊗ b ⊕ c) refl b c)) ]
  where
    weak : (c : ℤ) → pos 0 <ℤ c → pos 0 ≤ℤ c
    weak c h = omega (arith, ints)

    next : (b a : ℤ) → b <ℤ a → (b +ℤ pos 1) ≤ℤ a
    next b a h = omega (arith, ints)

    apart : (s t c : ℤ) {u : ℤ} → pos 0 <ℤ c → s ≤ℤ t → u ≤ℤ s → u ≡ t +ℤ c → ⊥
    apart s t c {u} h k m e = omega (arith, ints)

-- ---- absolute values

pub nat_abs_neg : (x : ℤ) → nat_abs (neg_ℤ x) ≡ nat_abs x
nat_abs_neg (pos zero) = refl
nat_abs_neg (pos (suc n)) = refl
nat_abs_neg (negsuc n) = refl

pub nat_abs_mul : (x y : ℤ) → nat_abs (x *ℤ y) ≡ nat_abs x * nat_abs y
nat_abs_mul (pos a) (pos b) = refl
nat_abs_mul (pos a) (negsuc b) = nat_abs_neg (pos (a * suc b))
nat_abs_mul (negsuc a) (pos b) = nat_abs_neg (pos (suc a * b))
nat_abs_mul (negsuc a) (negsuc b) = refl

pub nat_abs_add : (x y : ℤ) → nat_abs (x +ℤ y) ≤ nat_abs x + nat_abs y
nat_abs_add x y = omega (arith, ints)

pub nat_abs_sub : (x y : ℤ) → nat_abs (x -ℤ y) ≤ nat_abs x + nat_abs y
nat_abs_sub x y = omega (arith, ints)

pub nat_abs_square : (x : ℤ) → pos (nat_abs x * nat_abs x) ≡ x *ℤ x
nat_abs_square (pos n) = refl
nat_abs_square (negsuc n) = refl

pub le_nat_abs : (x : ℤ) → x ≤ℤ pos (nat_abs x)
le_nat_abs x = omega (arith, ints)

pub neg_nat_abs_le : (x : ℤ) → neg_ℤ (pos (nat_abs x)) ≤ℤ x
neg_nat_abs_le x = omega (arith, ints)

pub nat_abs_within : (x : ℤ) (n : ℕ) → neg_ℤ (pos n) ≤ℤ x → x ≤ℤ pos n → nat_abs x ≤ n
nat_abs_within x n h k = omega (arith, ints)

pub mag_le_nat_abs : (x : ℤ) → mag x ≤ nat_abs x
mag_le_nat_abs (pos n) = omega arith
mag_le_nat_abs (negsuc n) = omega arith

-- bounds of sums and products, and from such a bound the range of a signed width
pub nat_abs_add_le : (x y : ℤ) (m n : ℕ) → nat_abs x ≤ m → nat_abs y ≤ n → nat_abs (x +ℤ y) ≤ m + n
nat_abs_add_le x y m n h k = omega (arith, nat_abs_add x y)

pub nat_abs_sub_le : (x y : ℤ) (m n : ℕ) → nat_abs x ≤ m → nat_abs y ≤ n → nat_abs (x -ℤ y) ≤ m + n
nat_abs_sub_le x y m n h k = omega (arith, nat_abs_sub x y)

pub nat_abs_mul_le : (x y : ℤ) (m n : ℕ) → nat_abs x ≤ m → nat_abs y ≤ n → nat_abs (x *ℤ y) ≤ m * n
nat_abs_mul_le x y m n h k = rw nat_abs_mul (mul-le-mul h k)

pub nat_abs_of_fits : (w : Width) (z : ℤ) → SFits w z → nat_abs z ≤ 2 ^ hbits w
nat_abs_of_fits w z h = nat_abs-le z h.sfits

pub fits_of : (w : Width) (z : ℤ) → nat_abs z < 2 ^ hbits w → SFits w z
fits_of w z h = record { sfits = omega (arith, mag_le_nat_abs z) }

-- a number that went to bits and is read again, as MIR has each cast and each result: z is known to be z', which fits
abbrev pub back : Width → ℤ → ℤ
back w z = to_z w (of_z w z)

pub read_back : (w : Width) {z z' : ℤ} → z ≡ z' → SFits w z' → back w z ≡ z'
read_back w {z} {z'} e f = ap (back w) e ∙ to_z-of_z f

-- ---- squares over ℕ

pub sq_mono : {a b : ℕ} → a ≤ b → a * a ≤ b * b
sq_mono h = mul-le-mul h h

pub sq_le : (a b : ℕ) → a * a ≤ b * b → a ≤ b
sq_le a b h = elim (dec_le a b) [ yes p ↦ p | no p ↦ (let q : suc b * suc b ≤ a * a = sq_mono {a = suc b} (omega arith) in omega arith) ]

pub sq_lt : (a b : ℕ) → a * a < b * b → a < b
sq_lt a b h = elim (dec_le b a) [ yes p ↦ (let q : b * b ≤ a * a = sq_mono p in omega arith) | no p ↦ omega arith ]

-- |x| ≤ |y| from x² ≤ y², and |x| ≤ n from x² ≤ n²
pub nat_abs_sq_le : (x y : ℤ) → (x *ℤ x) ≤ℤ (y *ℤ y) → nat_abs x ≤ nat_abs y
nat_abs_sq_le x y h = sq_le (nat_abs x) (nat_abs y) (pos_le_out (rw (nat_abs_square x, nat_abs_square y) h))

pub nat_abs_sq_within : (x : ℤ) (n : ℕ) → (x *ℤ x) ≤ℤ pos (n * n) → nat_abs x ≤ n
nat_abs_sq_within x n h = nat_abs_sq_le x (pos n) h

-- 2 a b ≤ a² + b² and 4 a b ≤ (a + b)²
pub twice_mul_le : (a b : ℕ) → 2 * (a * b) ≤ a * a + b * b
twice_mul_le a b = pos_le_out (≤ℤ_by ((pos a -ℤ pos b) *ℤ (pos a -ℤ pos b)) (ring₂ (λ a b. a ⊗ a ⊕ b ⊗ b) (λ a b. con (pos 2) ⊗ (a ⊗ b) ⊕ (a ⊖ b) ⊗ (a ⊖ b)) refl (pos a) (pos b)) (square_nonneg (pos a -ℤ pos b)))

pub four_mul_le : (a b : ℕ) → 4 * (a * b) ≤ (a + b) * (a + b)
four_mul_le a b = omega (arith, twice_mul_le a b)

-- ---- roots over ℕ

-- √a ≤ √b + √c: a ≤ b + c + 2 √(b c), so a - b - c is negative or its square is at most 4 b c. The `-` of ℕ says both in one
abbrev pub RootLe : ℕ → ℕ → ℕ → Type 0
RootLe a b c = (a - (b + c)) * (a - (b + c)) ≤ 4 * (b * c)

pub root_le : (a b c : ℕ) → (a ≤ b + c) ⊎ ((a - b - c) * (a - b - c) ≤ 4 * (b * c)) → RootLe a b c
root_le a b c (inl h) = let e : a - (b + c) ≡ 0 = omega arith in rw e (omega arith)
root_le a b c (inr h) = let e : a - (b + c) ≡ a - b - c = omega arith in rw e h

pub root_leℤ : (a b c : ℕ) → ((pos a -ℤ pos b -ℤ pos c) *ℤ (pos a -ℤ pos b -ℤ pos c)) ≤ℤ pos (4 * (b * c)) → RootLe a b c
root_leℤ a b c h =
    let d = pos a -ℤ pos b -ℤ pos c in
    let k : a - (b + c) ≤ nat_abs d = near a b c in
    le_trans (sq_mono k) (pos_le_out (rw (nat_abs_square d) h))
  where
    near : (a b c : ℕ) → a - (b + c) ≤ nat_abs (pos a -ℤ pos b -ℤ pos c)
    near a b c = omega (arith, ints)

below_twice : (d b c x y : ℕ) → d * d ≤ 4 * (b * c) → b ≤ x * x → c ≤ y * y → d ≤ 2 * (x * y)
below_twice d b c x y h p q = let k : b * c ≤ x * x * (y * y) = mul-le-mul p q in sq_le d (2 * (x * y)) (omega arith)

-- √a ≤ √b + √c ≤ x + y
pub root_sum : (a b c x y : ℕ) → RootLe a b c → b ≤ x * x → c ≤ y * y → a ≤ (x + y) * (x + y)
root_sum a b c x y h p q = let k : a - (b + c) ≤ 2 * (x * y) = below_twice (a - (b + c)) b c x y h p q in above (x * y) k
  where
    above : (m : ℕ) → a - (b + c) ≤ 2 * (x * y) → a ≤ (x + y) * (x + y)
    above m k = omega arith

pub root_sum_or : (a b c x y : ℕ) → (a ≤ b + c) ⊎ ((a - b - c) * (a - b - c) ≤ 4 * (b * c)) → b ≤ x * x → c ≤ y * y → a ≤ (x + y) * (x + y)
root_sum_or a b c x y h p q = root_sum a b c x y (root_le a b c h) p q

-- a smaller left side, larger right sides
pub root_mono : (a b c a' b' c' : ℕ) → a' ≤ a → b ≤ b' → c ≤ c' → RootLe a b c → RootLe a' b' c'
root_mono a b c a' b' c' p q r h = let s : a' - (b' + c') ≤ a - (b + c) = omega arith in le_trans (sq_mono s) (le_trans h (mul-le-mul_left 4 (mul-le-mul q r)))

pub root_sum_below : (a' a b c x y : ℕ) → a' ≤ a → RootLe a b c → b ≤ x * x → c ≤ y * y → a' ≤ (x + y) * (x + y)
root_sum_below a' a b c x y l h p q = le_trans l (root_sum a b c x y h p q)

-- and the converse at squares
pub root_of : (a x y : ℕ) → a ≤ (x + y) * (x + y) → RootLe a (x * x) (y * y)
root_of a x y h = let k : a - (x * x + y * y) ≤ 2 * (x * y) = omega arith in le_trans (sq_mono k) (last x y)
  where
    last : (x y : ℕ) → 2 * (x * y) * (2 * (x * y)) ≤ 4 * (x * x * (y * y))
    last x y = omega arith

-- a chain: √a ≤ √b + √c and √c ≤ √d + √e
pub root_sum₃ : (a b c d e x y z : ℕ) → RootLe a b c → RootLe c d e → b ≤ x * x → d ≤ y * y → e ≤ z * z → a ≤ (x + (y + z)) * (x + (y + z))
root_sum₃ a b c d e x y z h k p q r = root_sum a b c x (y + z) h p (root_sum c d e y z k q r)

-- ---- combinations: what `Ring` proves of the differences, with facts at hand

pub pos_sub : {m n : ℕ} → n ≤ m → pos (m - n) ≡ pos m -ℤ pos n
pos_sub {m} {n} h = omega (arith, ints)

-- a ≡ b since a - b is k times c - d, with c ≡ d
pub ≡_by : {a b c d : ℤ} (k : ℤ) → c ≡ d → a -ℤ b ≡ k *ℤ (c -ℤ d) → a ≡ b
≡_by {a} {b} {c} {d} k h e = last a b (e ∙ ap (λ z. k *ℤ z) (none c d h) ∙ *ℤ-zero k)
  where
    none : (c d : ℤ) → c ≡ d → c -ℤ d ≡ pos 0
    none c d h = omega (arith, ints)

    last : (a b : ℤ) → a -ℤ b ≡ pos 0 → a ≡ b
    last a b h = omega (arith, ints)

-- a ≤ b since b - a is k times d - c and r, with c ≤ d, and with k and r not negative
pub ≤ℤ_by_multiple : {a b c d : ℤ} (k r : ℤ) → pos 0 ≤ℤ k → c ≤ℤ d → pos 0 ≤ℤ r → b -ℤ a ≡ k *ℤ (d -ℤ c) +ℤ r → a ≤ℤ b
≤ℤ_by_multiple {a} {b} {c} {d} k r p h q e = ≤ℤ_of_diff (subst (λ z. pos 0 ≤ℤ z) (sym e) (+ℤ_nonneg (*ℤ_nonneg p (diff_nonneg h)) q))
