-- The modal method: sizes of modal weights and shears, and how far they lie from the exact ones. Assumes nothing.
use Rattle.std.proofs.Common.{◌≡◌, ℕ, zero, suc, ◌+◌, ◌-◌, ◌*◌, ◌≤◌, List, [], ◌∷◌, length, drop, ℤ, pos, ◌+ℤ◌, ◌-ℤ◌, ◌*ℤ◌, nat_abs, sym, refl, ap, subst, le_trans, mul-le-mul_right, mul-le-mul, mul-le-mul_left, arith}
use Rattle.rounding.specs.Sums.{weight, first, second_n}
use Rattle.rounding.proofs.Ring.{◌⊕◌, ◌⊖◌, ◌⊗◌, ring₆}
use Rattle.rounding.proofs.Order.{nat_abs_add, nat_abs_mul, sq_le}
use Rattle.rounding.proofs.Cauchy.{cauchy_weighted_n}
use Rattle.rounding.proofs.Rounding.{closeℤ}
use Rattle.std.specs.List.{AllByRecursion}
use Rattle.standard.specs.declared.fraction.Fraction.{Fraction}
use Rattle.base_shear.specs.Accelerations.{Acceleration}
use Rattle.combination.specs.Values.{total}
use Rattle.formulas.specs.declared.floor.Floor.{Floor}
use Rattle.formulas.specs.Buildings.{Mode, W, heaviest}
use Rattle.formulas.specs.Modal.{paired, L, M, modal_weight_of, modal_shear_of, storey_values_of}
use Rattle.formulas.specs.Theorems.{Usable, ModalTheorems}
use Rattle.formulas.proofs.Sums.{sum_n_drop}
use Rattle.formulas.proofs.Quotients.{nearestℤ_at_most}

-- ---- sizes

weight_paired : (fs : List Floor) (φ : List ℤ) → weight (paired fs φ) ≤ W fs
weight_paired [] φ = omega arith
weight_paired (f ∷ fs) [] = omega arith
weight_paired (f ∷ fs) (y ∷ φ) = omega (arith, weight_paired fs φ)

drop_paired : (k : ℕ) (fs : List Floor) (φ : List ℤ) → paired (drop k fs) (drop k φ) ≡ drop k (paired fs φ)
drop_paired zero fs φ = refl
drop_paired (suc k) [] φ = refl
drop_paired (suc k) (f ∷ fs) [] = none (drop k fs)
  where
    none : (fs : List Floor) → paired fs [] ≡ []
    none [] = refl
    none (f ∷ fs) = refl
drop_paired (suc k) (f ∷ fs) (y ∷ φ) = drop_paired k fs φ

-- from any storey on, the square of the sum of weight × ordinate is at most what it can be for the whole building
first_size : (fs : List Floor) (φ : List ℤ) (k : ℕ) → nat_abs (first (paired (drop k fs) (drop k φ))) * nat_abs (first (paired (drop k fs) (drop k φ))) ≤ W fs * M fs φ
first_size fs φ k =
    let a : weight (drop k (paired fs φ)) ≤ W fs = le_trans (sum_n_drop (λ x. x.0) k (paired fs φ)) (weight_paired fs φ) in
    let b : second_n (drop k (paired fs φ)) ≤ M fs φ = sum_n_drop (λ x. x.0 * (nat_abs x.1 * nat_abs x.1)) k (paired fs φ) in
    subst (λ (l : List (ℕ × ℤ)). nat_abs (first l) * nat_abs (first l) ≤ W fs * M fs φ) (sym (drop_paired k fs φ)) (le_trans (cauchy_weighted_n (drop k (paired fs φ))) (mul-le-mul a b))

product_le : (x y n : ℕ) → x * x ≤ n → y * y ≤ n → x * y ≤ n
product_le x y n p q = sq_le (x * y) n (omega (arith, mul-le-mul p q))

pub modal_product : (fs : List Floor) (φ : List ℤ) (i : ℕ) → nat_abs (L fs φ 1 *ℤ L fs φ i) ≤ M fs φ * W fs
modal_product fs φ i =
    let h = product_le (nat_abs (L fs φ 1)) (nat_abs (L fs φ i)) (W fs * M fs φ) (first_size fs φ 0) (first_size fs φ (i - 1)) in
    omega (arith, h, nat_abs_mul (L fs φ 1) (L fs φ i))

pub weight_size_lem : (fs : List Floor) (φ : List ℤ) (i : ℕ) → 1 ≤ M fs φ → nat_abs (modal_weight_of fs φ i) ≤ W fs
weight_size_lem fs φ i p = omega (arith, nearestℤ_at_most (L fs φ 1 *ℤ L fs φ i) (M fs φ) (W fs) p (omega (arith, modal_product fs φ i)))

pub shear_size_lem : (a : Fraction) (fs : List Floor) (φ : List ℤ) (i : ℕ) → Acceleration a → 1 ≤ M fs φ → W fs ≤ heaviest → nat_abs (modal_shear_of a fs φ i) ≤ 720000
shear_size_lem a fs φ i lawful p small =
    let m : nat_abs (modal_weight_of fs φ i) ≤ heaviest = le_trans (weight_size_lem fs φ i p) small in
    nearestℤ_at_most (pos a.numerator *ℤ modal_weight_of fs φ i) a.denominator 720000 lawful.0 (omega (arith, nat_abs_mul (pos a.numerator) (modal_weight_of fs φ i), mul-le-mul_left a.numerator m, lawful.1))

sizes : (a : ℕ → Fraction) (fs : List Floor) (i : ℕ) → W fs ≤ heaviest → (ms : List Mode) → AllByRecursion (λ m. Acceleration (a m.period) × (1 ≤ M fs m.ordinates)) ms → total (storey_values_of a fs ms i) ≤ 720000 * length ms
unfolding storey_values_of
sizes a fs i small [] h = omega arith
sizes a fs i small (m ∷ ms) h = omega (arith, sizes a fs i small ms h.1, shear_size_lem (a m.period) fs m.ordinates i h.0.0 h.0.1 small)

pub total_size_lem : (a : ℕ → Fraction) (fs : List Floor) (ms : List Mode) (i : ℕ) → Usable a fs ms → W fs ≤ heaviest → total (storey_values_of a fs ms i) ≤ 6480000
total_size_lem a fs ms i h small = omega (arith, sizes a fs i small ms h.1, h.0)

pub modal_theorems : ModalTheorems
modal_theorems = record { product = modal_product; weight_size = weight_size_lem; shear_size = shear_size_lem; total_size = total_size_lem }

-- ---- distances

-- how far a modal shear may lie from the exact one, in hundredths
abbrev pub slack : ℕ
slack = 122

-- a number m near P / M, and v near n m / d
twice_rounded : (v m P : ℤ) (n d M : ℕ) → 2 * nat_abs (v *ℤ pos d -ℤ pos n *ℤ m) ≤ d → 2 * nat_abs (m *ℤ pos M -ℤ P) ≤ M → 2 * nat_abs (v *ℤ pos (d * M) -ℤ pos n *ℤ P) ≤ (d + n) * M
twice_rounded v m P n d M hv hm =
    let e : v *ℤ pos (d * M) -ℤ pos n *ℤ P ≡ (v *ℤ pos d -ℤ pos n *ℤ m) *ℤ pos M +ℤ pos n *ℤ (m *ℤ pos M -ℤ P) = ring₆ (λ v m P n d M. v ⊗ (d ⊗ M) ⊖ n ⊗ P) (λ v m P n d M. (v ⊗ d ⊖ n ⊗ m) ⊗ M ⊕ n ⊗ (m ⊗ M ⊖ P)) refl v m P (pos n) (pos d) (pos M) in
    last (nat_abs (v *ℤ pos d -ℤ pos n *ℤ m)) (nat_abs (m *ℤ pos M -ℤ P)) _ _ _ (ap nat_abs e) (nat_abs_add ((v *ℤ pos d -ℤ pos n *ℤ m) *ℤ pos M) (pos n *ℤ (m *ℤ pos M -ℤ P))) (nat_abs_mul (v *ℤ pos d -ℤ pos n *ℤ m) (pos M)) (nat_abs_mul (pos n) (m *ℤ pos M -ℤ P)) hv hm
  where
    last : (x y s t z : ℕ) {u : ℕ} → z ≡ u → u ≤ s + t → s ≡ x * M → t ≡ n * y → 2 * x ≤ d → 2 * y ≤ M → 2 * z ≤ (d + n) * M
    last x y s t z {u} e h p q hx hy = omega (arith, mul-le-mul_right M hx, mul-le-mul_left n hy)

-- at most half of 1 + A
pub modal_close : (a : Fraction) (fs : List Floor) (φ : List ℤ) (i : ℕ) → 1 ≤ a.denominator → 1 ≤ M fs φ → 2 * nat_abs (modal_shear_of a fs φ i *ℤ pos (a.denominator * M fs φ) -ℤ pos a.numerator *ℤ (L fs φ 1 *ℤ L fs φ i)) ≤ (a.denominator + a.numerator) * M fs φ
modal_close a fs φ i p q = twice_rounded (modal_shear_of a fs φ i) (modal_weight_of fs φ i) (L fs φ 1 *ℤ L fs φ i) a.numerator a.denominator (M fs φ) (closeℤ (pos a.numerator *ℤ modal_weight_of fs φ i) a.denominator p) (closeℤ (L fs φ 1 *ℤ L fs φ i) (M fs φ) q)

near : (z n d m : ℕ) → 25 * n ≤ 36 * d → 2 * z ≤ (d + n) * m → 100 * z ≤ slack * (d * m)
near z n d m h k = omega (arith, mul-le-mul_right m h)

pub modal_near : (a : Fraction) (fs : List Floor) (φ : List ℤ) (i : ℕ) → Acceleration a → 1 ≤ M fs φ → 100 * nat_abs (modal_shear_of a fs φ i *ℤ pos (a.denominator * M fs φ) -ℤ pos a.numerator *ℤ (L fs φ 1 *ℤ L fs φ i)) ≤ slack * (a.denominator * M fs φ)
modal_near a fs φ i lawful q = near _ a.numerator a.denominator (M fs φ) lawful.1 (modal_close a fs φ i lawful.0 q)
