-- The static method: each shear lies less than 1 from the exact one, the first is the base shear, none is larger. Assumes nothing.
use Rattle.std.proofs.Common.{◌≡◌, ℕ, suc, ◌+◌, ◌-◌, ◌*◌, ◌<◌, ◌≤◌, List, [], ◌∷◌, length, drop, inl, inr, mul-le-mul, mul-le-mul_left, arith}
use Rattle.std.proofs.lemmas.Bool.{cases_lt}
use Rattle.rounding.specs.Rounding.{gap, nearest}
use Rattle.rounding.proofs.Rounding.{close, whole}
use Rattle.standard.specs.declared.fraction.Fraction.{Fraction}
use Rattle.base_shear.specs.Accelerations.{Acceleration}
use Rattle.formulas.specs.declared.floor.Floor.{Floor}
use Rattle.formulas.specs.Buildings.{Built, W, heaviest, up_from}
use Rattle.formulas.specs.Static.{S, static_shear, StaticNear}
use Rattle.formulas.specs.Theorems.{StaticTheorems}
use Rattle.formulas.proofs.Sums.{sum_n_drop}
use Rattle.formulas.proofs.Quotients.{nearest_at_most}

-- ---- sums

floor_some : (w h : ℕ) → 1 ≤ w → 1 ≤ h → 1 ≤ w * (h * h)
floor_some w h p q = mul-le-mul p (mul-le-mul q q)

pub static_some : (fs : List Floor) → Built fs → 1 ≤ length fs → 1 ≤ S fs
static_some [] b h = omega arith
static_some (f ∷ fs) b h = omega (arith, floor_some f.weight f.height b.0.0 b.0.1)

-- above the first storey there is less
less_after : (fs : List Floor) (k : ℕ) → Built fs → 1 ≤ length fs → S (drop (suc k) fs) < S fs
less_after [] k b h = omega arith
less_after (f ∷ fs) k b h = omega (arith, floor_some f.weight f.height b.0.0 b.0.1, sum_n_drop (λ f. f.weight * (f.height * f.height)) k fs)

less_above : (fs : List Floor) (i : ℕ) → 2 ≤ i → Built fs → 1 ≤ length fs → S (up_from i fs) < S fs
less_above fs i l b h = let e : i - 1 ≡ suc (i - 2) = omega arith in rw e (less_after fs (i - 2) b h)

-- ---- distances

-- a number b nearest to n w / d, and v nearest to b s / t, with s below t: v lies less than 1 from n w s / d t
twice_rounded : (n d w b v s t : ℕ) → 1 ≤ d → s < t → 2 * gap (b * d) (n * w) ≤ d → 2 * gap (v * t) (b * s) ≤ t → gap (v * (d * t)) (n * w * s) < d * t
twice_rounded n d w b v s t p l hb hv =
    let v₁ : 2 * (v * t) ≤ 2 * (b * s) + t = omega arith in
    let v₂ : 2 * (b * s) ≤ 2 * (v * t) + t = omega arith in
    let b₁ : 2 * (b * d) ≤ 2 * (n * w) + d = omega arith in
    let b₂ : 2 * (n * w) ≤ 2 * (b * d) + d = omega arith in
    omega (arith, mul-le-mul_left d v₁, mul-le-mul_left d v₂, mul-le-mul_left s b₁, mul-le-mul_left s b₂, mul-le-mul_left d l)

-- where s is t, v is b
once_rounded : (n d w b t : ℕ) → 1 ≤ d → 1 ≤ t → 2 * gap (b * d) (n * w) ≤ d → gap (b * (d * t)) (n * w * t) < d * t
once_rounded n d w b t p l hb =
    let b₁ : 2 * (b * d) ≤ 2 * (n * w) + d = omega arith in
    let b₂ : 2 * (n * w) ≤ 2 * (b * d) + d = omega arith in
    let q : 1 ≤ d * t = mul-le-mul p l in
    omega (arith, mul-le-mul_left t b₁, mul-le-mul_left t b₂)

pub static_base : (b : ℕ) (fs : List Floor) → Built fs → 1 ≤ length fs → static_shear b fs 1 ≡ b
static_base b fs built h = whole b (S fs) (static_some fs built h)

module _ (a : Fraction) (fs : List Floor) (p : 1 ≤ a.denominator) (built : Built fs) where
  abbrev base : ℕ
  base = nearest (a.numerator * W fs) a.denominator

  base_close : 2 * gap (base * a.denominator) (a.numerator * W fs) ≤ a.denominator
  base_close = close (a.numerator * W fs) a.denominator p

  near_first : 1 ≤ length fs → StaticNear a fs 1 (static_shear base fs 1)
  near_first h = rw (static_base base fs built h) (omega (arith, once_rounded a.numerator a.denominator (W fs) base (S fs) p (static_some fs built h) base_close))

  near_above : (i : ℕ) → 2 ≤ i → 1 ≤ length fs → StaticNear a fs i (static_shear base fs i)
  near_above i l h =
      let c : 2 * gap (static_shear base fs i * S fs) (base * S (up_from i fs)) ≤ S fs = omega (arith, close (base * S (up_from i fs)) (S fs) (static_some fs built h)) in
      omega (arith, twice_rounded a.numerator a.denominator (W fs) base (static_shear base fs i) (S (up_from i fs)) (S fs) p (less_above fs i l built h) base_close c)

pub static_near : (a : Fraction) (fs : List Floor) (i : ℕ) → 1 ≤ a.denominator → Built fs → 1 ≤ i → i ≤ length fs → StaticNear a fs i (static_shear (nearest (a.numerator * W fs) a.denominator) fs i)
static_near a fs i p built l h = elim (cases_lt 1 i) [ inl k ↦ near_above a fs p built i k (omega arith) | inr k ↦ (let e : i ≡ 1 = omega arith in rw e (near_first a fs p built (omega arith))) ]

-- ---- sizes

pub static_size : (b : ℕ) (fs : List Floor) (i : ℕ) → Built fs → 1 ≤ length fs → static_shear b fs i ≤ b
static_size b fs i built h = nearest_at_most (b * S (up_from i fs)) (S fs) b (static_some fs built h) (mul-le-mul_left b (sum_n_drop (λ f. f.weight * (f.height * f.height)) (i - 1) fs))

pub base_size_lem : (a : Fraction) (fs : List Floor) → Acceleration a → W fs ≤ heaviest → nearest (a.numerator * W fs) a.denominator ≤ 720000
base_size_lem a fs lawful small = nearest_at_most (a.numerator * W fs) a.denominator 720000 lawful.0 (omega (arith, mul-le-mul_left a.numerator small, lawful.1))

pub static_theorems : StaticTheorems
static_theorems = record { near = static_near; base = static_base; size = static_size; base_size = base_size_lem; some = static_some }
