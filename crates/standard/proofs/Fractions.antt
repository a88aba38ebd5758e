-- A fraction over the greatest common divisor of its parts. Assumes nothing.
use Rattle.std.proofs.Common.{◌≡◌, ℕ, ◌*◌, ◌/◌, ◌<◌, sym, ap, subst, inl, inr, one-mul, arith}
use Prim.Native.Nat.{◌∣◌}
use native.Mathlib.Nat.{div-mul_cancel, mul-dvd-mul_right, dvd_of_mul-dvd-mul_right, eq-one_of_dvd-one, pos_of_dvd_of_pos}
use Rattle.std.proofs.lemmas.Bool.{cases_eq}
use Rattle.std.specs.Int.{IsGcd}
use Rattle.standard.specs.Fractions.{Coprime}

module _ (m n g : ℕ) (gcd : IsGcd m n g) (p : 0 < n) where
  positive : 0 < g
  positive = pos_of_dvd_of_pos gcd.1 p

  times : (k x : ℕ) → g ∣ x → k ∣ x / g → k * g ∣ x
  times k x d h = subst (λ (y : ℕ). k * g ∣ y) (div-mul_cancel g d) (mul-dvd-mul_right k h g)

  pub quotients_coprime : Coprime (m / g) (n / g)
  quotients_coprime k a b =
      let h : k * g ∣ 1 * g = subst (λ (y : ℕ). k * g ∣ y) (sym (one-mul g)) (gcd.2 (k * g) (times k m gcd.0 a) (times k n gcd.1 b)) in
      eq-one_of_dvd-one (dvd_of_mul-dvd-mul_right k positive h)

  pub quotients_same : m / g * n ≡ m * (n / g)
  quotients_same =
      let a = ap (λ (x : ℕ). x * (n / g)) (div-mul_cancel g gcd.0) in
      let b = ap (λ (x : ℕ). m / g * x) (div-mul_cancel g gcd.1) in
      omega (arith, a, b)

  pub quotient_positive : 0 < n / g
  quotient_positive = elim (cases_eq (n / g) 0) [ inl z ↦ (let e = div-mul_cancel g gcd.1 in let f = ap (λ (x : ℕ). x * g) z in omega (arith, e, f)) | inr h ↦ omega arith ]
