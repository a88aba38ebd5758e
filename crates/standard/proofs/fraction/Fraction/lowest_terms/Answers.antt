use Rattle.std.proofs.Common.{◌≡◌, ℕ, ◌<◌, refl, subst, inl, inr, arith}
use Prim.Native.Nat.{◌∣◌}
use native.Mathlib.Nat.{eq-zero_of_zero-dvd}
use Rattle.standard.proofs.Fractions.{quotients_coprime, quotients_same, quotient_positive}
use Rattle.standard.proofs.fraction.Fraction.lowest_terms.Goals as goal

-- the fraction stays only where its denominator is 0
stays : (c : goal.Joined-then-self-eq0) → c.args.self.denominator ≡ 0
stays c =
    elim c.then-self-eq0.either [
      | inl z ↦ z
      | inr h ↦ eq-zero_of_zero-dvd (subst (λ (g : ℕ). g ∣ c.args.self.denominator) h.1 c.greatest_common_divisor-divisor.ensures.1)
    ]

pub returns-then-self-eq0 : goal.returns-then-self-eq0
returns-then-self-eq0 c = record { same = refl; lowest = λ h. let z = stays c in absurd (omega arith); kept = λ e. refl }

pub returns : goal.returns
returns c =
    let p : 0 < c.args.self.denominator = omega arith in
    let gcd = c.greatest_common_divisor-divisor.ensures in
    record {
      same = quotients_same _ _ _ gcd p;
      lowest = λ h. (quotient_positive _ _ _ gcd p, quotients_coprime _ _ _ gcd p);
      kept = λ e. absurd (omega arith);
    }
