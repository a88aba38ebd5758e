-- Fractions, compared by multiplying across.
use Rattle.std.specs.Prelude.{◌≡◌, ℕ, ◌*◌, ◌<◌, Bool, nat_lt}
use Rattle.std.specs.Int.{◌∣◌}
use Rattle.standard.specs.declared.fraction.Fraction.{Fraction}

abbrev pub fraction : ℕ → ℕ → Fraction
fraction n d = record { numerator = n; denominator = d }

-- of one value
abbrev pub Same : Fraction → Fraction → Type 0
Same f g = f.numerator * g.denominator ≡ g.numerator * f.denominator

-- f is below g
abbrev pub less : Fraction → Fraction → Bool
less f g = nat_lt (f.numerator * g.denominator) (g.numerator * f.denominator)

-- nothing but 1 divides both
abbrev pub Coprime : ℕ → ℕ → Type 0
Coprime m n = (k : ℕ) → k ∣ m → k ∣ n → k ≡ 1

-- r is f in lowest terms; a denominator of 0 stays
pub record LowestTerms (f r : Fraction) : Type 0 where
  pub same : Same r f
  pub lowest : 0 < f.denominator → (0 < r.denominator) × Coprime r.numerator r.denominator
  pub kept : f.denominator ≡ 0 → r ≡ f
