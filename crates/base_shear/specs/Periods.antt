-- The period of a building: the least whole number of milliseconds that passes the formula's test.
use Rattle.std.specs.Prelude.{◌≡◌, ℕ, ◌+◌, ◌*◌, ◌^◌, ◌≤◌, Bool, true, nat_lt}
use Rattle.rounding.specs.Least.{Least, smallest}
use Rattle.standard.specs.declared.terms.Formula.{Formula}
use Rattle.standard.specs.declared.terms.Formula.TheVariants.{ConcreteFrame, SteelFrame, Other}
use Rattle.standard.specs.Sites.{base_listed, formula_value, formula_base}

-- whether t and a half is above the period that the formula gives for the height h
abbrev pub passes : Formula → ℕ → ℕ → Bool
passes ConcreteFrame h t = nat_lt (506250 * h ^ 3) ((2 * t + 1) ^ 4)
passes SteelFrame h t = nat_lt (835210 * h ^ 3) ((2 * t + 1) ^ 4)
passes (Other base) h t = nat_lt (3240 * h ^ 2) ((2 * t + 1) ^ 2 * base)

-- a number that passes, so that a search for the least one ends
abbrev pub enough : Formula → ℕ → ℕ
enough ConcreteFrame h = 506250 * h ^ 3
enough SteelFrame h = 835210 * h ^ 3
enough (Other base) h = 3240 * h ^ 2

unfoldable pub period_of : Formula → ℕ → ℕ
period_of f h = smallest (passes f h) (enough f h)

-- t is the period of a building of height h
abbrev pub IsPeriod : Formula → ℕ → ℕ → Type 0
IsPeriod f h t = Least (λ s. passes f h s ≡ true) t

-- a formula whose base dimension is one that goes with it
abbrev pub BaseGoes : Formula → Type 0
BaseGoes f = base_listed (formula_value f) (formula_base f) ≡ true

pub record PeriodLaw : Type 0 where
  pub least : (f : Formula) (h : ℕ) → BaseGoes f → IsPeriod f h (period_of f h)
  pub some : (f : Formula) (h : ℕ) → BaseGoes f → 20 ≤ h → 1 ≤ period_of f h
