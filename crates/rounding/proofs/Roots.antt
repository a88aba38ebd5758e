-- The laws of `root`. Assumes nothing.
use Rattle.std.proofs.Common.{◌≡◌, ℕ, zero, suc, ◌+◌, ◌-◌, ◌*◌, ◌<◌, ◌≤◌, true, ltb, sym, inl, inr, arith}
use Rattle.std.proofs.lemmas.Bool.{ltb-true, lt-ltb, cases_lt}
use Rattle.rounding.specs.Least.{Least}
use Rattle.rounding.specs.Roots.{NearestRoot, root, RootLaws}
use Rattle.rounding.proofs.Least.{smallest_least}
use Rattle.rounding.proofs.Order.{sq_lt, sq_mono}

root_least : (q : ℕ) → Least (λ r. ltb (4 * q) ((2 * r + 1) * (2 * r + 1)) ≡ true) (root q)
unfolding root
root_least q = smallest_least (λ r. ltb (4 * q) ((2 * r + 1) * (2 * r + 1))) q (lt-ltb _ _ (omega arith))

-- two numbers nearest to one root are the same
same : (r s q : ℕ) → NearestRoot r q → NearestRoot s q → r ≤ s
same r s q a b = let l : 2 * r - 1 < 2 * s + 1 = sq_lt (2 * r - 1) (2 * s + 1) (omega (arith, a.low, b.high)) in omega arith

low : (q : ℕ) → (2 * root q - 1) * (2 * root q - 1) ≤ 4 * q
low q = elim (cases_lt (4 * q) ((2 * root q - 1) * (2 * root q - 1))) [ inl l ↦ absurd (clash (root q) (root_least q).1 l) | inr l ↦ l ]
  where
    clash : (r : ℕ) → ((s : ℕ) → ltb (4 * q) ((2 * s + 1) * (2 * s + 1)) ≡ true → r ≤ s) → 4 * q < (2 * r - 1) * (2 * r - 1) → ⊥
    clash zero least l = omega arith
    clash (suc r) least l = let e : 2 * suc r - 1 ≡ 2 * r + 1 = omega arith in omega (arith, least r (lt-ltb _ _ (rw e at l)))

pub near : (q : ℕ) → NearestRoot (root q) q
near q = record { low = low q; high = ltb-true _ _ (root_least q).0 }

-- v is nearest to the root of its square
pub near_square : (v : ℕ) → NearestRoot v (v * v)
near_square v = let h : 2 * v - 1 ≤ 2 * v = omega arith in record { low = omega (arith, sq_mono h); high = omega arith }

pub only : (r q : ℕ) → NearestRoot r q → r ≡ root q
only r q h = omega (arith, same r (root q) q h (near q), same (root q) r q (near q) h)

-- the root rounded down, and what is left of q, tell the nearest
pub root_above : (f q : ℕ) → q < (f + 1) * (f + 1) → f < q - f * f → root q ≡ f + 1
root_above f q h l = let e : 2 * (f + 1) - 1 ≡ 2 * f + 1 = omega arith in sym (only (f + 1) q (record { low = rw e (omega arith); high = omega arith }))

pub root_below : (f q : ℕ) → f * f ≤ q → q - f * f ≤ f → root q ≡ f
root_below f q h l = let e : 2 * f - 1 ≤ 2 * f = omega arith in sym (only f q (record { low = omega (arith, sq_mono e); high = omega arith }))

pub root_zero : (q : ℕ) → q ≡ 0 → root q ≡ 0
root_zero q e = root_below 0 q (omega arith) (omega arith)

pub ruleset rest_tells = (root_above, root_below, root_zero)

pub root_laws : RootLaws
root_laws = record { near = near; only = only; whole = λ v. sym (only v (v * v) (near_square v)) }
