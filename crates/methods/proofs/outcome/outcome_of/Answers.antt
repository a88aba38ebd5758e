use Rattle.std.proofs.Common.{◌≡◌, ℕ, ◌+◌, ◌-◌, ◌^◌, ◌<◌, ◌≤◌, List, get_or, length, ◌-ℤ◌, sym, ap, ◌∙◌, subst, inl, inr, rules, arith, w64, to_z, of_z}
use Rattle.std.proofs.lemmas.List.{length-set, length-map, get_or_past}
use Rattle.std.proofs.lemmas.Int.{ints}
use Rattle.std.proofs.lemmas.Bool.{cases_lt, lt-ltb, le-ltb}
use Rattle.formulas.specs.Forces.{force_of}
use Rattle.methods.specs.Outcomes.{no_storey}
use Rattle.methods.proofs.Designs.{shear_of, storey_of}
use Rattle.methods.proofs.Lists.{fill_with_more}
use Rattle.methods.proofs.outcome.outcome_of.Goals as goal

-- the difference that is written, where there is a storey above and where there is none
module _ (xs : List ℕ) (n i : ℕ) (low : get_or xs i 0 < 2 ^ 62) where
  place : get_or xs i 0 ≡ shear_of xs (i + 1)
  place = let k : i ≡ i + 1 - 1 = omega arith in ap (λ (m : ℕ). get_or xs m 0) k

  below_another : (a : ℕ) → a ≡ get_or xs (i + 1) 0 → get_or xs (i + 1) 0 < 2 ^ 62 → i + 1 < n → to_z w64 (of_z w64 (to_z w64 (get_or xs i 0) -ℤ to_z w64 a)) ≡ force_of n (shear_of xs) (i + 1)
  below_another a e high l =
      let k : i + 1 ≡ i + 1 + 1 - 1 = omega arith in
      let p = ap (λ (m : ℕ). get_or xs m 0) k in
      rw (lt-ltb (i + 1) n l) (omega (arith, ints, e, p, place))

  on_top : (a : ℕ) → a ≡ 0 → n ≤ i + 1 → to_z w64 (of_z w64 (to_z w64 (get_or xs i 0) -ℤ to_z w64 a)) ≡ force_of n (shear_of xs) (i + 1)
  on_top a e l = rw (le-ltb (i + 1) n l) (omega (arith, ints, e, place))

  force_is : (a : ℕ) → a ≡ get_or xs (i + 1) 0 → length xs ≡ n → (i + 1 < n → get_or xs (i + 1) 0 < 2 ^ 62) → to_z w64 (of_z w64 (to_z w64 (get_or xs i 0) -ℤ to_z w64 a)) ≡ force_of n (shear_of xs) (i + 1)
  force_is a e long high =
      elim (cases_lt (i + 1) n) [
        | inl l ↦ below_another a e (high l) l
        | inr l ↦ on_top a (e ∙ get_or_past xs (i + 1) 0 (omega (arith, long))) l
      ]

-- no shear of the first n is above what a signed number holds
abbrev Small : ℕ → List ℕ → Type 0
Small n ds = (k : ℕ) → k < n → get_or ds k 0 < 2 ^ 62

pub loop-i-preserved : goal.loop-i-preserved
loop-i-preserved c =
    let i = c.loop-i.i in
    let xs = c.args.combined.now in
    let ds = c.as_slice-design.result.now in
    let small = subst (Small (length xs)) (sym c.as_slice-design.ensures.value) c.design_shears-shears.ensures.small in
    let above : c.map_or-above.result ≡ get_or c.as_slice-design.result.now (c.loop-i.i + 1) 0 = search rules in
    let long : length c.as_slice-design.result.now ≡ length c.args.combined.now = ap length (c.as_slice-design.ensures.value ∙ c.design_shears-shears.ensures.are) ∙ length-map c.args.combined.now _ in
    let e = force_is ds (length xs) i (small i c.loop-i-test.true) c.map_or-above.result above long (small (i + 1)) in
    (length-set c.loop-i.storeys i _ ∙ c.loop-i.invariant.0, fill_with_more (storey_of c.args.combined.now c.as_slice-design.result.now) c.loop-i.storeys i no_storey _ (λ j. record { combined = get_or xs i 0; design = get_or ds i 0; force = e j }) (omega (arith, c.loop-i.invariant.0, c.requires)) c.loop-i.invariant.1)
