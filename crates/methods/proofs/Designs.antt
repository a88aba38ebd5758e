-- Design shears of combined ones, and forces of design shears. Assumes nothing.
use Rattle.std.proofs.Common.{◌≡◌, ℕ, zero, suc, ◌+◌, ◌-◌, ◌*◌, ◌^◌, ◌<◌, ◌≤◌, cond, ltb, List, [], ◌∷◌, ◌++◌, length, get_or, pos, ◌-ℤ◌, sym, refl, ap, ◌∙◌, subst, inl, inr, add-one, mul-le-mul, arith}
use Rattle.std.proofs.lemmas.Bool.{cases_lt, lt-ltb, le-ltb, ltb-true, cases_Bool, cond-false}
use Rattle.std.proofs.lemmas.List.{get_or_append_left, get_or_push, length_push}
use Rattle.rounding.proofs.Rounding.{whole, nearest_le}
use Rattle.formulas.specs.Forces.{force_of}
use Rattle.formulas.specs.Modal.{design_shear}
use Rattle.methods.specs.declared.outcome.Outcome.{Outcome}
use Rattle.methods.specs.declared.outcome.Storey.{Storey}
use Rattle.methods.specs.Outcomes.{shears_up_to, storey_at, design_at, Differences, Gives}

-- the combined shear itself, where the combined base shear is no smaller
pub kept : (code base c : ℕ) → code ≤ base → c ≡ design_shear code base c
kept code base c l = rw (le-ltb base code l) (sym (whole c 1 (omega arith)))

-- it fits a signed number of 64 bits
pub design_small : (code base c : ℕ) → (base < code → 1 ≤ base) → code ≤ 720000 → c < 2 ^ 32 → design_shear code base c < 2 ^ 62
design_small code base c moves low small =
    elim (cases_lt base code) [
      | inl l ↦
          let below : c ≤ 2 ^ 32 = omega arith in
          let m : c * code ≤ 2 ^ 32 * 720000 = mul-le-mul below low in
          rw (lt-ltb base code l) (omega (arith, m, nearest_le (c * code) base (moves l)))
      | inr l ↦ omega (arith, kept code base c l)
    ]

-- equal shears of a storey and of the one above it have equal forces
pub same_force : (n : ℕ) (f g : ℕ → ℕ) (i : ℕ) → f i ≡ g i → (i < n → f (i + 1) ≡ g (i + 1)) → force_of n f i ≡ force_of n g i
same_force n f g i here above =
    elim (cases_Bool (ltb i n)) [
      | inl b ↦ (λ j. pos (here j) -ℤ cond (ltb i n) (pos (above (ltb-true i n b) j)) (pos 0))
      | inr b ↦ (let e : cond (ltb i n) (pos (f (i + 1))) (pos 0) ≡ cond (ltb i n) (pos (g (i + 1))) (pos 0) = cond-false (ltb i n) _ _ b ∙ sym (cond-false (ltb i n) _ _ b) in
          λ j. pos (here j) -ℤ e j)
    ]

-- the shear at place i - 1, as that of storey i
abbrev pub shear_of : List ℕ → ℕ → ℕ
shear_of xs i = get_or xs (i - 1) 0

-- the storey at place k, by combined shears xs and design shears ds
abbrev pub storey_of : List ℕ → List ℕ → ℕ → Storey
storey_of xs ds k = record { combined = get_or xs k 0; design = get_or ds k 0; force = force_of (length xs) (shear_of ds) (k + 1) }

-- the storeys that stand have the forces that they should
pub differences : (xs ds : List ℕ) (ss : List Storey) → ((k : ℕ) → k < length xs → storey_at ss k ≡ storey_of xs ds k) → Differences (length xs) ss
differences xs ds ss are k l =
    ap (λ (s : Storey). s.force) (are k l)
    ∙ same_force (length xs) (shear_of ds) (design_at ss) (k + 1) (shear (k + 1) (omega arith) (omega arith)) (λ h. shear (k + 1 + 1) (omega arith) (omega arith))
  where
    shear : (i : ℕ) → 1 ≤ i → i ≤ length xs → shear_of ds i ≡ design_at ss i
    shear i some few = ap (λ (s : Storey). s.design) (sym (are (i - 1) (omega arith)))

-- ---- the shears of storeys 1 to n

pub shears_more : (c : ℕ → ℕ) (n : ℕ) → shears_up_to c (n + 1) ≡ shears_up_to c n ++ (c (n + 1) ∷ [])
shears_more c n = ap (shears_up_to c) (add-one n) ∙ ap (λ (m : ℕ). shears_up_to c n ++ (c m ∷ [])) (sym (add-one n))

-- what bounds all of them bounds them with one more, where it bounds that one
pub bound_more : (most : ℕ) (xs : List ℕ) (x : ℕ) → ((k : ℕ) → k < length xs → get_or xs k 0 ≤ most) → x ≤ most → (k : ℕ) → k < length (xs ++ (x ∷ [])) → get_or (xs ++ (x ∷ [])) k 0 ≤ most
bound_more most [] x below low zero l = low
bound_more most [] x below low (suc k) l = omega arith
bound_more most (y ∷ ys) x below low zero l = below 0 (omega arith)
bound_more most (y ∷ ys) x below low (suc k) l = bound_more most ys x (λ j m. below (suc j) (omega (arith, m))) low k (omega (arith, l))

pub shears_count : (c : ℕ → ℕ) (n : ℕ) → length (shears_up_to c n) ≡ n
shears_count c zero = refl
shears_count c (suc n) = omega (arith, length_push (shears_up_to c n) (c (suc n)), shears_count c n)

pub shear_there : (c : ℕ → ℕ) (n k : ℕ) → k < n → get_or (shears_up_to c n) k 0 ≡ c (k + 1)
shear_there c zero k l = absurd (omega arith)
shear_there c (suc n) k l =
    elim (cases_lt k n) [
      | inl b ↦ get_or_append_left (shears_up_to c n) (c (suc n) ∷ []) 0 k (omega (arith, shears_count c n)) ∙ shear_there c n k b
      | inr b ↦ (let e : suc n ≡ k + 1 = omega arith in
          get_or_push (shears_up_to c n) (c (suc n)) 0 k (omega (arith, shears_count c n)) ∙ ap c e)
    ]

-- what combined shears c leave at a code base shear
module _ (n : ℕ) (c : ℕ → ℕ) (code base : ℕ) (xs : List ℕ) (o : Outcome) (some : 1 ≤ n) (are : xs ≡ shears_up_to c n) (first-is : base ≡ get_or xs 0 0) where
  held : length xs ≡ n
  held = ap length are ∙ shears_count c n

  shear_at : (k : ℕ) → k < n → get_or xs k 0 ≡ c (k + 1)
  shear_at k l = ap (λ (ys : List ℕ). get_or ys k 0) are ∙ shear_there c n k l

  pub gives : ((k : ℕ) → k < length xs → (storey_at o.storeys k).combined ≡ get_or xs k 0) → ((k : ℕ) → k < length xs → (storey_at o.storeys k).design ≡ design_shear code base (get_or xs k 0)) → Differences (length xs) o.storeys → Gives n c (λ i. design_shear code (c 1) (c i)) o
  gives combined design forces =
      record {
        combined = λ k l. combined k (omega (arith, held)) ∙ shear_at k l;
        design = λ k l. design k (omega (arith, held)) ∙ (λ j. design_shear code ((first-is ∙ shear_at 0 some) j) (shear_at k l j));
        forces = subst (λ (m : ℕ). Differences m o.storeys) held forces;
      }
