-- A rule over the groups keeps the laws. Assumes nothing.
use Rattle.std.specs.Prelude.{◌≡◌, ℕ, ◌+◌, ◌*◌, ◌≤◌, true, false, cond, List, [], ◌∷◌, ℤ, pos, ◌*ℤ◌, unsigned_abs, refl}
use Rattle.std.proofs.Common.{sym, ap, subst, ◌∙◌, add-zero, zero-add, le_refl, arith}
use Rattle.combination.specs.declared.response.Response.{Response}
use Rattle.combination.specs.Values.{mode, size}
use Rattle.combination.specs.Groups.{close, put, groups}
use Rattle.combination.specs.Laws.{LoneLaw, ScaleLaw, TriangleLaw, RiseLaw, Laws, scaled, Nought, Lone, Added, Raised, none, more, here, later}
use Rattle.rounding.proofs.Order.{nat_abs_mul, root_mono}
use Rattle.combination.specs.Bound.{rooted}
use Rattle.combination.specs.Rising.{rise_all, raised_of}
use Rattle.combination.specs.Numbers.{nat_abs_sum, root_cases}

-- the periods are the same, there are no negatives, and the third is at most the sum of the first two
data Under : List Response → List Response → List Response → Type 0 where
  bare : Under [] [] []
  over : (p x y z : ℕ) {us vs ws : List Response} → z ≤ x + y → Under us vs ws → Under (mode p (pos x) ∷ us) (mode p (pos y) ∷ vs) (mode p (pos z) ∷ ws)

-- ---- no values

put_nought : (p : ℕ) {gs : List Response} → Nought gs → Nought (put p 0 gs)
put_nought p none = more p none
put_nought p (more q {xs} n) = elim (close p q) as (λ b. Nought (cond b (mode p (pos (0 + 0)) ∷ xs) (mode p (pos 0) ∷ (mode q (pos 0) ∷ xs)))) [ true ↦ more p n | false ↦ more p (more q n) ]

groups_nought : {xs : List Response} → Nought xs → Nought (groups xs)
groups_nought none = none
groups_nought (more p n) = put_nought p (groups_nought n)

-- ---- a lone value

put_here : (p m : ℕ) {gs : List Response} → Nought gs → Lone (pos m) (put p m gs)
put_here p m none = here p none
put_here p m (more q {xs} n) =
    elim (close p q) as (λ b. Lone (pos m) (cond b (mode p (pos (m + 0)) ∷ xs) (mode p (pos m) ∷ (mode q (pos 0) ∷ xs))))
    [ true ↦ subst (λ (k : ℕ). Lone (pos m) (mode p (pos k) ∷ xs)) (sym (add-zero m)) (here p n) | false ↦ here p (more q n) ]

put_later : (p m : ℕ) {gs : List Response} → Lone (pos m) gs → Lone (pos m) (put p 0 gs)
put_later p m (none e) = later p (none e)
put_later p m (here q {xs} n) =
    elim (close p q) as (λ b. Lone (pos m) (cond b (mode p (pos (0 + m)) ∷ xs) (mode p (pos 0) ∷ (mode q (pos m) ∷ xs))))
    [ true ↦ subst (λ (k : ℕ). Lone (pos m) (mode p (pos k) ∷ xs)) (sym (zero-add m)) (here p n) | false ↦ later p (here q n) ]
put_later p m (later q {xs} l) =
    elim (close p q) as (λ b. Lone (pos m) (cond b (mode p (pos (0 + 0)) ∷ xs) (mode p (pos 0) ∷ (mode q (pos 0) ∷ xs))))
    [ true ↦ later p l | false ↦ later p (later q l) ]

groups_lone : {v : ℤ} {xs : List Response} → Lone v xs → Lone (pos (unsigned_abs v)) (groups xs)
groups_lone (none e) = none (ap (λ z. pos (unsigned_abs z)) e)
groups_lone {v} (here p n) = put_here p (unsigned_abs v) (groups_nought n)
groups_lone {v} (later p l) = put_later p (unsigned_abs v) (groups_lone l)

-- ---- a factor

put_scaled : (k p n : ℕ) (gs : List Response) → put p (k * n) (scaled (pos k) gs) ≡ scaled (pos k) (put p n gs)
put_scaled k p n [] = refl
put_scaled k p n (g ∷ gs) =
    elim (close p g.period) as (λ b. cond b (mode p (pos (k * n + unsigned_abs (pos k *ℤ g.value))) ∷ scaled (pos k) gs) (mode p (pos (k * n)) ∷ scaled (pos k) (g ∷ gs)) ≡ scaled (pos k) (cond b (mode p (pos (n + size g)) ∷ gs) (mode p (pos n) ∷ (g ∷ gs))))
    [ true ↦ ap (λ m. mode p (pos m) ∷ scaled (pos k) gs) (simp nat_abs_mul (omega arith)) | false ↦ refl ]

groups_scaled : (d : ℤ) (xs : List Response) → groups (scaled d xs) ≡ scaled (pos (unsigned_abs d)) (groups xs)
groups_scaled d [] = refl
groups_scaled d (x ∷ xs) = rw (nat_abs_mul d x.value, groups_scaled d xs) (put_scaled (unsigned_abs d) x.period (size x) (groups xs))

-- ---- a raise

put_raised : (p m n : ℕ) {a b : List Response} → m ≤ n → Raised a b → Raised (put p m a) (put p n b)
put_raised p m n h none = more p m n h none
put_raised p m n h (more q i j {us} {vs} l r) =
    elim (close p q) as (λ b. Raised (cond b (mode p (pos (m + i)) ∷ us) (mode p (pos m) ∷ (mode q (pos i) ∷ us))) (cond b (mode p (pos (n + j)) ∷ vs) (mode p (pos n) ∷ (mode q (pos j) ∷ vs))))
    [ true ↦ more p (m + i) (n + j) (omega arith) r | false ↦ more p m n h (more q i j l r) ]

groups_raised : {a b : List Response} → Raised a b → Raised (groups a) (groups b)
groups_raised none = none
groups_raised (more p m n h r) = put_raised p m n h (groups_raised r)

-- ---- a sum

put_under : (p x y z : ℕ) {a b c : List Response} → z ≤ x + y → Under a b c → Under (put p x a) (put p y b) (put p z c)
put_under p x y z h bare = over p x y z h bare
put_under p x y z h (over q i j k {us} {vs} {ws} l r) =
    elim (close p q) as (λ b. Under (cond b (mode p (pos (x + i)) ∷ us) (mode p (pos x) ∷ (mode q (pos i) ∷ us))) (cond b (mode p (pos (y + j)) ∷ vs) (mode p (pos y) ∷ (mode q (pos j) ∷ vs))) (cond b (mode p (pos (z + k)) ∷ ws) (mode p (pos z) ∷ (mode q (pos k) ∷ ws))))
    [ true ↦ over p (x + i) (y + j) (z + k) (omega arith) r | false ↦ over p x y z h (over q i j k l r) ]

groups_under : {a b c : List Response} → Added a b c → Under (groups a) (groups b) (groups c)
groups_under none = bare
groups_under (more p x y z e s) = put_under p (unsigned_abs x) (unsigned_abs y) (unsigned_abs z) (nat_abs_sum x y z e) (groups_under s)

-- the sum itself, and that the third is below it
filled : {a b c : List Response} → Under a b c → (d : List Response) × Added a b d × Raised c d
filled bare = ([], none, none)
filled (over p x y z h u) =
    let f = filled u in
    (mode p (pos (x + y)) ∷ f.0, more p (pos x) (pos y) (pos (x + y)) refl f.1, more p z (x + y) h f.2)

-- ---- the laws, from those of the rule below

module _ (q : List Response → ℕ) where
  pub lone : LoneLaw q → LoneLaw (λ xs. q (groups xs))
  lone low v xs l = low (pos (unsigned_abs v)) (groups xs) (groups_lone l)

  pub scale : ScaleLaw q → ScaleLaw (λ xs. q (groups xs))
  scale low d xs = ap q (groups_scaled d xs) ∙ low (pos (unsigned_abs d)) (groups xs)

  pub rise : RiseLaw q → RiseLaw (λ xs. q (groups xs))
  rise low a b r = rise_all q low (groups_raised (raised_of r))

  pub triangle : TriangleLaw q → RiseLaw q → TriangleLaw (λ xs. q (groups xs))
  triangle low up a b c s =
      let f = filled (groups_under s) in
      root_cases _ _ _ (root_mono _ _ _ _ _ _ (rise_all q up f.2) (le_refl _) (le_refl _) (rooted q low _ _ _ f.1))

  pub laws : Laws q → Laws (λ xs. q (groups xs))
  laws low = record { lone = lone low.lone; scale = scale low.scale; triangle = triangle low.triangle low.rise; rise = rise low.rise }
