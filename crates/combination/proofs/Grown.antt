-- The groups as a loop builds them. Assumes nothing.
use Rattle.std.proofs.Common.{◌≡◌, ℕ, ◌+◌, ◌<◌, ◌≤◌, Bool, true, false, cond, ltb, List, [], ◌∷◌, ◌++◌, length, get_or, drop, ℤ, pos, sym, refl, ap, ◌∙◌, arith}
use Rattle.std.proofs.lemmas.List.{at_drop_more, at_drop_all, length-append}
use Rattle.std.proofs.lemmas.Bool.Decides.{nat_tests}
use Rattle.combination.specs.declared.response.Response.{Response}
use Rattle.combination.specs.Values.{total, size, mode, largest, falls, Sound}
use Rattle.combination.specs.Groups.{close, put, groups}

abbrev nil : Response
nil = mode 0 (pos 0)

-- ---- what the groups keep

put_length : (p n : ℕ) (gs : List Response) → length (put p n gs) ≤ length gs + 1
put_length p n [] = omega arith
put_length p n (g ∷ gs) = elim (close p g.period) as (λ b. length (cond b (mode p (pos (n + size g)) ∷ gs) (mode p (pos n) ∷ (g ∷ gs))) ≤ length (g ∷ gs) + 1) [ true ↦ omega arith | false ↦ omega arith ]

pub groups_length : (xs : List Response) → length (groups xs) ≤ length xs
groups_length [] = omega arith
groups_length (x ∷ xs) = omega (arith, put_length x.period (size x) (groups xs), groups_length xs)

put_total : (p n : ℕ) (gs : List Response) → total (put p n gs) ≡ n + total gs
put_total p n [] = refl
put_total p n (g ∷ gs) = elim (close p g.period) as (λ b. total (cond b (mode p (pos (n + size g)) ∷ gs) (mode p (pos n) ∷ (g ∷ gs))) ≡ n + total (g ∷ gs)) [ true ↦ omega arith | false ↦ refl ]

pub groups_total : (xs : List Response) → total (groups xs) ≡ total xs
groups_total [] = refl
groups_total (x ∷ xs) = put_total x.period (size x) (groups xs) ∙ ap (λ n. size x + n) (groups_total xs)

-- the first period of gs, if any, is below p
abbrev under : ℕ → List Response → Bool
under p [] = true
under p (g ∷ gs) = ltb g.period p

under_put : (q p n : ℕ) (gs : List Response) → under q (put p n gs) ≡ ltb p q
under_put q p n [] = refl
under_put q p n (g ∷ gs) = elim (close p g.period) as (λ b. under q (cond b (mode p (pos (n + size g)) ∷ gs) (mode p (pos n) ∷ (g ∷ gs))) ≡ ltb p q) [ true ↦ refl | false ↦ refl ]

under_groups : (p : ℕ) (xs : List Response) → under p (groups xs) ≡ under p xs
under_groups p [] = refl
under_groups p (x ∷ xs) = under_put p x.period (size x) (groups xs)

falls_under : (x : Response) (xs : List Response) → falls (x ∷ xs) ≡ true → (under x.period xs ≡ true) × (falls xs ≡ true)
falls_under x [] h = (refl, refl)
falls_under x (y ∷ ys) h = (grind (arith, nat_tests), grind (arith, nat_tests))

falls_cons : (x : Response) (xs : List Response) → under x.period xs ≡ true → falls xs ≡ true → falls (x ∷ xs) ≡ true
falls_cons x [] h f = refl
falls_cons x (y ∷ ys) h f = grind (arith, nat_tests)

under_past : (p q : ℕ) (gs : List Response) → ltb q p ≡ true → under q gs ≡ true → under p gs ≡ true
under_past p q [] h u = refl
under_past p q (g ∷ gs) h u = grind (arith, nat_tests)

put_falls : (p n : ℕ) (gs : List Response) → under p gs ≡ true → falls gs ≡ true → falls (put p n gs) ≡ true
put_falls p n [] u f = refl
put_falls p n (g ∷ gs) u f =
    let k = falls_under g gs f in
    elim (close p g.period) as (λ b. falls (cond b (mode p (pos (n + size g)) ∷ gs) (mode p (pos n) ∷ (g ∷ gs))) ≡ true)
    [ true ↦ falls_cons (mode p (pos (n + size g))) gs (under_past p g.period gs u k.0) k.1 | false ↦ falls_cons (mode p (pos n)) (g ∷ gs) u f ]

pub groups_falls : (xs : List Response) → falls xs ≡ true → falls (groups xs) ≡ true
groups_falls [] h = refl
groups_falls (x ∷ xs) h =
    let k = falls_under x xs h in
    put_falls x.period (size x) (groups xs) (under_groups x.period xs ∙ k.0) (groups_falls xs k.1)

pub groups_sound : (xs : List Response) → Sound xs → Sound (groups xs)
groups_sound xs h = (omega (arith, groups_length xs, h.0), groups_falls xs h.1, omega (arith, groups_total xs, h.2))

-- ---- the groups so far, before those of the values that follow

-- the group g, whose last value is of the period q
abbrev lead : Response → ℕ → List Response → List Response
lead g q [] = g ∷ []
lead g q (h ∷ hs) = cond (close q h.period) (mode g.period (pos (size g + size h)) ∷ hs) (g ∷ (h ∷ hs))

-- the groups, of which the last value is of the period q
abbrev meld : List Response → ℕ → List Response → List Response
meld [] q gs = gs
meld (g ∷ []) q gs = lead g q gs
meld (g ∷ (h ∷ hs)) q gs = g ∷ meld (h ∷ hs) q gs

lead_near : (g : Response) (q : ℕ) (h : Response) (hs : List Response) → close q h.period ≡ true → lead g q (h ∷ hs) ≡ mode g.period (pos (size g + size h)) ∷ hs
lead_near g q h hs e = ap (λ b. cond b (mode g.period (pos (size g + size h)) ∷ hs) (g ∷ (h ∷ hs))) e

lead_far : (g : Response) (q : ℕ) (h : Response) (hs : List Response) → close q h.period ≡ false → lead g q (h ∷ hs) ≡ g ∷ (h ∷ hs)
lead_far g q h hs e = ap (λ b. cond b (mode g.period (pos (size g + size h)) ∷ hs) (g ∷ (h ∷ hs))) e

put_lead : (p n : ℕ) (gs : List Response) → put p n gs ≡ lead (mode p (pos n)) p gs
put_lead p n [] = refl
put_lead p n (g ∷ gs) = refl

lead_opens : (g : Response) (q p n : ℕ) (gs : List Response) → close q p ≡ false → lead g q (put p n gs) ≡ g ∷ put p n gs
lead_opens g q p n [] e = lead_far g q (mode p (pos n)) [] e
lead_opens g q p n (h ∷ hs) e =
    elim (close p h.period) as (λ b. lead g q (cond b (mode p (pos (n + size h)) ∷ hs) (mode p (pos n) ∷ (h ∷ hs))) ≡ g ∷ cond b (mode p (pos (n + size h)) ∷ hs) (mode p (pos n) ∷ (h ∷ hs)))
    [ true ↦ lead_far g q (mode p (pos (n + size h))) hs e | false ↦ lead_far g q (mode p (pos n)) (h ∷ hs) e ]

lead_joins : (g : Response) (q p n : ℕ) (gs : List Response) → close q p ≡ true → lead g q (put p n gs) ≡ lead (mode g.period (pos (size g + n))) p gs
lead_joins g q p n [] e = lead_near g q (mode p (pos n)) [] e
lead_joins g q p n (h ∷ hs) e =
    let s : size g + (n + size h) ≡ size g + n + size h = omega arith in
    elim (close p h.period) as (λ b. lead g q (cond b (mode p (pos (n + size h)) ∷ hs) (mode p (pos n) ∷ (h ∷ hs))) ≡ cond b (mode g.period (pos (size g + n + size h)) ∷ hs) (mode g.period (pos (size g + n)) ∷ (h ∷ hs)))
    [ true ↦ lead_near g q (mode p (pos (n + size h))) hs e ∙ ap (λ (k : ℕ). mode g.period (pos k) ∷ hs) s | false ↦ lead_near g q (mode p (pos n)) (h ∷ hs) e ]

-- the next value opens a group
meld_opens : (bs : List Response) (q p n : ℕ) (gs : List Response) → close q p ≡ false → meld bs q (put p n gs) ≡ meld (bs ++ (mode p (pos n) ∷ [])) p gs
meld_opens [] q p n gs e = put_lead p n gs
meld_opens (g ∷ []) q p n gs e = lead_opens g q p n gs e ∙ ap (λ (l : List Response). g ∷ l) (put_lead p n gs)
meld_opens (g ∷ (h ∷ hs)) q p n gs e = ap (λ (l : List Response). g ∷ l) (meld_opens (h ∷ hs) q p n gs e)

-- the next value joins the last group
meld_joins : (bs : List Response) (g : Response) (q p n : ℕ) (gs : List Response) → close q p ≡ true → meld (bs ++ (g ∷ [])) q (put p n gs) ≡ meld (bs ++ (mode g.period (pos (size g + n)) ∷ [])) p gs
meld_joins [] g q p n gs e = lead_joins g q p n gs e
meld_joins (b ∷ []) g q p n gs e = ap (λ (l : List Response). b ∷ l) (lead_joins g q p n gs e)
meld_joins (b ∷ (h ∷ hs)) g q p n gs e = ap (λ (l : List Response). b ∷ l) (meld_joins (h ∷ hs) g q p n gs e)

-- no more values
meld_end : (bs : List Response) (q : ℕ) → meld bs q [] ≡ bs
meld_end [] q = refl
meld_end (g ∷ []) q = refl
meld_end (g ∷ (h ∷ hs)) q = ap (λ (l : List Response). g ∷ l) (meld_end (h ∷ hs) q)

lead_total : (g : Response) (q : ℕ) (gs : List Response) → total (lead g q gs) ≡ size g + total gs
lead_total g q [] = refl
lead_total g q (h ∷ hs) = elim (close q h.period) as (λ b. total (cond b (mode g.period (pos (size g + size h)) ∷ hs) (g ∷ (h ∷ hs))) ≡ size g + total (h ∷ hs)) [ true ↦ omega arith | false ↦ refl ]

meld_total : (bs : List Response) (q : ℕ) (gs : List Response) → total (meld bs q gs) ≡ total bs + total gs
meld_total [] q gs = omega arith
meld_total (g ∷ []) q gs = omega (arith, lead_total g q gs)
meld_total (g ∷ (h ∷ hs)) q gs = omega (arith, meld_total (h ∷ hs) q gs)

total_push : (xs : List Response) (y : Response) → total (xs ++ (y ∷ [])) ≡ total xs + size y
total_push [] y = omega arith
total_push (x ∷ xs) y = omega (arith, total_push xs y)

-- ---- a turn of the loop: the groups behind, the one that is being built, and i of the values after the first seen

-- the group that is being built is not negative, and the groups so far, before those of the values that follow, are the groups of all
abbrev pub Built : List Response → List Response → List Response → Response → ℕ → ℕ → Type 0
Built all rest behind g i q = (length behind ≤ i) × (g.value ≡ pos (size g)) × (meld (behind ++ (g ∷ [])) q (groups (drop i rest)) ≡ groups all)

pub begun : (x : Response) (rest all : List Response) → all ≡ x ∷ rest → Built all rest [] (mode x.period (pos (size x))) 0 x.period
begun x rest all e = (omega arith, refl, sym (put_lead x.period (size x) (groups rest)) ∙ ap groups (sym e))

module _ (all rest behind : List Response) (g : Response) (i q : ℕ) (state : Built all rest behind g i q) where
  -- all values were seen
  pub ended : length rest ≤ i → behind ++ (g ∷ []) ≡ groups all
  ended l = sym (meld_end (behind ++ (g ∷ [])) q) ∙ ap (meld (behind ++ (g ∷ [])) q) (sym (at_drop_all groups rest i l)) ∙ state.2

  module _ (next : i < length rest) where
    next_put : groups (drop i rest) ≡ put (get_or rest i nil).period (size (get_or rest i nil)) (groups (drop (i + 1) rest))
    next_put = at_drop_more groups rest i nil next

    pub both_small : total all ≤ largest → size g + size (get_or rest i nil) ≤ largest
    both_small h =
        let e : total (drop i rest) ≡ size (get_or rest i nil) + total (drop (i + 1) rest) = at_drop_more total rest i nil next in
        omega (arith, h, e, ap total state.2, meld_total (behind ++ (g ∷ [])) q (groups (drop i rest)), total_push behind g, groups_total (drop i rest), groups_total all)

    pub joined : (y : ℤ) → y ≡ pos (size g + size (get_or rest i nil)) → close q (get_or rest i nil).period ≡ true → Built all rest behind (mode g.period y) (i + 1) (get_or rest i nil).period
    joined y d e = rw d (
      omega (arith, state.0),
      refl,
      sym (meld_joins behind g q (get_or rest i nil).period (size (get_or rest i nil)) (groups (drop (i + 1) rest)) e) ∙ ap (meld (behind ++ (g ∷ [])) q) (sym next_put) ∙ state.2,
    )

    pub opened : (more : List Response) (h : Response) → more ≡ behind ++ (g ∷ []) → h ≡ mode (get_or rest i nil).period (pos (size (get_or rest i nil))) → close q (get_or rest i nil).period ≡ false → Built all rest more h (i + 1) (get_or rest i nil).period
    opened more h d f e = rw (d, f) (
      omega (arith, state.0, length-append behind (g ∷ [])),
      refl,
      sym (meld_opens (behind ++ (g ∷ [])) q (get_or rest i nil).period (size (get_or rest i nil)) (groups (drop (i + 1) rest)) e) ∙ ap (meld (behind ++ (g ∷ [])) q) (sym next_put) ∙ state.2,
    )
