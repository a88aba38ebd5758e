-- What calls make of a list of modes. Assumes nothing.
use Rattle.std.proofs.Common.{◌≡◌, ℕ, zero, suc, ◌-◌, ◌<◌, ◌≤◌, Bool, true, false, ◌&&◌, ltb, leb, List, [], ◌∷◌, ◌++◌, length, take, drop, IsSome, OnSome, Some, None, Option, ◌↔◌, sym, refl, ap, ◌∙◌, arith}
use Rattle.std.proofs.lemmas.List.{length-map, map-append, take-map, drop-map}
use Rattle.std.proofs.lemmas.Bool.{and_parts, and_from, lt-ltb, ltb-true, leb-false}
use Rattle.std.specs.List.{slice_get, remove}
use Rattle.std.specs.Option.{option_map_or}
use Rattle.formulas.specs.Buildings.{Mode}
use Rattle.methods.specs.declared.modes.ModeRow.{ModeRow}
use Rattle.methods.specs.Loads.{every}
use Rattle.methods.specs.Shapes.{mode_of, modes_of, falls_from}
use Rattle.methods.proofs.Lists.{every_append, every_drop}
use Rattle.sheet.specs.Modes.{not_below_last}

-- the last mode is that of the last row
pub last_row : (p n : ℕ) (rs : List ModeRow) → option_map_or (λ (r : ModeRow). leb r.period p) (slice_get rs (length rs - 1)) false ≡ not_below_last p (modes_of n rs)
last_row p n [] = refl
last_row p n (r ∷ []) = refl
last_row p n (r ∷ (k ∷ rs)) =
    let e : length (r ∷ (k ∷ rs)) - 1 ≡ suc (length (k ∷ rs) - 1) = omega arith in
    ap (λ (i : ℕ). option_map_or (λ (r : ModeRow). leb r.period p) (slice_get (r ∷ (k ∷ rs)) i) false) e ∙ last_row p n (k ∷ rs)

-- what is below the last period is below all
below_all : (above p : ℕ) (m : Mode) (ms : List Mode) → falls_from above (m ∷ ms) ≡ true → not_below_last p (m ∷ ms) ≡ false → p < above
below_all above p m [] down n = omega (arith, leb-false _ _ n, ltb-true _ _ (and_parts (ltb m.period above) true down).0)
below_all above p m (k ∷ ms) down n =
    let h = and_parts (ltb m.period above) (falls_from m.period (k ∷ ms)) down in
    omega (arith, below_all m.period p k ms h.1 n, ltb-true _ _ h.0)

pub falls_pushed : (above : ℕ) (ms : List Mode) (m : Mode) → falls_from above ms ≡ true → m.period < above → not_below_last m.period ms ≡ false → falls_from above (ms ++ (m ∷ [])) ≡ true
falls_pushed above [] m down l n = and_from (ltb m.period above) true (lt-ltb _ _ l) refl
falls_pushed above (k ∷ []) m down l n =
    let p = and_parts (ltb k.period above) true down in
    and_from (ltb k.period above) (ltb m.period k.period && true) p.0 (and_from (ltb m.period k.period) true (lt-ltb _ _ (leb-false _ _ n)) refl)
falls_pushed above (k ∷ (j ∷ ms)) m down l n =
    let p = and_parts (ltb k.period above) (falls_from k.period (j ∷ ms)) down in
    and_from (ltb k.period above) (falls_from k.period ((j ∷ ms) ++ (m ∷ []))) p.0 (falls_pushed k.period (j ∷ ms) m p.1 (below_all k.period m.period j ms p.1 n) n)

weaker : (a b : ℕ) (ms : List Mode) → a ≤ b → falls_from a ms ≡ true → falls_from b ms ≡ true
weaker a b [] l down = refl
weaker a b (m ∷ ms) l down =
    let p = and_parts (ltb m.period a) (falls_from m.period ms) down in
    and_from (ltb m.period b) (falls_from m.period ms) (lt-ltb _ _ (omega (arith, ltb-true _ _ p.0))) p.1

pub falls_without : (above : ℕ) (ms : List Mode) (k : ℕ) → falls_from above ms ≡ true → falls_from above (remove ms k) ≡ true
falls_without above [] zero down = refl
falls_without above [] (suc k) down = refl
falls_without above (m ∷ ms) zero down =
    let p = and_parts (ltb m.period above) (falls_from m.period ms) down in
    weaker m.period above ms (omega (arith, ltb-true _ _ p.0)) p.1
falls_without above (m ∷ ms) (suc k) down =
    let p = and_parts (ltb m.period above) (falls_from m.period ms) down in
    and_from (ltb m.period above) (falls_from m.period (remove ms k)) p.0 (falls_without m.period ms k p.1)

every_take : {A : Type 0} (p : A → Bool) (xs : List A) (k : ℕ) → every p xs ≡ true → every p (take k xs) ≡ true
every_take p xs zero e = refl
every_take p [] (suc k) e = refl
every_take p (x ∷ xs) (suc k) e = let h = and_parts (p x) (every p xs) e in and_from (p x) (every p (take k xs)) h.0 (every_take p xs k h.1)

pub every_without : {A : Type 0} (p : A → Bool) (xs : List A) (k : ℕ) → every p xs ≡ true → every p (remove xs k) ≡ true
every_without p xs k e = every_append p (take k xs) (drop (suc k) xs) (every_take p xs k e) (every_drop p xs (suc k) e)

-- where the row is there, it goes, and its mode with it
pub struck : (n k : ℕ) (rows rows' : List ModeRow) (r : Option ModeRow) → IsSome r ↔ (k < length rows) → OnSome r (rows' ≡ remove rows k) → k < length (modes_of n rows) → modes_of n rows' ≡ remove (modes_of n rows) k
struck n k rows rows' None there gone l = let l' : k < length rows = omega (arith, l, length-map rows (mode_of n)) in absurd (cc (there.1 l'))
struck n k rows rows' (Some x) there gone l =
    ap (modes_of n) gone ∙ map-append (mode_of n) (take k rows) (drop (suc k) rows)
    ∙ (λ i. sym (take-map (mode_of n) k rows) i ++ sym (drop-map (mode_of n) (suc k) rows) i)
