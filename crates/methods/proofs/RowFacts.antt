-- What the views of floors and modes say of each mode. Assumes nothing.
use Rattle.std.proofs.Common.{◌≡◌, ℕ, ◌+◌, ◌-◌, ◌*◌, ◌^◌, ◌<◌, ◌≤◌, true, List, [], ◌∷◌, ◌++◌, length, get_or, take, drop, nat_abs, refl, ap, ◌∙◌, subst, arith}
use Rattle.std.proofs.lemmas.List.{at_drop_more, get_or-map, length-map, map_more}
use Rattle.std.proofs.lemmas.Bool.{and_parts}
use Rattle.standard.specs.declared.fraction.Fraction.{Fraction}
use Rattle.base_shear.specs.Accelerations.{Acceleration}
use Rattle.combination.specs.Values.{mode}
use Rattle.formulas.specs.declared.floor.Floor.{Floor}
use Rattle.formulas.specs.Buildings.{Mode}
use Rattle.formulas.specs.Modal.{L, M, modal_weight_of, modal_weights, modal_shear_of, storey_values_of}
use Rattle.formulas.proofs.Modal.{weight_size_lem, shear_size_lem}
use Rattle.methods.specs.declared.loads.Loads.{Loads}
use Rattle.methods.specs.declared.modes.ModeRow.{ModeRow}
use Rattle.methods.specs.declared.motion.Motion.{Motion}
use Rattle.methods.specs.Loads.{every}
use Rattle.methods.specs.Shapes.{mode_by, mode_of, modes_of, usable}
use Rattle.methods.proofs.Lists.{every_at}
use Rattle.methods.proofs.ModeFacts.{fit, second_some, Left, left_first, left_second, left_from}

-- sizes of what a mode makes of the floors
module _ (l : Loads) (m : Mode) (pre : usable (length l.floors.now) m ≡ true) where
  pub mass_some : 1 ≤ M l.floors.now m.ordinates
  mass_some = let f = fit (length l.floors.now) m pre in second_some l.floors.now m.ordinates l.ranged f.counted f.moves

  pub weight_small : (i : ℕ) → nat_abs (modal_weight_of l.floors.now m.ordinates i) ≤ 720000
  weight_small i = omega (arith, weight_size_lem l.floors.now m.ordinates i mass_some, l.summed, l.light)

-- the same of floors that move in a mode
module _ (x : Motion) where
  pub left_all : Left x.loads.floors.now x.ordinates.now
  left_all = record { ranged = x.loads.ranged; lows = (fit (length x.loads.floors.now) (mode_by x.period.value x.ordinates.now) x.fit).lows; light = omega (arith, x.loads.summed, x.loads.light) }

  pub lever_small : (i : ℕ) → nat_abs (L x.loads.floors.now x.ordinates.now i) ≤ 2000000000
  lever_small i = left_first _ _ (left_from x.loads.floors.now x.ordinates.now (i - 1) left_all)

  pub mass_small : M x.loads.floors.now x.ordinates.now < 2 ^ 63
  mass_small = left_second x.loads.floors.now x.ordinates.now left_all

  pub moved_some : 1 ≤ M x.loads.floors.now x.ordinates.now
  moved_some = mass_some x.loads (mode_by x.period.value x.ordinates.now) x.fit

  pub moved_small : (i : ℕ) → nat_abs (modal_weight_of x.loads.floors.now x.ordinates.now i) ≤ 720000
  moved_small = weight_small x.loads (mode_by x.period.value x.ordinates.now) x.fit

  pub shear_small : (a : Fraction) (i : ℕ) → Acceleration a → nat_abs (modal_shear_of a x.loads.floors.now x.ordinates.now i) ≤ 720000
  shear_small a i lawful = shear_size_lem a x.loads.floors.now x.ordinates.now i lawful moved_some (omega (arith, x.loads.summed, x.loads.light))

pub weights_small : (l : Loads) (ms : List Mode) → every (usable (length l.floors.now)) ms ≡ true → modal_weights l.floors.now ms ≤ 720000 * length ms
weights_small l [] e = omega arith
weights_small l (m ∷ ms) e =
    let h = and_parts (usable (length l.floors.now) m) (every (usable (length l.floors.now)) ms) e in
    omega (arith, weight_small l m h.0 1, weights_small l ms h.1)

-- the row that stands where there is none
abbrev pub blank : ModeRow
blank = record { period = 0; ordinates = [] }

-- the modes of rows, by place
module _ (n : ℕ) (rows : List ModeRow) (k : ℕ) (l : k < length rows) where
  mode_at_lem : get_or (modes_of n rows) k (mode_of n blank) ≡ mode_of n (get_or rows k blank)
  mode_at_lem = get_or-map (mode_of n) rows k blank (mode_of n blank) l

  mode_there : k < length (modes_of n rows)
  mode_there = omega (arith, length-map rows (mode_of n))

  pub row_usable : every (usable n) (modes_of n rows) ≡ true → usable n (mode_of n (get_or rows k blank)) ≡ true
  row_usable e = subst (λ (m : Mode). usable n m ≡ true) mode_at_lem (every_at (usable n) (modes_of n rows) k (mode_of n blank) e mode_there)

  -- the modal weights and the modal shears, one mode on
  pub weights_more : (fs : List Floor) → modal_weights fs (drop k (modes_of n rows)) ≡ nat_abs (modal_weight_of fs (mode_of n (get_or rows k blank)).ordinates 1) + modal_weights fs (drop (k + 1) (modes_of n rows))
  weights_more fs =
      at_drop_more (modal_weights fs) (modes_of n rows) k (mode_of n blank) mode_there
      ∙ ap (λ (m : Mode). nat_abs (modal_weight_of fs m.ordinates 1) + modal_weights fs (drop (k + 1) (modes_of n rows))) mode_at_lem

  pub values_more : (a : ℕ → Fraction) (fs : List Floor) (i : ℕ) → storey_values_of a fs (take (k + 1) (modes_of n rows)) i ≡ storey_values_of a fs (take k (modes_of n rows)) i ++ mode (get_or rows k blank).period (modal_shear_of (a (get_or rows k blank).period) fs (mode_of n (get_or rows k blank)).ordinates i) ∷ []
  unfolding storey_values_of
  values_more a fs i =
      map_more (λ m. mode m.period (modal_shear_of (a m.period) fs m.ordinates i)) (modes_of n rows) k (mode_of n blank) mode_there
      ∙ ap (λ (m : Mode). storey_values_of a fs (take k (modes_of n rows)) i ++ mode m.period (modal_shear_of (a m.period) fs m.ordinates i) ∷ []) mode_at_lem

pub values_none : (a : ℕ → Fraction) (fs : List Floor) (i : ℕ) → [] ≡ storey_values_of a fs [] i
unfolding storey_values_of
values_none a fs i = refl
