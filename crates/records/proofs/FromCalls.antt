-- What an array is that `array::from_fn` made, where the calls leave the closure as it was.
use Rattle.std.proofs.Common.{◌≡◌, ℕ, zero, suc, ◌+◌, ◌<◌, List, get_or, ◌∙◌, subst, arith}
use Rattle.std.specs.Array.{IsFromFnResult, IsFromFnResultFrom}
use Rattle.std.specs.Fn.{Called}
use denote.Param.Members.{Mut}

module _ {F B : Type 0} (g : Mut F (ℕ × Unit {0}) B) (value : ℕ → B) (f : F) (calls : (i : ℕ) (y : B) (q : F) → Called g f (i, tt) y q → (y ≡ value i) × (q ≡ f)) where
  made_from : (ys : List B) (d : B) (i n k j : ℕ) → i + k ≡ j → IsFromFnResultFrom g f ys i n → k < n → get_or ys j d ≡ value j
  made_from ys d i zero k j there made below = absurd (omega arith)
  made_from ys d i (suc n) zero j there made below =
      let here : i ≡ j = omega arith in
      subst (λ (m : ℕ). get_or ys m d ≡ value m) here (made.2.1 d ∙ (calls i made.1 made.0 made.3).0)
  made_from ys d i (suc n) (suc k) j there made below =
      let rest : IsFromFnResultFrom g f ys (i + 1) n = subst (λ (q : F). IsFromFnResultFrom g q ys (i + 1) n) (calls i made.1 made.0 made.3).1 made.4 in
      made_from ys d (i + 1) n k j (omega arith) rest (omega arith)

  pub made_by : (ys : List B) (d : B) (n k : ℕ) → IsFromFnResult g f ys n → k < n → get_or ys k d ≡ value k
  made_by ys d n k made below = made_from ys d 0 n k k (omega arith) made.each below
