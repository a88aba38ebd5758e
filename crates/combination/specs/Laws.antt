-- What a rule owes. It gives a list of values the square q of the combined size, for values of every size.
use Rattle.std.specs.Prelude.{◌≡◌, ℕ, ◌+◌, ◌-◌, ◌*◌, ◌≤◌, ◌⊎◌, List, [], ◌∷◌, map, ℤ, pos, ◌+ℤ◌, ◌*ℤ◌, unsigned_abs}
use Rattle.combination.specs.declared.response.Response.{Response}
use Rattle.combination.specs.Values.{mode, total}

-- every value is nought
pub data Nought : List Response → Type 0 where
  none : Nought []
  more : (p : ℕ) {xs : List Response} → Nought xs → Nought (mode p (pos 0) ∷ xs)

-- every value is nought but for one at the most, which is v
pub data Lone (v : ℤ) : List Response → Type 0 where
  none : v ≡ pos 0 → Lone v []
  here : (p : ℕ) {xs : List Response} → Nought xs → Lone v (mode p v ∷ xs)
  later : (p : ℕ) {xs : List Response} → Lone v xs → Lone v (mode p (pos 0) ∷ xs)

-- each value times d
abbrev pub scaled : ℤ → List Response → List Response
scaled d xs = map (λ x. mode x.period (d *ℤ x.value)) xs

-- over the same periods, the third is the place-by-place sum of the first two
pub data Added : List Response → List Response → List Response → Type 0 where
  none : Added [] [] []
  more : (p : ℕ) (x y z : ℤ) {us vs ws : List Response} → z ≡ x +ℤ y → Added us vs ws → Added (mode p x ∷ us) (mode p y ∷ vs) (mode p z ∷ ws)

-- no value is negative
pub data NoNegatives : List Response → Type 0 where
  none : NoNegatives []
  more : (p n : ℕ) {xs : List Response} → NoNegatives xs → NoNegatives (mode p (pos n) ∷ xs)

-- no value is negative, and the second list is the first with one value raised
pub data RaisedOne : List Response → List Response → Type 0 where
  here : (p m n : ℕ) {xs : List Response} → m ≤ n → NoNegatives xs → RaisedOne (mode p (pos m) ∷ xs) (mode p (pos n) ∷ xs)
  later : (p n : ℕ) {us vs : List Response} → RaisedOne us vs → RaisedOne (mode p (pos n) ∷ us) (mode p (pos n) ∷ vs)

-- a lone value comes out as it is
abbrev pub LoneLaw : (List Response → ℕ) → Type 0
LoneLaw q = (v : ℤ) (xs : List Response) → Lone v xs → q xs ≡ unsigned_abs v * unsigned_abs v

-- a factor of either sign comes out by its size
abbrev pub ScaleLaw : (List Response → ℕ) → Type 0
ScaleLaw q = (d : ℤ) (xs : List Response) → q (scaled d xs) ≡ unsigned_abs d * unsigned_abs d * q xs

-- the root for a sum is at most the sum of the roots
abbrev pub TriangleLaw : (List Response → ℕ) → Type 0
TriangleLaw q = (a b c : List Response) → Added a b c → (q c ≤ q a + q b) ⊎ ((q c - q a - q b) * (q c - q a - q b) ≤ 4 * (q a * q b))

-- one value raised does not lower it
abbrev pub RiseLaw : (List Response → ℕ) → Type 0
RiseLaw q = (a b : List Response) → RaisedOne a b → q a ≤ q b

-- all four
pub record Laws (q : List Response → ℕ) : Type 0 where
  pub lone : LoneLaw q
  pub scale : ScaleLaw q
  pub triangle : TriangleLaw q
  pub rise : RiseLaw q

-- no value is negative, and each of the second list is at least its fellow in the first
pub data Raised : List Response → List Response → Type 0 where
  none : Raised [] []
  more : (p m n : ℕ) {us vs : List Response} → m ≤ n → Raised us vs → Raised (mode p (pos m) ∷ us) (mode p (pos n) ∷ vs)

-- what follows from the laws
pub record Consequences (q : List Response → ℕ) : Type 0 where
  -- at most the sum of the sizes
  pub bounded : (xs : List Response) → q xs ≤ total xs * total xs
  -- every value may rise
  pub raised : (a b : List Response) → Raised a b → q a ≤ q b
  -- the triangle law without cases, as a difference below nought is nought
  pub rooted : (a b c : List Response) → Added a b c → (q c - (q a + q b)) * (q c - (q a + q b)) ≤ 4 * (q a * q b)
