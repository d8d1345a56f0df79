-- The order of floats of any sign, as laws of the tests' outcomes (`x <ᶠ y ≡ true`), which is how a branch hands them
-- over. A comparison that holds has no NaN in it, so transitivity and what follows from a test that held ask nothing
-- more. Only the way from a test that failed to its converse asks that neither side is a NaN: at a NaN both tests fail,
-- which is how an old order once stayed in force. -0 and +0 are level. Assumes nothing.
use mathlib.Core.Path.{◌≡◌, refl}
use mathlib.Core.Logic.{◌⊎◌, inl, inr}
use mathlib.Core.Bool.{true, false, false≢true}
use lib.Dec.{T_not}
use lib.Ieee.{Float, nan, inf, fin, lt, le, eq, is_nan, of_bits}
use lib.Ieee.Bits.{is_true, is_false}
use lib.Ieee.Scale.{finite}
use Rattle.floats.specs.Arithmetic.{◌<ᶠ◌, ◌≤ᶠ◌, 0ᶠ}
use Rattle.floats.proofs.Tests.{yes, no, yes_or_no, or_r, or-other}
use Rattle.floats.proofs.Compare.{trans, excludes, converse, weaken, left-real, right-real, equal-back}

-- ---- no NaN
pub finite→real : (x : Float) → finite x ≡ true → is_nan x ≡ false
unfolding is_nan
finite→real nan e = absurd (false≢true e)
finite→real (inf s) e = is_false _ tt
finite→real (fin s m d) e = is_false _ tt

pub zero-real : is_nan 0ᶠ ≡ false
zero-real = finite→real 0ᶠ (unfold of_bits in refl)

pub le→real-l : (x y : Float) → x ≤ᶠ y ≡ true → is_nan x ≡ false
le→real-l x y h = is_false (is_nan x) (left-real x y (yes h))

pub le→real-r : (x y : Float) → x ≤ᶠ y ≡ true → is_nan y ≡ false
le→real-r x y h = is_false (is_nan y) (right-real x y (yes h))

-- ---- from a test that held
pub lt→le : (x y : Float) → x <ᶠ y ≡ true → x ≤ᶠ y ≡ true
lt→le x y h = is_true (le x y) (weaken x y (yes h))

pub lt→nle : (x y : Float) → x <ᶠ y ≡ true → y ≤ᶠ x ≡ false
lt→nle x y h = elim (yes_or_no (le y x)) [ inl k ↦ absurd (excludes x y (yes h) k) | inr n ↦ is_false (le y x) n ]

pub le→nlt : (x y : Float) → x ≤ᶠ y ≡ true → y <ᶠ x ≡ false
le→nlt x y h = elim (yes_or_no (lt y x)) [ inl k ↦ absurd (excludes y x k (yes h)) | inr n ↦ is_false (lt y x) n ]

pub eq→le : (x y : Float) → eq x y ≡ true → x ≤ᶠ y ≡ true
unfolding le
eq→le x y h = is_true (le x y) (or_r (lt x y) (eq x y) (yes h))

pub eq→ge : (x y : Float) → eq x y ≡ true → y ≤ᶠ x ≡ true
eq→ge x y h = eq→le y x (is_true (eq y x) (equal-back x y (yes h)))

-- ---- from a test that failed, between two values that are no NaN
pub nlt→le : (x y : Float) → is_nan x ≡ false → is_nan y ≡ false → x <ᶠ y ≡ false → y ≤ᶠ x ≡ true
nlt→le x y p q h = is_true (le y x) (converse y x (no q) (no p) (no h))

pub nle→lt : (x y : Float) → is_nan x ≡ false → is_nan y ≡ false → x ≤ᶠ y ≡ false → y <ᶠ x ≡ true
nle→lt x y p q h =
    elim (yes_or_no (lt y x))
    [ inl k ↦ is_true (lt y x) k | inr n ↦ absurd (T_not (le x y) (no h) (converse x y (no p) (no q) n)) ]

-- ---- an order
pub le_total : (x y : Float) → is_nan x ≡ false → is_nan y ≡ false → (x ≤ᶠ y ≡ true) ⊎ (y ≤ᶠ x ≡ true)
le_total x y p q =
    elim (yes_or_no (lt y x))
    [ inl k ↦ inr (is_true (le y x) (weaken y x k)) | inr n ↦ inl (is_true (le x y) (converse x y (no p) (no q) n)) ]

pub lt_irrefl : (x : Float) → x <ᶠ x ≡ false
lt_irrefl x = elim (yes_or_no (lt x x)) [ inl k ↦ absurd (excludes x x k (weaken x x k)) | inr n ↦ is_false (lt x x) n ]

pub le_refl : (x : Float) → is_nan x ≡ false → x ≤ᶠ x ≡ true
le_refl x p = nlt→le x x p p (lt_irrefl x)

pub le_trans : (x y z : Float) → x ≤ᶠ y ≡ true → y ≤ᶠ z ≡ true → x ≤ᶠ z ≡ true
le_trans x y z h k = is_true (le x z) (trans x y z (yes h) (yes k))

pub lt-le-trans : (x y z : Float) → x <ᶠ y ≡ true → y ≤ᶠ z ≡ true → x <ᶠ z ≡ true
lt-le-trans x y z h k = elim (yes_or_no (lt x z)) [
  | inl t ↦ is_true (lt x z) t
  | inr n ↦
      let l = left-real x y (weaken x y (yes h)) in
      let r = right-real y z (yes k) in
      absurd (excludes x y (yes h) (trans y z x (yes k) (converse z x r l n)))
]

pub le_lt_trans : (x y z : Float) → x ≤ᶠ y ≡ true → y <ᶠ z ≡ true → x <ᶠ z ≡ true
le_lt_trans x y z h k = elim (yes_or_no (lt x z)) [
  | inl t ↦ is_true (lt x z) t
  | inr n ↦
      let l = left-real x y (yes h) in
      let r = right-real y z (weaken y z (yes k)) in
      absurd (excludes y z (yes k) (trans z x y (converse z x r l n) (yes h)))
]

pub lt_trans : (x y z : Float) → x <ᶠ y ≡ true → y <ᶠ z ≡ true → x <ᶠ z ≡ true
lt_trans x y z h k = lt-le-trans x y z h (lt→le y z k)

-- each at most the other: equal as numbers, which Same.antt carries to equal as data
pub le_antisym : (x y : Float) → x ≤ᶠ y ≡ true → y ≤ᶠ x ≡ true → eq x y ≡ true
unfolding le
le_antisym x y h k = is_true (eq x y) (or-other (lt x y) (eq x y) (yes h) (no (le→nlt y x k)))
