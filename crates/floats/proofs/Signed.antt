-- ±a < ±b and ±a ≤ ±b for natural numbers with a sign, as facts and as the tests that `lt` and `le` of floats come to.
-- +0 and -0 are level, and the order of signed fractions is transitive. Assumes nothing.
use mathlib.Core.Path.{◌≡◌, sym, ap, ◌∙◌}
use mathlib.Core.Logic.{inl, inr}
use mathlib.Core.Bool.{Bool, true, false, not, ◌&&◌, ◌||◌}
use Prim.Native.Nat.{ℕ, ◌+◌, ◌*◌, ◌≤◌, ◌<◌}
use native.Mathlib.Nat.{eq-or-lt_of_le, eq-zero-or-pos, le_of_lt, le_of_eq, le_refl}
use native.Mathlib.Nat.{zero-mul, mul-pos, mul-le-mul_right}
use native.Mathlib.Omega.{arith}
use lib.Dec.{T, ltb, eqb, ltb→lt, lt→ltb, nltb→le, eqb→eq}
use lib.Ieee.{below, level}
use lib.Ieee.Fits.{and_i, and_l, and_r, eq→eqb}
use lib.Ieee.Positive.{through}
use Rattle.floats.proofs.Tests.{or_l, or_r, or_split}

abbrev pub Below : Bool → ℕ → Bool → ℕ → Type 0
Below false a false b = a < b
Below false a true b = ⊥
Below true a false b = 0 < a + b
Below true a true b = b < a

abbrev pub AtMost : Bool → ℕ → Bool → ℕ → Type 0
AtMost false a false b = a ≤ b
AtMost false a true b = (a ≡ 0) × (b ≡ 0)
AtMost true a false b = Unit {0}
AtMost true a true b = b ≤ a

-- ---- what the tests say, and what makes them hold
pub below-says : (s t : Bool) (a b : ℕ) → T (below s a t b) → Below s a t b
below-says false false a b h = ltb→lt a b h
below-says false true a b h = h
below-says true false a b h = ltb→lt 0 (a + b) h
below-says true true a b h = ltb→lt b a h

pub not-below-says : (s t : Bool) (a b : ℕ) → T (not (below t b s a)) → AtMost s a t b
not-below-says false false a b h = nltb→le b a h
not-below-says false true a b h =
    let z : b + a ≤ 0 = nltb→le 0 (b + a) h in
    (omega arith, omega arith)
not-below-says true false a b h = tt
not-below-says true true a b h = nltb→le a b h

pub at-most-says : (s t : Bool) (a b : ℕ) → T (below s a t b || level s a t b) → AtMost s a t b
at-most-says false false a b h = elim (or_split (ltb a b) (eqb a b && true) h) [
  | inl u ↦ le_of_lt (ltb→lt a b u)
  | inr u ↦ le_of_eq (eqb→eq a b (and_l (eqb a b) true u))
]
at-most-says false true a b h =
    let z = eqb→eq a 0 (and_r (eqb a b) (eqb a 0) h) in
    (z, sym (eqb→eq a b (and_l (eqb a b) (eqb a 0) h)) ∙ z)
at-most-says true false a b h = tt
at-most-says true true a b h = elim (or_split (ltb b a) (eqb a b && true) h) [
  | inl u ↦ le_of_lt (ltb→lt b a u)
  | inr u ↦ le_of_eq (sym (eqb→eq a b (and_l (eqb a b) true u)))
]

both_zero : (a b : ℕ) → a + b ≡ 0 → (a ≡ 0) × (b ≡ 0)
both_zero a b e = (omega arith, omega arith)

pub at-most-test : (s t : Bool) (a b : ℕ) → AtMost s a t b → T (below s a t b || level s a t b)
at-most-test false false a b h = elim (eq-or-lt_of_le h) [
  | inl p ↦ or_r (ltb a b) (eqb a b && true) (and_i (eqb a b) true (eq→eqb p) tt)
  | inr q ↦ or_l (ltb a b) (eqb a b && true) (lt→ltb a b q)
]
at-most-test false true a b h = and_i (eqb a b) (eqb a 0) (eq→eqb (h.0 ∙ sym h.1)) (eq→eqb h.0)
at-most-test true false a b h = elim (eq-zero-or-pos (a + b)) [
  | inl z ↦
      let zs = both_zero a b z in
      let same = eq→eqb (zs.0 ∙ sym zs.1) in
      or_r (ltb 0 (a + b)) (eqb a b && eqb a 0) (and_i (eqb a b) (eqb a 0) same (eq→eqb zs.0))
  | inr p ↦ or_l (ltb 0 (a + b)) (eqb a b && eqb a 0) (lt→ltb 0 (a + b) p)
]
at-most-test true true a b h = elim (eq-or-lt_of_le h) [
  | inl p ↦ or_r (ltb b a) (eqb a b && true) (and_i (eqb a b) true (eq→eqb (sym p)) tt)
  | inr q ↦ or_l (ltb b a) (eqb a b && true) (lt→ltb b a q)
]

pub clash : (s t : Bool) (a b : ℕ) → Below s a t b → AtMost t b s a → ⊥
clash false false a b h k = omega arith
clash false true a b h k = h
clash true false a b h k = let p = k.0 in let q = k.1 in omega arith
clash true true a b h k = omega arith

-- ---- AtMost under a common factor, and through a middle fraction
pub zero_of : (a k : ℕ) → 0 < k → a * k ≡ 0 → a ≡ 0
zero_of a k K e = elim (eq-zero-or-pos a) [
  | inl z ↦ z
  | inr p ↦ absurd (let h : 0 < a * k = mul-pos p K in omega arith)
]

pub zero-times : (a k : ℕ) → a ≡ 0 → a * k ≡ 0
zero-times a k e = ap (λ (n : ℕ). n * k) e ∙ zero-mul k

pub at-most-refl : (s : Bool) (a : ℕ) → AtMost s a s a
at-most-refl false a = le_refl a
at-most-refl true a = le_refl a

pub at-most-flip : (s t : Bool) (a b : ℕ) → AtMost s a t b → AtMost (not t) b (not s) a
at-most-flip false false a b h = h
at-most-flip false true a b h = (h.1, h.0)
at-most-flip true false a b h = tt
at-most-flip true true a b h = h

pub at-most-scale : (s t : Bool) (a b k : ℕ) → AtMost s a t b → AtMost s (a * k) t (b * k)
at-most-scale false false a b k h = mul-le-mul_right k h
at-most-scale false true a b k h = (zero-times a k h.0, zero-times b k h.1)
at-most-scale true false a b k h = tt
at-most-scale true true a b k h = mul-le-mul_right k h

-- ±x / p ≤ ±y / q ≤ ±z / r, each as a product across
pub at-most-trans : (s t u : Bool) (x y z p q r : ℕ) → 0 < p → 0 < q → 0 < r
    → AtMost s (x * q) t (y * p) → AtMost t (y * r) u (z * q) → AtMost s (x * r) u (z * p)
at-most-trans false false false x y z p q r P Q R h k = through x y z p q r Q h k
at-most-trans false false true x y z p q r P Q R h k =
    let e : y * p ≡ 0 = zero-times y p (zero_of y r R k.0) in
    let d : x * q ≡ 0 = omega arith in
    (zero-times x r (zero_of x q Q d), zero-times z p (zero_of z q Q k.1))
at-most-trans false true false x y z p q r P Q R h k =
    let e : x * r ≡ 0 = zero-times x r (zero_of x q Q h.0) in
    omega arith
at-most-trans false true true x y z p q r P Q R h k =
    let e : y * r ≡ 0 = zero-times y r (zero_of y p P h.1) in
    let d : z * q ≡ 0 = omega arith in
    (zero-times x r (zero_of x q Q h.0), zero-times z p (zero_of z q Q d))
at-most-trans true false false x y z p q r P Q R h k = tt
at-most-trans true false true x y z p q r P Q R h k =
    let e : z * p ≡ 0 = zero-times z p (zero_of z q Q k.1) in
    omega arith
at-most-trans true true false x y z p q r P Q R h k = tt
at-most-trans true true true x y z p q r P Q R h k = through z y x r q p Q k h
