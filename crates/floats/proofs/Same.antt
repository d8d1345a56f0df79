-- Two f64 that are equal as numbers are the same data, unless both are zeros: +0 and -0 are equal as numbers and differ
-- as data. Assumes nothing.
use mathlib.Core.Path.{◌≡◌, refl, sym, ap, ◌∙◌}
use mathlib.Core.Bool.{Bool, true, false, ◌||◌, beq, true≢false}
use Prim.Native.Nat.{ℕ, zero, suc, ◌+◌, ◌*◌, ◌%◌, ◌^◌, ◌<◌}
use native.Mathlib.Nat.{zero-lt-suc, mul-pos, eq_of_mul-eq-mul_right}
use native.Mathlib.Nat.{mul-one, zero-mul, mul_assoc, mul-mod_left, pow-suc}
use native.Mathlib.Omega.{arith}
use lib.Dec.{T, eqb, eqb→eq}
use lib.IntN.{ℤ, pos, negsuc}
use lib.Pow.{pow-add}
use lib.Ieee.{Float, nan, inf, fin, Format, binary64, up, down, eq, fits, neg, of_bits}
use lib.Ieee.Fits.{and_l, and_r, up_pos, down_pos}
use Rattle.floats.specs.Arithmetic.{◌≤ᶠ◌, 0ᶠ}
use Rattle.floats.proofs.Tests.{yes}
use Rattle.floats.proofs.Order.{le_antisym}
use Rattle.floats.proofs.Rounding.{fits-says}

even : (n b : ℕ) → n * 2 ^ suc b % 2 ≡ 0
even n b =
    ap (λ (x : ℕ). n * x % 2) (pow-suc 2 b)
    ∙ ap (λ (x : ℕ). x % 2) (sym (mul_assoc n (2 ^ b) 2))
    ∙ mul-mod_left (n * 2 ^ b) 2

not-even : (m k : ℕ) → m % 2 ≡ 1 → m ≡ k → k % 2 ≡ 0 → ⊥
not-even m k o e z = let d : m % 2 ≡ 0 = ap (λ (x : ℕ). x % 2) e ∙ z in omega arith

-- an odd number times a power of two is so in one way
odd_pow : (m n a b : ℕ) → m % 2 ≡ 1 → n % 2 ≡ 1 → m * 2 ^ a ≡ n * 2 ^ b → (m ≡ n) × (a ≡ b)
odd_pow m n zero zero o p h = (sym (mul-one m) ∙ h ∙ mul-one n, refl)
odd_pow m n zero (suc b) o p h = absurd (not-even m (n * 2 ^ suc b) o (sym (mul-one m) ∙ h) (even n b))
odd_pow m n (suc a) zero o p h = absurd (not-even n (m * 2 ^ suc a) p (sym (mul-one n) ∙ sym h) (even m a))
odd_pow m n (suc a) (suc b) o p h =
    let half : (k c : ℕ) → k * 2 ^ suc c ≡ k * 2 ^ c * 2 =
    λ k c. ap (λ (x : ℕ). k * x) (pow-suc 2 c) ∙ sym (mul_assoc k (2 ^ c) 2) in
    let h' = eq_of_mul-eq-mul_right 2 (zero-lt-suc 1) (m * 2 ^ a) (n * 2 ^ b) (sym (half m a) ∙ h ∙ half n b) in
    let r = odd_pow m n a b o p h' in
    (r.0, ap suc r.1)

no_zero : (a b : ℕ) → a + suc b ≡ 0 → ⊥
no_zero a b h = omega arith

joined : (m a b : ℕ) → m * 2 ^ (a + b) ≡ m * 2 ^ a * 2 ^ b
joined m a b = ap (λ (x : ℕ). m * x) (pow-add 2 a b) ∙ sym (mul_assoc m (2 ^ a) (2 ^ b))

one_way : (m n : ℕ) (e d : ℤ) → m % 2 ≡ 1 → n % 2 ≡ 1 → m * up e * down d ≡ n * up d * down e → (m ≡ n) × (e ≡ d)
one_way m n (pos a) (pos b) o p h =
    let r = odd_pow m n a b o p (sym (mul-one (m * 2 ^ a)) ∙ h ∙ mul-one (n * 2 ^ b)) in
    (r.0, ap pos r.1)
one_way m n (pos a) (negsuc b) o p h =
    let r = odd_pow m n (a + suc b) 0 o p (joined m a (suc b) ∙ h ∙ mul-one (n * 1)) in
    absurd (no_zero a b r.1)
one_way m n (negsuc a) (pos b) o p h =
    let r = odd_pow n m (b + suc a) 0 p o (joined n b (suc a) ∙ sym h ∙ mul-one (m * 1)) in
    absurd (no_zero b a r.1)
one_way m n (negsuc a) (negsuc b) o p h =
    let h' = ap (λ (x : ℕ). x * 2 ^ suc b) (sym (mul-one m)) ∙ h ∙ ap (λ (x : ℕ). x * 2 ^ suc a) (mul-one n) in
    let r = odd_pow m n (suc b) (suc a) o p h' in
    (r.0, ap negsuc (ap pred' (sym r.1)))
  where
    pred' : ℕ → ℕ
    pred' zero = zero
    pred' (suc n) = n

same_sign : (s t : Bool) (a : ℕ) → 0 < a → T (beq s t || eqb a 0) → s ≡ t
same_sign false false a A h = refl
same_sign false true a A h = absurd (let e = eqb→eq a 0 h in omega arith)
same_sign true false a A h = absurd (let e = eqb→eq a 0 h in omega arith)
same_sign true true a A h = refl

no-prod : (m : ℕ) (e d : ℤ) → 0 * up e * down d ≡ suc m * up d * down e → ⊥
no-prod m e d h =
    let p : 0 < suc m * up d * down e = mul-pos (mul-pos (zero-lt-suc m) (up_pos d)) (down_pos e) in
    let z : 0 * up e * down d ≡ 0 = simp zero-mul in
    omega arith

-- a zero of either sign
abbrev pub is_zero : Float → Bool
is_zero nan = false
is_zero (inf s) = false
is_zero (fin s m e) = eqb m 0

same : (f : Format) (x y : Float) → T (fits f x) → T (fits f y) → T (eq x y) → is_zero x ≡ false → x ≡ y
unfolding eq
same f nan y F G h z = absurd h
same f (inf s) nan F G h z = absurd h
same f (inf true) (inf true) F G h z = refl
same f (inf true) (inf false) F G h z = absurd h
same f (inf false) (inf true) F G h z = absurd h
same f (inf false) (inf false) F G h z = refl
same f (inf s) (fin t n d) F G h z = absurd h
same f (fin s m e) nan F G h z = absurd h
same f (fin s m e) (inf t) F G h z = absurd h
same f (fin s zero e) (fin t n d) F G h z = absurd (true≢false z)
same f (fin s (suc m) e) (fin t zero d) F G h z =
    let a = suc m * up e * down d in
    let b = 0 * up d * down e in
    absurd (no-prod m d e (sym (eqb→eq a b (and_l (eqb a b) (beq s t || eqb a 0) h))))
same f (fin s (suc m) e) (fin t (suc n) d) F G h z =
    let a = suc m * up e * down d in
    let b = suc n * up d * down e in
    let A : 0 < a = mul-pos (mul-pos (zero-lt-suc m) (up_pos e)) (down_pos d) in
    let sizes = eqb→eq a b (and_l (eqb a b) (beq s t || eqb a 0) h) in
    let r = one_way (suc m) (suc n) e d (fits-says f s m e F).is_odd (fits-says f t n d G).is_odd sizes in
    let g = same_sign s t a A (and_r (eqb a b) (beq s t || eqb a 0) h) in
    λ i. fin (g i) (r.0 i) (r.1 i)

-- x == y says that x and y are the same data, where x is no zero
pub eq→same : (x y : Float) → fits binary64 x ≡ true → fits binary64 y ≡ true → is_zero x ≡ false → eq x y ≡ true
    → x ≡ y
eq→same x y F G z h = same binary64 x y (yes F) (yes G) (yes h) z

pub antisym : (x y : Float) → fits binary64 x ≡ true → fits binary64 y ≡ true → is_zero x ≡ false
    → x ≤ᶠ y ≡ true → y ≤ᶠ x ≡ true → x ≡ y
antisym x y F G z h k = eq→same x y F G z (le_antisym x y h k)

-- the two zeros
pub zeros_equal : eq 0ᶠ (neg 0ᶠ) ≡ true
unfolding eq neg of_bits
zeros_equal = refl

sign_of : Float → Bool
sign_of nan = false
sign_of (inf s) = s
sign_of (fin s m e) = s

pub zeros_differ : 0ᶠ ≡ neg 0ᶠ → ⊥
unfolding sign_of neg of_bits
zeros_differ e = true≢false (sym (ap sign_of e))
