-- A finite f64 times a factor above 0 and below 1 is finite: in size the product is at most the number, and `round`
-- keeps the order. Assumes nothing.
use mathlib.Core.Path.{◌≡◌}
use mathlib.Core.Bool.{Bool, true, false}
use Prim.Native.Nat.{ℕ, ◌*◌, ◌≤◌, ◌<◌}
use native.Mathlib.Nat.{zero-mul, mul-pos, mul-le-mul_left}
use native.Mathlib.Omega.{arith}
use lib.Dec.{T, ltb→lt}
use lib.IntN.{ℤ, pos}
use lib.Ieee.{Float, nan, inf, fin, Format, binary32, binary64, up, down, round, mul, lt, le, fits, of_bits}
use lib.Ieee.Bits.{is_true}
use lib.Ieee.Exact.{HasValue}
use lib.Ieee.Fits.{down_pos}
use lib.Ieee.Scale.{finite}
use Rattle.floats.specs.Arithmetic.{◌⊗◌, ◌<ᶠ◌, ◌≤ᶠ◌, 0ᶠ, 1ᶠ}
use Rattle.floats.proofs.Tests.{yes}
use Rattle.floats.proofs.Rounding.{round-own, round-le}

value-finite : (x : Float) (s : Bool) (a c : ℕ) → HasValue x s a c → T (finite x)
value-finite nan s a c h = h
value-finite (inf t) s a c h = h
value-finite (fin t m e) s a c h = tt

finite-between : (x y z : Float) → T (finite x) → T (finite z) → T (le x y) → T (le y z) → T (finite y)
unfolding le
finite-between nan y z p q h k = absurd p
finite-between (inf s) y z p q h k = absurd p
finite-between (fin s m e) nan z p q h k = h
finite-between (fin s m e) (inf true) z p q h k = h
finite-between (fin s m e) (inf false) nan p q h k = k
finite-between (fin s m e) (inf false) (inf t) p q h k = q
finite-between (fin s m e) (inf false) (fin t n d) p q h k = k
finite-between (fin s m e) (fin t n d) z p q h k = tt

pub between-finite : (x y z : Float) → finite x ≡ true → finite z ≡ true → x ≤ᶠ y ≡ true → y ≤ᶠ z ≡ true
    → finite y ≡ true
between-finite x y z p q h k = is_true (finite y) (finite-between x y z (yes p) (yes q) (yes h) (yes k))

zero-finite : (f : Format) → T (finite (round f false 0 1))
unfolding round
zero-finite binary32 = tt
zero-finite binary64 = tt

-- a fraction no larger than a value of the format rounds to a finite value
no-larger : (f : Format) (s : Bool) (m : ℕ) (e : ℤ) (a c : ℕ) → T (fits f (fin s m e)) → 0 < c
    → a * down e ≤ m * up e * c → T (finite (round f s a c))
no-larger f false m e a c F C h =
    let top = round f false (m * up e) (down e) in
    finite-between (round f false 0 1) (round f false a c) top (zero-finite f)
    (value-finite top false (m * up e) (down e) (round-own f false m e F))
    (round-le f false false 0 1 a c (omega arith) C (let z : 0 * c ≡ 0 = zero-mul c in omega arith))
    (round-le f false false a c (m * up e) (down e) C (down_pos e) h)
no-larger f true m e a c F C h =
    let top = round f true (m * up e) (down e) in
    finite-between top (round f true a c) (round f false 0 1)
    (value-finite top true (m * up e) (down e) (round-own f true m e F)) (zero-finite f)
    (round-le f true true (m * up e) (down e) a c (down_pos e) C h)
    (round-le f true false a c 0 1 C (omega arith) tt)

scaled : (a b n d : ℕ) → n ≤ d → a * n * b ≤ a * (b * d)
scaled a b n d h = omega (arith, mul-le-mul_left (a * b) h)

-- x times n * 2 ^ d, at most 1
times-finite : (f : Format) (x : Float) (n : ℕ) (d : ℤ) → T (fits f x) → T (finite x) → n * up d ≤ down d
    → T (finite (mul f x (fin false n d)))
unfolding mul
times-finite f nan n d F p h = absurd p
times-finite f (inf s) n d F p h = absurd p
times-finite f (fin false m e) n d F p h =
    no-larger f false m e _ _ F (mul-pos (down_pos e) (down_pos d)) (scaled (m * up e) (down e) (n * up d) (down d) h)
times-finite f (fin true m e) n d F p h =
    no-larger f true m e _ _ F (mul-pos (down_pos e) (down_pos d)) (scaled (m * up e) (down e) (n * up d) (down d) h)

below_one : (n : ℕ) (d : ℤ) → T (lt (fin false n d) (fin false 1 (pos 0))) → n * up d ≤ down d
unfolding lt
below_one n d h =
    let l : n * up d * 1 < 1 * 1 * down d = ltb→lt (n * up d * 1) (1 * 1 * down d) h in
    omega arith

shrinks-finite : (x r : Float) → T (fits binary64 x) → T (finite x) → T (lt (fin false 0 (pos 0)) r)
    → T (lt r (fin false 1 (pos 0))) → T (finite (x ⊗ r))
unfolding lt
shrinks-finite x nan F p h k = absurd h
shrinks-finite x (inf true) F p h k = absurd h
shrinks-finite x (inf false) F p h k = absurd k
shrinks-finite x (fin true n d) F p h k = absurd h
shrinks-finite x (fin false n d) F p h k = times-finite binary64 x n d F p (below_one n d k)

pub times-below-one : (x r : Float) → fits binary64 x ≡ true → finite x ≡ true → 0ᶠ <ᶠ r ≡ true → r <ᶠ 1ᶠ ≡ true
    → finite (x ⊗ r) ≡ true
unfolding of_bits
times-below-one x r F p h k = is_true (finite (x ⊗ r)) (shrinks-finite x r (yes F) (yes p) (yes h) (yes k))
