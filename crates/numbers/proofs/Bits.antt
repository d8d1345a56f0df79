-- 02, request 5: the exponent bits decide whether a float is finite (`by-exponent-bits`). 01, "Absolute value clears
-- the sign bit", as a fact of the 64 bits (`abs-clears`). What a float's comparison with itself says. Assumes
-- nothing.
use mathlib.Core.Path.{◌≡◌, refl, sym, ap, ◌∙◌, subst}
use Prim.Native.Nat.{ℕ, zero, suc, ◌+◌, ◌/◌, ◌%◌, ◌<◌}
use native.Mathlib.Nat.{mod-lt, mod-mod, mod-mod_of_dvd, dvd-mul_right, div-lt_iff_lt-mul}
use native.Mathlib.Omega.{arith}
use mathlib.Core.Bool.{Bool, true, false, not, cond, false≢true}
use lib.Dec.{T, leb, ltb, eqb, lit<}
use lib.Ieee.{Float, nan, inf, fin, binary64, low, hid, top, odd, of_fields, of_bits, is_nan, eq, ne}
use lib.Ieee.Compare.{differs_from_itself}
use lib.Ieee.Scale.{finite}
use borrow.Author.Tests.{lt-leb, ltb-true, ltb-false, eq-eqb, ne_eqb}
use Rattle.numbers.specs.Numbers.{abs_of, exponent_bits, ByExponentBits}

-- ---- the exponent bits
odd-finite : (d : ℕ) (s : Bool) (q k l : ℕ) → finite (odd d s q k l) ≡ true
unfolding odd
odd-finite d s zero k l = refl
odd-finite d s (suc q) k l = refl

fields-finite : (a b s : Bool) (v : Float) → finite v ≡ true → finite (cond a (cond b (inf s) nan) v) ≡ not a
fields-finite true true s v h = refl
fields-finite true false s v h = refl
fields-finite false b s v h = h

of_fields-finite : (s : Bool) (x t : ℕ) → finite (of_fields binary64 s x t) ≡ not (eqb x 2047)
unfolding of_fields
of_fields-finite s zero t = odd-finite 53 s t 0 (low binary64)
of_fields-finite s (suc x) t =
    fields-finite (eqb (suc x) 2047) (eqb t 0) s _ (odd-finite 53 s (hid binary64 + t) x (low binary64))

-- eleven bits are 7FF or below it
eleven : (e : ℕ) → e < 2048 → (b : Bool) → ltb e 2047 ≡ b → not (eqb e 2047) ≡ b
eleven e h true t = let l = ltb-true e 2047 t in ap not (ne_eqb e 2047 (λ q. omega arith))
eleven e h false t = let l = ltb-false e 2047 t in ap not (eq-eqb e 2047 (omega arith))

pub by-exponent-bits : ByExponentBits
unfolding of_bits
by-exponent-bits w =
    of_fields-finite (leb (top binary64) w) (exponent_bits w) (w % hid binary64)
    ∙ eleven (exponent_bits w) ((div-lt_iff_lt-mul {k = hid binary64} (lit< tt)).1 (mod-lt w (lit< tt))) _ refl

-- ---- the sign bit
odd-abs : (d : ℕ) (s : Bool) (q k l : ℕ) → abs_of (odd d s q k l) ≡ odd d false q k l
unfolding odd
odd-abs d s zero k l = refl
odd-abs d s (suc q) k l = refl

fields-abs : (a b s : Bool) (v w : Float) → abs_of v ≡ w
    → abs_of (cond a (cond b (inf s) nan) v) ≡ cond a (cond b (inf false) nan) w
fields-abs true true s v w h = refl
fields-abs true false s v w h = refl
fields-abs false b s v w h = h

of_fields-abs : (s : Bool) (x t : ℕ) → abs_of (of_fields binary64 s x t) ≡ of_fields binary64 false x t
unfolding of_fields
of_fields-abs s zero t = odd-abs 53 s t 0 (low binary64)
of_fields-abs s (suc x) t =
    fields-abs (eqb (suc x) 2047) (eqb t 0) s _ _ (odd-abs 53 s (hid binary64 + t) x (low binary64))

-- top binary64 is 2 ^ 63, the sign bit's weight
pub abs-clears : (n : ℕ) → of_bits binary64 (n % top binary64) ≡ abs_of (of_bits binary64 n)
unfolding of_bits
abs-clears n =
    let sign : leb (top binary64) (n % top binary64) ≡ false = lt-leb _ _ (mod-lt n (lit< tt)) in
    rw (sign, mod-mod, mod-mod_of_dvd (hid binary64) n (dvd-mul_right (hid binary64) 2048))
    (sym (of_fields-abs (leb (top binary64) n) (n % top binary64 / hid binary64) (n % hid binary64)))

pub abs-no-nan : (x : Float) → T (not (is_nan x)) → T (not (is_nan (abs_of x)))
unfolding is_nan
abs-no-nan nan h = h
abs-no-nan (inf s) h = tt
abs-no-nan (fin s m e) h = tt

-- ---- a value compared with itself
pub equals_itself : (x : Float) → eq x x ≡ true → T (not (is_nan x))
unfolding eq is_nan
equals_itself nan e = absurd (false≢true e)
equals_itself (inf s) e = tt
equals_itself (fin s m e') e = tt

pub unlike-itself : (x : Float) → eq x x ≡ false → x ≡ nan
unfolding ne
unlike-itself x e = differs_from_itself x (subst (λ (b : Bool). T (not b)) (sym e) tt)
