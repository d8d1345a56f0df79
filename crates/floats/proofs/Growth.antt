-- Two facts about computed sums and products, on which a start that brackets rests: x ≤ x + e for e ≥ 0, so a cost is
-- never above the level L that adds an allowance to it; and x < 5 x for x > 0 while 5 x is finite, so a growing step
-- does grow. Assumes nothing.
use mathlib.Core.Path.{◌≡◌, refl, sym, ap, ◌∙◌, subst}
use mathlib.Core.Logic.{◌⊎◌, inl, inr}
use mathlib.Core.Bool.{Bool, true, false, not, ◌&&◌, cond}
use Prim.Native.Nat.{ℕ, zero, suc, ◌+◌, ◌-◌, ◌*◌, ◌^◌, ◌≤◌, ◌<◌}
use native.Mathlib.Nat.{le_trans, le_of_eq, zero-lt-suc, mul-pos, mul-le-mul_right, mul-lt-mul_of_pos_right}
use native.Mathlib.Nat.{le_of_mul-le-mul_right, lt_of_mul-lt-mul_right, mul-one, zero-mul, mul_comm, mul_assoc}
use native.Mathlib.Nat.{mul_left_comm, mul_right_comm, pow-succ'}
use native.Mathlib.Omega.{arith}
use lib.Dec.{T, lt→ltb, ltb, ltb→lt, nltb→le}
use lib.IntN.{ℤ, pos}
use lib.Pow.{pow-add, pow_pos}
use lib.Ieee.{Float, nan, inf, fin, Format, binary32, binary64, emax, low, up, down, fits, is_nan, of_bits, round, sum}
use lib.Ieee.{add, mul, lt, le, unlike}
use lib.Ieee.Fits.{down_pos, up_pos}
use lib.Ieee.Exact.{HasValue, round_exact}
use lib.Ieee.Order.{round_mono}
use lib.Ieee.Bits.{is_true}
use lib.Ieee.Positive.{num, den, positive, den_pos, first_pos, own_value, positive_of_value, values_of_le, le→cross}
use lib.Ieee.Positive.{mul_at}
use lib.Ieee.Scale.{finite}
use Rattle.floats.specs.Arithmetic.{◌⊕◌, ◌⊗◌, ◌<ᶠ◌, ◌≤ᶠ◌, 0ᶠ, 5ᶠ}
use Rattle.floats.proofs.Tests.{yes, no, yes_or_no}
use Rattle.floats.proofs.Signed.{AtMost, at-most-says, at-most-refl, at-most-scale, zero_of, zero-times}
use Rattle.floats.proofs.Compare.{trans, converse}
use Rattle.floats.proofs.Order.{finite→real}
use Rattle.floats.proofs.Rounding.{le-values, round-own, round-le, fits-says, units_of}

-- ---- a sum with a value that is not negative
-- r is ±w / c, rounded, and ±w is no smaller than ±a
abbrev Up : Format → Bool → ℕ → ℕ → Float → Type 0
Up f s a c r = (u : Bool) × (w : ℕ) × (r ≡ round f u w c) × AtMost s a u w

-- so is ±a plus a ±b that is not negative
sum-up : (f : Format) (s t : Bool) (a b c : ℕ) → AtMost false 0 t b → Up f s a c (sum f s a t b c)
unfolding sum
sum-up f false false a b c h = (false, a + b, refl, omega arith)
sum-up f true true a b c h = (true, a + b, refl, let e = h.1 in omega arith)
sum-up f true false a b c h = go (ltb a b) (ltb b a)
  where
    go : (p q : Bool) → Up f true a c (cond p (round f false (b - a) c) (round f (true && q) (a - b) c))
    go true q = (false, b - a, refl, tt)
    go false true = (true, a - b, refl, omega arith)
    go false false = (false, a - b, refl, tt)
sum-up f false true a b c h = go (ltb a b) (ltb→lt a b)
  where
    go : (p : Bool) → (T p → a < b)
        → Up f false a c (cond p (round f true (b - a) c) (round f (false && ltb b a) (a - b) c))
    go true k = let l = k tt in let e = h.1 in absurd (omega arith)
    go false k = (false, a - b, refl, let e = h.1 in omega arith)

-- what `0 ≤ y` says of y's sign and size, at any denominator
not_negative : (t : Bool) (y k : ℕ) → AtMost false 0 t (y * 1) → AtMost false 0 t (y * k)
not_negative false y k h = omega arith
not_negative true y k h = (refl, zero-times y k (zero_of y 1 (omega arith) h.1))

up-fin : (f : Format) (s : Bool) (m : ℕ) (e : ℤ) (t : Bool) (n : ℕ) (d : ℤ) → T (fits f (fin s m e))
    → AtMost false 0 t (n * up d * 1) → T (le (fin s m e) (add f (fin s m e) (fin t n d)))
unfolding add
up-fin f s m e t n d F h =
    let x = fin s m e in
    let v = m * up e in
    let rounded = round f s v (down e) in
    let a = v * down d in
    let c = down e * down d in
    let C : 0 < c = mul-pos (down_pos e) (down_pos d) in
    let z = sum-up f s t a (n * up d * down e) c (not_negative t (n * up d) (down e) h) in
    let own : T (le x rounded) =
    le-values x rounded s s v (down e) v (down e) (down_pos e) (down_pos e) (refl, refl) (round-own f s m e F)
    (at-most-refl s (v * down e)) in
    let swap : a * down e ≡ v * c =
    mul_assoc v (down d) (down e) ∙ ap (λ (k : ℕ). v * k) (mul_comm (down d) (down e)) in
    let near : AtMost s (v * c) z.0 (z.1 * down e) =
    subst (λ (k : ℕ). AtMost s k z.0 (z.1 * down e)) swap (at-most-scale s z.0 a z.1 (down e) z.3) in
    let higher : T (le rounded (round f z.0 z.1 c)) =
    round-le f s z.0 v (down e) z.1 c (down_pos e) C near in
    subst (λ (y : Float). T (le x y)) (sym z.2) (trans x rounded (round f z.0 z.1 c) own higher)

up_of : (f : Format) (x y : Float) → T (fits f x) → T (finite x) → T (le (fin false 0 (pos 0)) y) → T (le x (add f x y))
unfolding le
up_of f nan y F p h = absurd p
up_of f (inf s) y F p h = absurd p
up_of f (fin s m e) nan F p h = absurd h
up_of f (fin s m e) (inf true) F p h = absurd h
up_of f (fin s m e) (inf false) F p h = unfold add in tt
up_of f (fin s m e) (fin t n d) F p h =
    let y = n * up d * 1 in
    up-fin f s m e t n d F
    (subst (λ (k : ℕ). AtMost false k t y) (zero-mul (down d)) (at-most-says false t (0 * down d) y h))

-- x ≤ x + e for e ≥ 0, minus zero too. Where the sum overflows it is +infinity, which is no smaller either
pub add-up : (x e : Float) → fits binary64 x ≡ true → finite x ≡ true → 0ᶠ ≤ᶠ e ≡ true → x ≤ᶠ x ⊕ e ≡ true
unfolding of_bits
add-up x e F p h = is_true (x ≤ᶠ x ⊕ e) (up_of binary64 x e (yes F) (yes p) (yes h))

-- ---- a product with a value that has no sign
-- ±a / c, where it is not negative, rounds to a value that is not
round-not-negative : (f : Format) (t : Bool) (a c : ℕ) → 0 < c → AtMost false 0 t a
    → T (le (round f false 0 1) (round f t a c))
round-not-negative f t a c C h =
    round-le f false t 0 1 a c (omega arith) C
    (subst (λ (k : ℕ). AtMost false k t (a * 1)) (sym (zero-mul c))
    (subst (λ (k : ℕ). AtMost false 0 t k) (sym (mul-one a)) h))

zero-rounds : (y : Float) → T (le (round binary64 false 0 1) y) → T (le (fin false 0 (pos 0)) y)
unfolding round
zero-rounds y h = h

rounds-up-from-zero : (t : Bool) (a c : ℕ) → 0 < c → AtMost false 0 t a
    → T (le (fin false 0 (pos 0)) (round binary64 (unlike t false) a c))
rounds-up-from-zero false a c C h = zero-rounds (round binary64 false a c) (round-not-negative binary64 false a c C h)
rounds-up-from-zero true a c C h = zero-rounds (round binary64 true a c) (round-not-negative binary64 true a c C h)

times-of : (x : Float) (n : ℕ) (d : ℤ) → T (finite x) → T (le (fin false 0 (pos 0)) x)
    → T (le (fin false 0 (pos 0)) (mul binary64 x (fin false n d)))
unfolding le mul
times-of nan n d p h = absurd p
times-of (inf s) n d p h = absurd p
times-of (fin s m e) n d p h =
    let y = m * up e * 1 in
    let own : AtMost false 0 s y =
    subst (λ (k : ℕ). AtMost false k s y) (zero-mul (down e)) (at-most-says false s (0 * down e) y h) in
    rounds-up-from-zero s (m * up e * (n * up d)) (down e * down d) (mul-pos (down_pos e) (down_pos d))
    (not_negative s (m * up e) (n * up d) own)

-- 0 ≤ x n 2 ^ d for a finite x ≥ 0
pub times-not-negative : (x : Float) (n : ℕ) (d : ℤ) → finite x ≡ true → 0ᶠ ≤ᶠ x ≡ true
    → 0ᶠ ≤ᶠ x ⊗ fin false n d ≡ true
unfolding of_bits
times-not-negative x n d p h = is_true (0ᶠ ≤ᶠ x ⊗ fin false n d) (times-of x n d (yes p) (yes h))

-- ---- twice a positive value or more is larger
top-inf : (f : Format) → round f false (2 ^ suc (emax f)) 1 ≡ inf false
unfolding round
top-inf binary32 = refl
top-inf binary64 = refl

past_top : (r : Float) → T (le (inf false) r) → T (finite r) → ⊥
unfolding le
past_top nan h p = p
past_top (inf s) h p = p
past_top (fin s m e) h p = h

-- twice m * 2 ^ e is a value of the format, if it is below the top
twice-val : (f : Format) (m : ℕ) (e : ℤ) → T (fits f (fin false (suc m) e))
    → 2 * (suc m * up e) < 2 ^ suc (emax f) * down e
    → HasValue (round f false (2 * (suc m * up e)) (down e)) false (2 * (suc m * up e)) (down e)
twice-val f m e F h =
    let s = fits-says f false m e F in
    let u = units_of f (suc m) e s.fine s.small in
    let a = suc m * up e in
    let j = u.0 in
    let l = 2 ^ low f in
    let t = 2 ^ suc (emax f) in
    let top = 2 ^ (low f + suc (emax f)) in
    let twice : suc m * 2 ^ suc j ≡ 2 * (suc m * 2 ^ j) =
    ap (λ (k : ℕ). suc m * k) (pow-succ' 2 j) ∙ mul_left_comm (suc m) 2 (2 ^ j) in
    let same : 2 * a * l ≡ suc m * 2 ^ suc j * down e =
    mul_assoc 2 a l
    ∙ ap (λ (k : ℕ). 2 * k) u.2
    ∙ sym (mul_assoc 2 (suc m * 2 ^ j) (down e))
    ∙ ap (λ (k : ℕ). k * down e) (sym twice) in
    let tops : t * down e * l ≡ top * down e =
    mul_right_comm t (down e) l
    ∙ ap (λ (k : ℕ). k * down e) (mul_comm t l ∙ sym (pow-add 2 (low f) (suc (emax f)))) in
    let g : 2 * a * l < t * down e * l = mul-lt-mul_of_pos_right h (pow_pos (low f)) in
    let g' : suc m * 2 ^ suc j * down e < top * down e =
    subst (λ (k : ℕ). k < top * down e) same (subst (λ (k : ℕ). 2 * a * l < k) tops g) in
    round_exact f false (2 * a) (down e) (suc m) (suc j) (down_pos e) s.digits
    (lt_of_mul-lt-mul_right (down e) g') same

halve : (a : ℕ) → 0 < a → 2 * a ≤ a → ⊥
halve a h k = omega arith

-- w / c is twice x or more, and rounds to a finite r: then r ≤ x is absurd
not-below-twice : (f : Format) (m : ℕ) (e : ℤ) (w c : ℕ) → T (fits f (fin false (suc m) e)) → 0 < c
    → 2 * (suc m * up e) * c ≤ w * down e
    → T (finite (round f false w c)) → T (le (round f false w c) (fin false (suc m) e)) → ⊥
not-below-twice f m e w c F C big p k = go (yes_or_no (ltb (2 * (suc m * up e)) (2 ^ suc (emax f) * down e)))
  where
    go : T (ltb (2 * (suc m * up e)) (2 ^ suc (emax f) * down e))
        ⊎ T (not (ltb (2 * (suc m * up e)) (2 ^ suc (emax f) * down e))) → ⊥
    go (inl q) =
        let a = suc m * up e in
        let A : 0 < a = mul-pos (zero-lt-suc m) (up_pos e) in
        let x = fin false (suc m) e in
        let y = round f false (2 * a) (down e) in
        let X : T (positive x) = lt→ltb 0 (suc m) (zero-lt-suc m) in
        let v = twice-val f m e F (ltb→lt (2 * a) (2 ^ suc (emax f) * down e) q) in
        let Y : T (positive y) = positive_of_value y (2 * a) (down e) v (mul-pos (zero-lt-suc 1) A) in
        let l = trans y (round f false w c) x (round_mono f (2 * a) (down e) w c (down_pos e) C big) k in
        let n : 2 * a * down e ≤ a * down e = values_of_le y x (2 * a) (down e) a (down e) Y X v (refl, refl) l in
        halve a A (le_of_mul-le-mul_right n (down_pos e))
    go (inr q) =
        let a = suc m * up e in
        let t = 2 ^ suc (emax f) in
        let n : t * down e ≤ 2 * a = nltb→le (2 * a) (t * down e) q in
        let n' : t * c * down e ≤ w * 1 * down e =
        le_trans (le_of_eq (mul_right_comm t c (down e)))
        (le_trans (mul-le-mul_right c n) (le_trans big (le_of_eq (ap (λ (k : ℕ). k * down e) (sym (mul-one w)))))) in
        let l = round_mono f t 1 w c (zero-lt-suc 0) C (le_of_mul-le-mul_right n' (down_pos e)) in
        past_top (round f false w c) (subst (λ (z : Float). T (le z (round f false w c))) (top-inf f) l) p

twice-lt : (f : Format) (x : Float) (w c : ℕ) → T (positive x) → T (fits f x) → 0 < c → 2 * num x * c ≤ w * den x
    → T (finite (round f false w c)) → T (lt x (round f false w c))
twice-lt f nan w c P F C big p = absurd P
twice-lt f (inf s) w c P F C big p = absurd P
twice-lt f (fin true m e) w c P F C big p = absurd P
twice-lt f (fin false zero e) w c P F C big p = absurd P
twice-lt f (fin false (suc m) e) w c P F C big p =
    let x = fin false (suc m) e in
    let r = round f false w c in
    elim (yes_or_no (lt x r)) [
      | inl t ↦ t
      | inr n ↦
          let real = no (finite→real r (is_true _ p)) in
          absurd (not-below-twice f m e w c F C big p (converse r x real (unfold is_nan in tt) n))
    ]

-- x < k x for x above 0 and k from 2 on, where the product is finite
mul-grows : (f : Format) (k x : Float) → T (positive k) → T (positive x) → T (fits f x)
    → T (le (fin false 1 (pos 1)) k) → T (finite (mul f k x)) → T (lt x (mul f k x))
mul-grows f k x K X F h p =
    let is = mul_at f k x (num k) (den k) (num x) (den x) K X (den_pos k) (den_pos x) (own_value k K) (own_value x X) in
    let two : 2 * den k ≤ num k * 1 = le→cross (fin false 1 (pos 1)) k tt K h in
    let big : 2 * num x * (den k * den x) ≤ num k * num x * den x =
    le_trans (le_of_eq (simp (mul_assoc, mul_comm, mul_left_comm)))
    (le_trans (mul-le-mul_right (num x * den x) two) (le_of_eq (simp (mul-one, mul_assoc)))) in
    let p' = subst (λ (z : Float). T (finite z)) is p in
    subst (λ (z : Float). T (lt x z)) (sym is)
    (twice-lt f x (num k * num x) (den k * den x) X F (mul-pos (den_pos k) (den_pos x)) big p')

-- a finite value above zero, by a test of the program
above_zero : (n : ℕ) (d : ℤ) → T (ltb (0 * down d) (n * up d * 1)) → T (ltb 0 n)
above_zero n d h =
    let y = n * up d * 1 in
    let Y : 0 < y = subst (λ (k : ℕ). k < y) (zero-mul (down d)) (ltb→lt (0 * down d) y h) in
    lt→ltb 0 n (first_pos n (up d) (first_pos (n * up d) 1 Y))

pub positive-by : (x : Float) → T (finite x) → T (lt (fin false 0 (pos 0)) x) → T (positive x)
unfolding lt
positive-by nan p h = p
positive-by (inf s) p h = p
positive-by (fin true n d) p h = h
positive-by (fin false n d) p h = above_zero n d h

-- x < 5 x for a finite x above 0, where 5 x is finite
pub five-grows : (x : Float) → fits binary64 x ≡ true → finite x ≡ true → 0ᶠ <ᶠ x ≡ true → finite (5ᶠ ⊗ x) ≡ true
    → x <ᶠ 5ᶠ ⊗ x ≡ true
unfolding of_bits
five-grows x F p h q =
    let X = positive-by x (yes p) (yes h) in
    is_true (x <ᶠ 5ᶠ ⊗ x) (mul-grows binary64 5ᶠ x tt X (yes F) (unfold le in tt) (yes q))
