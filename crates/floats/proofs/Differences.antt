-- A computed difference keeps the order: it is no smaller where the first number is no smaller and the second no larger
-- (`sub-mono`). And where no NaN comes in none comes out: a difference of finite numbers, and a product with a factor
-- above 0, are no NaN (`sub-real`, `times-real`); a difference that is none has none in it (`sub-of-real`). Assumes
-- nothing.
use mathlib.Core.Path.{◌≡◌, refl, sym, ap, subst}
use mathlib.Core.Bool.{Bool, true, false, not, cond, ◌&&◌, false≢true}
use Prim.Native.Nat.{ℕ, ◌+◌, ◌-◌, ◌*◌, ◌≤◌, ◌<◌}
use native.Mathlib.Nat.{mul_comm, mul-pos, zero-mul}
use native.Mathlib.Omega.{arith}
use lib.Dec.{T, ltb, eqb, ltb→lt, nltb→le, eqb→eq}
use lib.Ieee.{Float, nan, inf, fin, Format, binary64, up, down, round, neg, sum, add, sub, mul, le, is_nan, of_bits}
use lib.Ieee.{unlike}
use lib.Ieee.Bits.{is_true}
use lib.Ieee.Fits.{down_pos}
use lib.Ieee.Positive.{positive}
use lib.Ieee.Scale.{finite}
use Rattle.floats.specs.Arithmetic.{◌⊖◌, ◌⊗◌, ◌<ᶠ◌, ◌≤ᶠ◌, 0ᶠ}
use Rattle.floats.proofs.Branches.{by_cases}
use Rattle.floats.proofs.Growth.{positive-by}
use Rattle.floats.proofs.Tests.{yes}
use Rattle.floats.proofs.Signed.{AtMost, at-most-says, at-most-scale}
use Rattle.floats.proofs.Rounding.{neg-le, round-real, round-le}

-- ---- ±a as its part above 0 less its part below
abbrev Above : Bool → ℕ → ℕ
Above false a = a
Above true a = 0

abbrev Under : Bool → ℕ → ℕ
Under false a = 0
Under true a = a

at-most-parts : (s t : Bool) (a b : ℕ) → AtMost s a t b → Above s a + Under t b ≤ Above t b + Under s a
at-most-parts false false a b h = omega arith
at-most-parts false true a b h = let p = h.0 in let q = h.1 in omega arith
at-most-parts true false a b h = omega arith
at-most-parts true true a b h = omega arith

parts-at-most : (s t : Bool) (a b : ℕ) → Above s a + Under t b ≤ Above t b + Under s a → AtMost s a t b
parts-at-most false false a b h = omega arith
parts-at-most false true a b h = (omega arith, omega arith)
parts-at-most true false a b h = tt
parts-at-most true true a b h = omega arith

above-scale : (s : Bool) (a k : ℕ) → Above s (a * k) ≡ Above s a * k
above-scale false a k = refl
above-scale true a k = sym (zero-mul k)

under-scale : (s : Bool) (a k : ℕ) → Under s (a * k) ≡ Under s a * k
under-scale false a k = sym (zero-mul k)
under-scale true a k = refl

-- ---- r is ±w / c, rounded, where ±w is ±a plus ±b
abbrev Total : Format → Bool → ℕ → Bool → ℕ → ℕ → Float → Type 0
Total f s a t b c r =
    (u : Bool) × (w : ℕ) × (r ≡ round f u w c)
    × (Above u w + (Under s a + Under t b) ≡ Above s a + Above t b + Under u w)

total : (f : Format) (s t : Bool) (a b c : ℕ) → Total f s a t b c (sum f s a t b c)
unfolding sum
total f false false a b c = (false, a + b, refl, omega arith)
total f true true a b c = (true, a + b, refl, omega arith)
total f false true a b c = go (ltb a b) (ltb→lt a b) (nltb→le a b)
  where
    go : (p : Bool) → (T p → a < b) → (T (not p) → b ≤ a)
        → Total f false a true b c (cond p (round f true (b - a) c) (round f (false && ltb b a) (a - b) c))
    go true l g = (true, b - a, refl, let h = l tt in omega arith)
    go false l g = (false, a - b, refl, let h = g tt in omega arith)
total f true false a b c = go (ltb a b) (ltb→lt a b) (nltb→le a b) (ltb b a) (nltb→le b a)
  where
    go : (p : Bool) → (T p → a < b) → (T (not p) → b ≤ a) → (q : Bool) → (T (not q) → a ≤ b)
        → Total f true a false b c (cond p (round f false (b - a) c) (round f (true && q) (a - b) c))
    go true l g q e = (false, b - a, refl, let h = l tt in omega arith)
    go false l g true e = (true, a - b, refl, let h = g tt in omega arith)
    go false l g false e = (false, a - b, refl, let h = g tt in let k = e tt in omega arith)

-- ±a / c ≤ ±a' / c' and ±b / c ≤ ±b' / c', each as a product across
module _ (f : Format) (s t s' t' : Bool) (a b c a' b' c' : ℕ) (C : 0 < c) (C' : 0 < c')
    (h : AtMost s (a * c') s' (a' * c)) (k : AtMost t (b * c') t' (b' * c)) where
  sums : (r r' : Float) → Total f s a t b c r → Total f s' a' t' b' c' r' → T (le r r')
  sums r r' z z' =
      let u = z.0 in
      let w = z.1 in
      let u' = z'.0 in
      let w' = z'.1 in
      let first = at-most-parts s s' (a * c') (a' * c) h in
      let second = at-most-parts t t' (b * c') (b' * c) k in
      let one : (Above u w + (Under s a + Under t b)) * c' ≡ (Above s a + Above t b + Under u w) * c' =
      ap (λ (n : ℕ). n * c') z.3 in
      let other : (Above u' w' + (Under s' a' + Under t' b')) * c ≡ (Above s' a' + Above t' b' + Under u' w') * c =
      ap (λ (n : ℕ). n * c) z'.3 in
      let near : Above u (w * c') + Under u' (w' * c) ≤ Above u' (w' * c) + Under u (w * c') = omega (
        arith,
        one,
        other,
        first,
        second,
        above-scale s a c',
        above-scale t b c',
        above-scale u w c',
        above-scale s' a' c,
        above-scale t' b' c,
        above-scale u' w' c,
        under-scale s a c',
        under-scale t b c',
        under-scale u w c',
        under-scale s' a' c,
        under-scale t' b' c,
        under-scale u' w' c,
      ) in
      subst (λ (x : Float). T (le x r')) (sym z.2)
      (subst (λ (x : Float). T (le (round f u w c) x)) (sym z'.2)
      (round-le f u u' w c w' c' C C' (parts-at-most u u' (w * c') (w' * c) near)))

-- ---- sums and differences of finite numbers
-- ±a / c ≤ ±b / d, at the larger denominators C and D
wider : (s t : Bool) (a c b d i j C D : ℕ) → c * i ≡ C → d * j ≡ D → AtMost s (a * d) t (b * c)
    → AtMost s (a * i * D) t (b * j * C)
wider s t a c b d i j C D p q h =
    let l : a * d * (i * j) ≡ a * i * D = omega (arith, ap (λ (n : ℕ). a * i * n) q) in
    let r : b * c * (i * j) ≡ b * j * C = omega (arith, ap (λ (n : ℕ). b * j * n) p) in
    subst (λ (n : ℕ). AtMost s n t (b * j * C)) l
    (subst (λ (n : ℕ). AtMost s (a * d * (i * j)) t n) r (at-most-scale s t (a * d) (b * c) (i * j) h))

add-mono : (f : Format) (x y x' y' : Float) → T (finite x) → T (finite y) → T (finite x') → T (finite y')
    → T (le x x') → T (le y y') → T (le (add f x y) (add f x' y'))
unfolding add le
add-mono f nan y x' y' p q p' q' h k = absurd p
add-mono f (inf s) y x' y' p q p' q' h k = absurd p
add-mono f (fin s m e) nan x' y' p q p' q' h k = absurd q
add-mono f (fin s m e) (inf t) x' y' p q p' q' h k = absurd q
add-mono f (fin s m e) (fin t n d) nan y' p q p' q' h k = absurd p'
add-mono f (fin s m e) (fin t n d) (inf s') y' p q p' q' h k = absurd p'
add-mono f (fin s m e) (fin t n d) (fin s' m' e') nan p q p' q' h k = absurd q'
add-mono f (fin s m e) (fin t n d) (fin s' m' e') (inf t') p q p' q' h k = absurd q'
add-mono f (fin s m e) (fin t n d) (fin s' m' e') (fin t' n' d') p q p' q' h k =
    let a = m * up e in
    let b = n * up d in
    let a' = m' * up e' in
    let b' = n' * up d' in
    let c = down e * down d in
    let c' = down e' * down d' in
    sums f s t s' t' (a * down d) (b * down e) c (a' * down d') (b' * down e') c'
    (mul-pos (down_pos e) (down_pos d)) (mul-pos (down_pos e') (down_pos d'))
    (wider s s' a (down e) a' (down e') (down d) (down d') c c' refl refl
    (at-most-says s s' (a * down e') (a' * down e) h))
    (wider t t' b (down d) b' (down d') (down e) (down e') c c' (mul_comm (down d) (down e))
    (mul_comm (down d') (down e')) (at-most-says t t' (b * down d') (b' * down d) k))
    _ _ (total f s t (a * down d) (b * down e) c) (total f s' t' (a' * down d') (b' * down e') c')

neg-finite : (x : Float) → T (finite x) → T (finite (neg x))
unfolding neg
neg-finite nan p = p
neg-finite (inf s) p = p
neg-finite (fin s m e) p = tt

-- x - y ≤ x' - y' for finite x ≤ x' and y' ≤ y
pub sub-mono : (x y x' y' : Float) → finite x ≡ true → finite y ≡ true → finite x' ≡ true → finite y' ≡ true
    → x ≤ᶠ x' ≡ true → y' ≤ᶠ y ≡ true → x ⊖ y ≤ᶠ x' ⊖ y' ≡ true
unfolding sub
sub-mono x y x' y' p q p' q' h k =
    is_true (x ⊖ y ≤ᶠ x' ⊖ y')
    (add-mono binary64 x (neg y) x' (neg y') (yes p) (neg-finite y (yes q)) (yes p') (neg-finite y' (yes q')) (yes h)
    (neg-le y' y (yes k)))

-- ---- no NaN
sum-real : (f : Format) (s t : Bool) (a b c : ℕ) → is_nan (sum f s a t b c) ≡ false
sum-real f s t a b c =
    let z = total f s t a b c in
    subst (λ (r : Float). is_nan r ≡ false) (sym z.2) (round-real f z.0 z.1 c)

pub sub-real : (x y : Float) → finite x ≡ true → finite y ≡ true → is_nan (x ⊖ y) ≡ false
unfolding sub add neg
sub-real nan y p q = absurd (false≢true p)
sub-real (inf s) y p q = absurd (false≢true p)
sub-real (fin s m e) nan p q = absurd (false≢true q)
sub-real (fin s m e) (inf t) p q = absurd (false≢true q)
sub-real (fin s m e) (fin t n d) p q =
    sum-real binary64 s (not t) (m * up e * down d) (n * up d * down e) (down e * down d)

-- a difference that is no NaN is of numbers that are none
pub sub-of-real : (x y : Float) → is_nan (x ⊖ y) ≡ false → (is_nan x ≡ false) × (is_nan y ≡ false)
unfolding sub add neg is_nan
sub-of-real nan y h = absurd (false≢true (sym h))
sub-of-real (inf s) nan h = absurd (false≢true (sym h))
sub-of-real (inf s) (inf t) h = (refl, refl)
sub-of-real (inf s) (fin t n d) h = (refl, refl)
sub-of-real (fin s m e) nan h = absurd (false≢true (sym h))
sub-of-real (fin s m e) (inf t) h = (refl, refl)
sub-of-real (fin s m e) (fin t n d) h = (refl, refl)

-- a factor above 0 times what is no NaN
times-of : (x y : Float) → T (positive x) → is_nan y ≡ false → is_nan (x ⊗ y) ≡ false
unfolding mul is_nan
times-of nan y p r = absurd p
times-of (inf s) y p r = absurd p
times-of (fin true m e) y p r = absurd p
times-of (fin false m e) nan p r = absurd (false≢true (sym r))
times-of (fin false m e) (inf t) p r =
    by_cases (λ (z : Float). is_nan z ≡ false) (eqb m 0)
    (λ none. let z = eqb→eq m 0 (yes none) in let some = ltb→lt 0 m p in absurd (omega arith)) (λ some. refl)
times-of (fin false m e) (fin t n d) p r =
    round-real binary64 (unlike false t) (m * up e * (n * up d)) (down e * down d)

pub times-real : (x y : Float) → finite x ≡ true → 0ᶠ <ᶠ x ≡ true → is_nan y ≡ false → is_nan (x ⊗ y) ≡ false
unfolding of_bits
times-real x y p h r = times-of x y (positive-by x (yes p) (yes h)) r
