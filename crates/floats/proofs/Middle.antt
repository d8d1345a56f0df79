-- The computed middle M = (A + Z) / 2 of two finite f64s, 0 ≤ A < Z, where it is finite. Where A < M < Z each of the
-- two parts is two thirds of the whole at most, counted in the smallest f64s (`two-thirds`). Where not, no f64 lies
-- strictly between A and Z (`none_between`). The count is exact and keeps the order (`units-exact`, `units_mono`). The
-- sum rounds to the nearest, and so does its half, where the sum is not rounded already: what follows from that is in
-- Halves.antt. Assumes nothing.
use mathlib.Core.Path.{◌≡◌, refl, sym, ap, ◌∙◌, subst}
use mathlib.Core.Logic.{◌⊎◌, inl, inr}
use mathlib.Core.Bool.{Bool, true, false, not, ◌&&◌, true≢false}
use Prim.Native.Nat.{ℕ, zero, suc, ◌+◌, ◌-◌, ◌*◌, ◌/◌, ◌%◌, ◌^◌, ◌≤◌, ◌<◌, compare, Ordering}
use native.Mathlib.Nat as N
use native.Mathlib.Nat.{lt_of_le_of_lt, mul-one, zero-mul, mul_assoc, mul-pos, mul-le-mul_right, mod-lt, div-add-mod'}
use native.Mathlib.Nat.{div-le_self, le-div_iff_mul-le, mul-div_cancel, lt_of_mul-lt-mul_right, mul-lt-mul_of_pos_right}
use native.Mathlib.Omega.{arith}
use lib.Dec.{T, ltb, is_le, compare_is_eq, ltb→lt, lt→ltb, leb→le, nleb→lt, eqb→eq}
use lib.IntN.{ℤ, pos}
use lib.Pow.{pow-add, pow_pos, pow_mono, shl-shr}
use lib.Ieee.{Float, nan, inf, fin, Format, binary64, prec, low, up, down, size, nearest, below, fits, of_bits, round}
use lib.Ieee.{sum, add, div, lt, le}
use lib.Ieee.Bits.{is_true}
use lib.Ieee.Fits.{down_pos, up_pos, nearest-le, kept-lt, two, two-le_pos}
use lib.Ieee.Digits.{size-lt, size-le, size_reaches}
use lib.Ieee.Nearest.{closest, closest_same, div_mono, div_same, nearest-ge}
use lib.Ieee.Exact.{HasValue, round_exact}
use lib.Ieee.Positive.{first_pos}
use lib.Ieee.Scale.{finite, grid, overflow, round_same, round_val, round_under}
use Rattle.floats.specs.Arithmetic.{◌⊕◌, ◌⊘◌, ◌<ᶠ◌, ◌≤ᶠ◌, 0ᶠ, 2ᶠ}
use Rattle.floats.specs.Units.{units}
use Rattle.floats.proofs.Branches.{if_yes, false-if, both, and_first, and_second}
use Rattle.floats.proofs.Tests.{yes}
use Rattle.floats.proofs.Signed.{AtMost, at-most-says, zero_of}
use Rattle.floats.proofs.Order.{lt→le, le_trans}
use Rattle.floats.proofs.Shrinks.{between-finite}
use Rattle.floats.proofs.Rounding.{fits-says, units_of}
use Rattle.floats.proofs.Halves.{Grid, Half, Thirds, less-or-not, both-thirds, lies-between}

-- ---- a / b to the nearest whole number is off by a half at most
abbrev Near : ℕ → ℕ → ℕ → Type 0
Near a b c = (2 * (c * b) ≤ 2 * a + b) × (2 * a ≤ 2 * (c * b) + b)

near : (a b : ℕ) → 0 < b → Near a b (closest a b)
near a b B = go (compare (a % b * 2) b) (leb→le (a % b * 2) b) (nleb→lt (a % b * 2) b) (eqb→eq (a % b * 2) b)
  where
    go : (o : Ordering) → (T (is_le o) → a % b * 2 ≤ b) → (T (not (is_le o)) → b < a % b * 2)
        → (T (compare_is_eq o) → a % b * 2 ≡ b) → Near a b (nearest (a / b) o)
    go Ordering.lt h k e =
        let whole = div-add-mod' a b in
        let few = h tt in
        (omega arith, omega arith)
    go Ordering.eq h k e =
        let whole = div-add-mod' a b in
        let tie = e tt in
        let most : a / b % 2 * b ≤ 1 * b = mul-le-mul_right b (omega arith) in
        (omega arith, omega arith)
    go Ordering.gt h k e =
        let whole = div-add-mod' a b in
        let many = k tt in
        let less : a % b < b = mod-lt a B in
        (omega arith, omega arith)

-- ---- what `round` makes of S units, and of half of S units where S has no more digits than the format keeps
grid-own : (f : Format) (S : ℕ) → grid f S (2 ^ low f) ≡ closest S (2 ^ (size S - prec f)) * 2 ^ (size S - prec f)
grid-own f S =
    let l = 2 ^ low f in
    let k = size S - prec f in
    ap (λ (w : ℕ). closest (S * l) (l * 2 ^ (size w - prec f)) * 2 ^ (size w - prec f)) (shl-shr S (low f))
    ∙ ap (λ (q : ℕ). q * 2 ^ k)
    (closest_same (S * l) (l * 2 ^ k) S (2 ^ k) (mul-pos (pow_pos (low f)) (pow_pos k)) (pow_pos k)
    (mul_assoc S l (2 ^ k)))

none_dropped : (x y p : ℕ) → x ≤ y → y ≤ p → x - p ≡ 0
none_dropped x y p h k = omega arith

grid-half : (f : Format) (S : ℕ) → size S ≤ prec f → grid f S (2 * 2 ^ low f) ≡ closest S 2
grid-half f S h =
    let l = 2 ^ low f in
    let L : 0 < 2 * l = mul-pos (omega arith) (pow_pos (low f)) in
    let same : S * l * 2 ≡ S * (2 * l) = omega arith in
    let fewer : size (S / 2) ≤ size S = size-le (S / 2) (size S) (lt_of_le_of_lt (div-le_self S 2) (size-lt S)) in
    let none : size (S * l / (2 * l)) - prec f ≡ 0 =
    ap (λ (w : ℕ). size w - prec f) (div_same (S * l) (2 * l) S 2 L (omega arith) same)
    ∙ none_dropped (size (S / 2)) (size S) (prec f) fewer h in
    ap (λ (k : ℕ). closest (S * l) (2 * l * 2 ^ k) * 2 ^ k) none
    ∙ mul-one (closest (S * l) (2 * l * 1))
    ∙ ap (λ (b : ℕ). closest (S * l) b) (mul-one (2 * l))
    ∙ closest_same (S * l) (2 * l) S 2 L (omega arith) same

-- ---- half of a rounded sum
abbrev Middle : Format → ℕ → Float → Type 0
Middle f S x = (μ : ℕ) × HasValue x false μ (2 ^ low f) × Half (2 ^ (prec f - 1)) S μ

halve-value : (x : Float) (t u l : ℕ) → t ≡ 2 * u → HasValue x false t (2 * l) → HasValue x false u l
halve-value nan t u l e h = h
halve-value (inf s) t u l e h = h
halve-value (fin s m d) t u l e h =
    (h.0, omega (arith, h.1, ap (λ (k : ℕ). k * down d) e))

-- the format's digits: 2 ^ prec is twice 2 ^ (prec - 1)
twice : (p : ℕ) → 0 < p → 2 ^ p ≡ 2 * 2 ^ (p - 1)
twice p P = ap (λ (x : ℕ). 2 ^ x) (again p P) ∙ (let e : 2 ^ suc (p - 1) ≡ 2 * 2 ^ (p - 1) = omega arith in e)
  where
    again : (p : ℕ) → 0 < p → p ≡ suc (p - 1)
    again p P = omega arith

-- the sum is exact, and its half is rounded
half-small : (f : Format) (S t : ℕ) → size S - prec f ≡ 0 → t ≡ closest S (2 ^ 0) * 2 ^ 0
    → T (finite (round f false t (2 * 2 ^ low f))) → Middle f S (round f false t (2 * 2 ^ low f))
half-small f S t k e F =
    let l = 2 ^ low f in
    let one = near S 1 (omega arith) in
    let same : t ≡ S = omega arith in
    let half = near S 2 (omega arith) in
    let F' : T (finite (round f false S (2 * l))) = subst (λ (x : ℕ). T (finite (round f false x (2 * l)))) same F in
    subst (λ (x : ℕ). Middle f S (round f false x (2 * l))) (sym same) (
      closest S 2,
      subst (λ (x : ℕ). HasValue (round f false S (2 * l)) false x l) (grid-half f S (omega arith))
          (round_val f S (2 * l) (round_under f S (2 * l) F')),
      inl (omega arith, omega arith),
    )

-- the sum is rounded to q * 2 ^ (g + 1), and its half is q * 2 ^ g: exact, also where q is one digit longer than the
-- format keeps
half-exact : (f : Format) (q t g : ℕ) → q ≤ 2 ^ prec f → t ≡ q * 2 ^ suc g → t < overflow f
    → HasValue (round f false t (2 * 2 ^ low f)) false (q * 2 ^ g) (2 ^ low f)
half-exact f q t g Q e O =
    let l = 2 ^ low f in
    let L : 0 < 2 * l = mul-pos (omega arith) (pow_pos (low f)) in
    let G = 2 ^ g in
    let G' : 2 ^ suc g ≡ 2 * G = omega arith in
    let e' : t ≡ 2 * (q * G) = omega (arith, e, ap (λ (x : ℕ). q * x) G') in
    let r = round f false t (2 * l) in
    elim (less-or-not q (2 ^ prec f)) [
      | inl few ↦
          let E : t * l ≡ q * G * (2 * l) = omega (arith, ap (λ (x : ℕ). x * l) e') in
          let under : q * G < overflow f = smaller t (q * G) (overflow f) e' O in
          halve-value r t (q * G) l e' (round_exact f false t (2 * l) q g L few under E)
      | inr many ↦
          let H = 2 ^ (prec f - 1) in
          let double = twice (prec f) (two-le_pos (prec f) (two f)) in
          let full : q ≡ 2 * H = equal q (2 ^ prec f) Q many ∙ double in
          let same : H * 2 ^ suc g ≡ q * G = omega (arith, ap (λ (x : ℕ). x * G) full, ap (λ (x : ℕ). H * x) G') in
          let E : t * l ≡ H * 2 ^ suc g * (2 * l) =
          omega (arith, ap (λ (x : ℕ). x * l) e', ap (λ (x : ℕ). x * (2 * l)) same) in
          let under : H * 2 ^ suc g < overflow f =
          subst (λ (x : ℕ). x < overflow f) (sym same) (smaller t (q * G) (overflow f) e' O) in
          let H' : H < 2 ^ prec f = less H (2 ^ prec f) double (pow_pos (prec f - 1)) in
          halve-value r t (q * G) l e' (round_exact f false t (2 * l) H (suc g) L H' under E)
    ]
  where
    smaller : (t u o : ℕ) → t ≡ 2 * u → t < o → u < o
    smaller t u o e h = omega arith

    equal : (a b : ℕ) → a ≤ b → b ≤ a → a ≡ b
    equal a b h k = omega arith

    less : (a b : ℕ) → b ≡ 2 * a → 0 < a → a < b
    less a b e h = omega arith

half-large : (f : Format) (S t g : ℕ) → size S - prec f ≡ suc g → t ≡ closest S (2 ^ suc g) * 2 ^ suc g → t < overflow f
    → Middle f S (round f false t (2 * 2 ^ low f))
half-large f S t g k e O =
    let p = prec f in
    let H = 2 ^ (p - 1) in
    let G = 2 ^ g in
    let K = 2 ^ suc g in
    let o = compare (S % K * 2) K in
    let q = closest S K in
    let G' : K ≡ 2 * G = omega arith in
    let P : 0 < p = two-le_pos p (two f) in
    let top : 2 ^ (p - 1 + suc g) ≤ S = size_reaches S (p - 1 + suc g) (omega arith) in
    let top' : H * K ≤ S = subst (λ (x : ℕ). x ≤ S) (pow-add 2 (p - 1) (suc g)) top in
    let least : H ≤ q = N.le_trans ((le-div_iff_mul-le (pow_pos (suc g))).1 top') (nearest-ge (S / K) o) in
    let most : q ≤ 2 ^ p =
    N.le_trans (nearest-le (S / K) o) (subst (λ (x : ℕ). S / 2 ^ x < 2 ^ p) k (kept-lt p S)) in
    let off = near S K (pow_pos (suc g)) in
    let q_k : q * K ≡ 2 * (q * G) = omega (arith, ap (λ (x : ℕ). q * x) G') in
    let HK : H * K ≡ 2 * H * G = omega (arith, ap (λ (x : ℕ). H * x) G') in
    let lo = off.0 in
    let hi = off.1 in
    (q * G, half-exact f q t g most e O, inr (g, q, refl, least, omega arith, omega arith, omega arith))

half_of : (f : Format) (S t : ℕ) → t ≡ grid f S (2 ^ low f) → t < overflow f
    → T (finite (round f false t (2 * 2 ^ low f))) → Middle f S (round f false t (2 * 2 ^ low f))
half_of f S t e O F = go (size S - prec f) refl (e ∙ grid-own f S)
  where
    go : (k : ℕ) → size S - prec f ≡ k → t ≡ closest S (2 ^ (size S - prec f)) * 2 ^ (size S - prec f)
        → Middle f S (round f false t (2 * 2 ^ low f))
    go zero k e' = half-small f S t k (subst (λ (x : ℕ). t ≡ closest S (2 ^ x) * 2 ^ x) k e') F
    go (suc g) k e' = half-large f S t g k (subst (λ (x : ℕ). t ≡ closest S (2 ^ x) * 2 ^ x) k e') O

-- ---- a finite value that is not negative, as n / l: a zero of either sign too
abbrev Is : ℕ → Float → ℕ → Type 0
Is l nan n = ⊥
Is l (inf s) n = ⊥
Is l (fin s m e) n = (m * up e * l ≡ n * down e) × ((s ≡ false) ⊎ (n ≡ 0))

of-value : (l : ℕ) (x : Float) (n : ℕ) → HasValue x false n l → Is l x n
of-value l nan n h = h
of-value l (inf s) n h = h
of-value l (fin s m e) n h = (h.1, inl h.0)

-- it is zero where its sign is set
unsigned : (s : Bool) (x k l n d : ℕ) → 0 < l → x * l ≡ n * d → (s ≡ false) ⊎ (n ≡ 0) → (s ≡ false) ⊎ (x * k ≡ 0)
unsigned s x k l n d L e (inl z) = inl z
unsigned s x k l n d L e (inr z) =
    let z' : x * l ≡ 0 = e ∙ ap (λ (y : ℕ). y * d) z ∙ zero-mul d in
    inr (ap (λ (y : ℕ). y * k) (zero_of x l L z') ∙ zero-mul k)

-- a value that fits is a whole number of units, with few digits
counts : (f : Format) (x : Float) → T (fits f x) → T (finite x) → T (le (fin false 0 (pos 0)) x)
    → (n : ℕ) × Is (2 ^ low f) x n × Grid (2 ^ (prec f - 1)) n
unfolding le
counts f nan F p h = absurd p
counts f (inf s) F p h = absurd p
counts f (fin s zero e) F p h =
    (0, (none, inr refl), (0, 0, refl, mul-pos (omega arith) (pow_pos (prec f - 1))))
  where
    none : 0 * up e * 2 ^ low f ≡ 0 * down e
    none = omega arith
counts f (fin false (suc m) e) F p h =
    let w = fits-says f false m e F in
    let u = units_of f (suc m) e w.fine w.small in
    let digits : suc m < 2 * 2 ^ (prec f - 1) =
    subst (λ (x : ℕ). suc m < x) (twice (prec f) (two-le_pos (prec f) (two f))) w.digits in
    (suc m * 2 ^ u.0, (u.2, inl refl), (suc m, u.0, refl, digits))
counts f (fin true (suc m) e) F p h =
    let z = (at-most-says false true (0 * down e) (suc m * up e * 1) h).1 in
    let some : 0 < suc m * up e = mul-pos (omega arith) (up_pos e) in
    absurd (omega (arith, z, some))

-- ---- its order is the order of the numbers
below_less : (s t : Bool) (a b : ℕ) → (s ≡ false) ⊎ (a ≡ 0) → (t ≡ false) ⊎ (b ≡ 0) → T (below s a t b) → a < b
below_less false false a b p q h = ltb→lt a b h
below_less false true a b p q h = absurd h
below_less true false a b (inl z) q h = absurd (true≢false z)
below_less true false a b (inr z) q h = omega (arith, ltb→lt 0 (a + b) h)
below_less true true a b (inl z) q h = absurd (true≢false z)
below_less true true a b (inr z) q h = absurd (omega (arith, ltb→lt b a h))

less-below : (s t : Bool) (a b : ℕ) → (s ≡ false) ⊎ (a ≡ 0) → (t ≡ false) ⊎ (b ≡ 0) → a < b → T (below s a t b)
less-below false false a b p q h = lt→ltb a b h
less-below s true a b p (inl z) h = absurd (true≢false z)
less-below s true a b p (inr z) h = absurd (omega arith)
less-below true false a b p q h = lt→ltb 0 (a + b) (omega arith)

less-of-lt : (l : ℕ) (x y : Float) (a b : ℕ) → 0 < l → Is l x a → Is l y b → T (lt x y) → a < b
unfolding lt
less-of-lt l nan y a b L p q h = absurd p
less-of-lt l (inf s) y a b L p q h = absurd p
less-of-lt l (fin s m e) nan a b L p q h = absurd q
less-of-lt l (fin s m e) (inf t) a b L p q h = absurd q
less-of-lt l (fin s m e) (fin t n d) a b L p q h =
    let x = m * up e in
    let y = n * up d in
    let less : x * down d < y * down e = below_less s t (x * down d) (y * down e)
    (unsigned s x (down d) l a (down e) L p.0 p.1) (unsigned t y (down e) l b (down d) L q.0 q.1) h in
    lt_of_mul-lt-mul_right (down e * down d) (omega (
      arith,
      mul-lt-mul_of_pos_right less L,
      ap (λ (k : ℕ). k * down d) p.0,
      ap (λ (k : ℕ). k * down e) q.0,
    ))

lt-of-less : (l : ℕ) (x y : Float) (a b : ℕ) → 0 < l → Is l x a → Is l y b → a < b → T (lt x y)
unfolding lt
lt-of-less l nan y a b L p q h = absurd p
lt-of-less l (inf s) y a b L p q h = absurd p
lt-of-less l (fin s m e) nan a b L p q h = absurd q
lt-of-less l (fin s m e) (inf t) a b L p q h = absurd q
lt-of-less l (fin s m e) (fin t n d) a b L p q h =
    let x = m * up e in
    let y = n * up d in
    let less : x * down d < y * down e = lt_of_mul-lt-mul_right l (omega (
      arith,
      mul-lt-mul_of_pos_right h (mul-pos (down_pos e) (down_pos d)),
      ap (λ (k : ℕ). k * down d) p.0,
      ap (λ (k : ℕ). k * down e) q.0,
    )) in
    less-below s t (x * down d) (y * down e) (unsigned s x (down d) l a (down e) L p.0 p.1)
    (unsigned t y (down e) l b (down d) L q.0 q.1) less

-- ---- the sum of two such values, the second above 0, and the half of one
sum_is : (f : Format) (s t : Bool) (a b c : ℕ) → (s ≡ false) ⊎ (a ≡ 0) → (t ≡ false) ⊎ (b ≡ 0) → 0 < b
    → sum f s a t b c ≡ round f false (a + b) c
unfolding sum
sum_is f s true a b c p (inl z) B = absurd (true≢false z)
sum_is f s true a b c p (inr z) B = absurd (omega arith)
sum_is f false false a b c p q B = refl
sum_is f true false a b c (inl z) q B = absurd (true≢false z)
sum_is f true false a b c (inr z) q B =
    let less : a < b = omega arith in
    let same : b - a ≡ a + b = omega arith in
    sym (if_yes (ltb a b) (round f false (b - a) c) (round f (true && ltb b a) (a - b) c) (round f false (a + b) c)
    (is_true (ltb a b) (lt→ltb a b less)) (ap (λ (k : ℕ). round f false k c) (sym same)))

add_is : (f : Format) (l : ℕ) (x y : Float) (a b : ℕ) → 0 < l → Is l x a → Is l y b → 0 < b
    → add f x y ≡ round f false (a + b) l
unfolding add
add_is f l nan y a b L p q B = absurd p
add_is f l (inf s) y a b L p q B = absurd p
add_is f l (fin s m e) nan a b L p q B = absurd q
add_is f l (fin s m e) (inf t) a b L p q B = absurd q
add_is f l (fin s m e) (fin t n d) a b L p q B =
    let x = m * up e * down d in
    let y = n * up d * down e in
    let D : 0 < down e * down d = mul-pos (down_pos e) (down_pos d) in
    let y' : b * (down e * down d) ≡ y * l = omega (arith, ap (λ (k : ℕ). k * down e) q.0) in
    let Y : 0 < y = first_pos y l (subst (λ (k : ℕ). 0 < k) y' (mul-pos B D)) in
    let same : (x + y) * l ≡ (a + b) * (down e * down d) = omega (arith, y', ap (λ (k : ℕ). k * down d) p.0) in
    sum_is f s t x y (down e * down d) (unsigned s (m * up e) (down d) l a (down e) L p.0 p.1)
    (unsigned t (n * up d) (down e) l b (down d) L q.0 q.1) Y
    ∙ round_same f false (x + y) (down e * down d) (a + b) l D L same

-- 2.0 is 1 * 2 ^ 1
half_is : (f : Format) (l : ℕ) (x : Float) (t : ℕ) → 0 < l → HasValue x false t l
    → div f x (fin false 1 (pos 1)) ≡ round f false t (2 * l)
unfolding div
half_is f l nan t L h = absurd h
half_is f l (inf s) t L h = absurd h
half_is f l (fin true m e) t L h = absurd (true≢false h.0)
half_is f l (fin false m e) t L h =
    round_same f false (m * up e * 1) (1 * 2 * down e) t (2 * l) (mul-pos (omega arith) (down_pos e))
    (mul-pos (omega arith) L) (omega (arith, h.1))

half-finite : (f : Format) (x : Float) → T (finite (div f x (fin false 1 (pos 1)))) → T (finite x)
unfolding div
half-finite f nan h = h
half-finite f (inf s) h = h
half-finite f (fin s m e) h = tt

abbrev half : Format → Float → Float → Float
half f x y = div f (add f x y) (fin false 1 (pos 1))

middle_of : (f : Format) (x y : Float) (a b : ℕ) → Is (2 ^ low f) x a → Is (2 ^ low f) y b → 0 < b
    → T (finite (half f x y)) → Middle f (a + b) (half f x y)
middle_of f x y a b p q B F =
    let l = 2 ^ low f in
    let L = pow_pos (low f) in
    let is = add_is f l x y a b L p q B in
    let S = a + b in
    let t = grid f S l in
    let O = round_under f S l (subst (λ (z : Float). T (finite z)) is (half-finite f (add f x y) F)) in
    let v = subst (λ (z : Float). HasValue z false t l) (sym is) (round_val f S l O) in
    let e = half_is f l (add f x y) t L v in
    subst (λ (z : Float). Middle f S z) (sym e) (half_of f S t refl O (subst (λ (z : Float). T (finite z)) e F))

-- ---- the two facts, for either format
-- x, y and the middle, each counted
record Counted (f : Format) (x y : Float) : Type 0 where
  α : ℕ
  ζ : ℕ
  μ : ℕ
  x-is : Is (2 ^ low f) x α
  y-is : Is (2 ^ low f) y ζ
  middle-is : Is (2 ^ low f) (half f x y) μ
  x-grid : Grid (2 ^ (prec f - 1)) α
  y-grid : Grid (2 ^ (prec f - 1)) ζ
  halved : Half (2 ^ (prec f - 1)) (α + ζ) μ

counted : (f : Format) (x y : Float) → T (fits f x) → T (fits f y) → T (finite x) → T (finite y)
    → T (le (fin false 0 (pos 0)) x) → T (le (fin false 0 (pos 0)) y) → T (lt x y) → T (finite (half f x y))
    → Counted f x y
counted f x y X Y p q h k l F =
    let A = counts f x X p h in
    let Z = counts f y Y q k in
    let less = less-of-lt (2 ^ low f) x y A.0 Z.0 (pow_pos (low f)) A.1 Z.1 l in
    let M = middle_of f x y A.0 Z.0 A.1 Z.1 (above A.0 Z.0 less) F in
    record {
      α = A.0;
      ζ = Z.0;
      μ = M.0;
      x-is = A.1;
      y-is = Z.1;
      middle-is = of-value (2 ^ low f) (half f x y) M.0 M.1;
      x-grid = A.2;
      y-grid = Z.2;
      halved = M.2;
    }
  where
    above : (a b : ℕ) → a < b → 0 < b
    above a b h = omega arith

two-or-more : (f : Format) → 2 ≤ 2 ^ (prec f - 1)
two-or-more f = pow_mono {i = 1} (less (prec f) (two f))
  where
    less : (p : ℕ) → 2 ≤ p → 1 ≤ p - 1
    less p h = omega arith

module _ (f : Format) (x y : Float) (w : Counted f x y) where
  less_by : (a c : Float) (m n : ℕ) → Is (2 ^ low f) a m → Is (2 ^ low f) c n → T (lt a c) → m < n
  less_by a c m n = less-of-lt (2 ^ low f) a c m n (pow_pos (low f))

  lt_by : (a c : Float) (m n : ℕ) → Is (2 ^ low f) a m → Is (2 ^ low f) c n → m < n → T (lt a c)
  lt_by a c m n = lt-of-less (2 ^ low f) a c m n (pow_pos (low f))

  parted : T (lt x (half f x y)) → T (lt (half f x y) y) → (w.α < w.μ) × (w.μ < w.ζ) × Thirds w.α w.μ w.ζ
  parted left right =
      let l = less_by x (half f x y) w.α w.μ w.x-is w.middle-is left in
      let r = less_by (half f x y) y w.μ w.ζ w.middle-is w.y-is right in
      let H = 2 ^ (prec f - 1) in
      (l, r, both-thirds H w.α w.ζ w.μ (two-or-more f) w.x-grid w.y-grid w.halved l r)

  between : (c : Float) → T (fits f c) → T (finite c) → T (le (fin false 0 (pos 0)) c) → T (lt x c) → T (lt c y)
      → T (lt x (half f x y)) × T (lt (half f x y) y)
  between c C r h left right =
      let B = counts f c C r h in
      let l = less_by x c w.α B.0 w.x-is B.1 left in
      let r = less_by c y B.0 w.ζ B.1 w.y-is right in
      let H = 2 ^ (prec f - 1) in
      let m = lies-between H w.α B.0 w.ζ w.μ w.x-grid B.2 w.y-grid w.halved l r in (
        lt_by x (half f x y) w.α w.μ w.x-is w.middle-is m.0,
        lt_by (half f x y) y w.μ w.ζ w.middle-is w.y-is m.1,
      )

-- ---- f64
units-are : (x : Float) (n : ℕ) → Is (2 ^ low binary64) x n → units x ≡ n
unfolding units
units-are nan n h = absurd h
units-are (inf s) n h = absurd h
units-are (fin s m e) n h = ap (λ (k : ℕ). k / down e) h.0 ∙ mul-div_cancel n (down_pos e)

-- an f64 of either sign is a whole number of them
no-units : (a b c : ℕ) → 0 * a * b ≡ 0 * c
no-units a b c = omega arith

exact-by : (a b c : ℕ) → 0 < b → a ≡ c * b → a / b * b ≡ a
exact-by a b c B e = ap (λ (n : ℕ). n / b * b) e ∙ ap (λ (n : ℕ). n * b) (mul-div_cancel c B) ∙ sym e

pub units-exact : (s : Bool) (m : ℕ) (e : ℤ) → fits binary64 (fin s m e) ≡ true
    → units (fin s m e) * down e ≡ m * up e * 2 ^ low binary64
unfolding units
units-exact s zero e F =
    exact-by (0 * up e * 2 ^ low binary64) (down e) 0 (down_pos e) (no-units (up e) (2 ^ low binary64) (down e))
units-exact s (suc m) e F =
    let w = fits-says binary64 s m e (yes F) in
    let u = units_of binary64 (suc m) e w.fine w.small in
    exact-by (suc m * up e * 2 ^ low binary64) (down e) (suc m * 2 ^ u.0) (down_pos e) u.2

-- of two that are not negative, the larger one has no fewer
larger : (s t : Bool) (x a b k : ℕ) → AtMost false k s (x * 1) → AtMost s (x * a) t b → x * a ≤ b
larger false false x a b k own h = h
larger false true x a b k own h = omega (arith, h.0)
larger true t x a b k own h = omega (arith, ap (λ (n : ℕ). n * a) own.1)

scaled : (x y a b l : ℕ) → x * b ≤ y * a → x * l * b ≤ y * l * a
scaled x y a b l h = omega (arith, mul-le-mul_right l h)

mono_of : (x y : Float) → T (finite y) → T (le (fin false 0 (pos 0)) x) → T (le x y) → units x ≤ units y
unfolding le units
mono_of nan y q h k = absurd k
mono_of (inf false) nan q h k = absurd k
mono_of (inf false) (inf t) q h k = absurd q
mono_of (inf false) (fin t n d) q h k = absurd k
mono_of (inf true) y q h k = absurd h
mono_of (fin s m e) nan q h k = absurd q
mono_of (fin s m e) (inf t) q h k = absurd q
mono_of (fin s m e) (fin t n d) q h k =
    let l = 2 ^ low binary64 in
    let x = m * up e in
    let y = n * up d in
    let less : x * down d ≤ y * down e =
    larger s t x (down d) (y * down e) (0 * down e) (at-most-says false s (0 * down e) (x * 1) h)
    (at-most-says s t (x * down d) (y * down e) k) in
    div_mono (x * l) (down e) (y * l) (down d) (down_pos e) (down_pos d) (scaled x y (down e) (down d) l less)

pub units_mono : (x y : Float) → finite y ≡ true → 0ᶠ ≤ᶠ x ≡ true → x ≤ᶠ y ≡ true → units x ≤ units y
unfolding of_bits
units_mono x y q h k = mono_of x y (yes q) (yes h) (yes k)

spread : (a m z α μ ζ : ℕ) → a ≡ α → m ≡ μ → z ≡ ζ → α < μ → μ < ζ → Thirds α μ ζ
    → (3 * (m - a) ≤ 2 * (z - a)) × (3 * (z - m) ≤ 2 * (z - a))
spread a m z α μ ζ p q r l h t =
    let t0 = t.0 in
    let t1 = t.1 in
    (omega arith, omega arith)

abbrev pub middle : Float → Float → Float
middle a z = (a ⊕ z) ⊘ 2ᶠ

-- a middle strictly between leaves each side two thirds of the whole at most
pub two-thirds : (a z : Float) → fits binary64 a ≡ true → fits binary64 z ≡ true → finite a ≡ true → finite z ≡ true
    → 0ᶠ ≤ᶠ a ≡ true → a <ᶠ z ≡ true → finite (middle a z) ≡ true
    → a <ᶠ middle a z ≡ true → middle a z <ᶠ z ≡ true
    → (3 * (units (middle a z) - units a) ≤ 2 * (units z - units a))
    × (3 * (units z - units (middle a z)) ≤ 2 * (units z - units a))
unfolding of_bits
two-thirds a z A Z p q h l F left right =
    let k = le_trans 0ᶠ a z h (lt→le a z l) in
    let w = counted binary64 a z (yes A) (yes Z) (yes p) (yes q) (yes h) (yes k) (yes l) (yes F) in
    let t = parted binary64 a z w (yes left) (yes right) in
    spread (units a) (units (middle a z)) (units z) w.α w.μ w.ζ (units-are a w.α w.x-is)
    (units-are (middle a z) w.μ w.middle-is) (units-are z w.ζ w.y-is) t.0 t.1 t.2

-- where the middle is not strictly between, nothing is
pub none_between : (a z : Float) → fits binary64 a ≡ true → fits binary64 z ≡ true → finite a ≡ true → finite z ≡ true
    → 0ᶠ ≤ᶠ a ≡ true → a <ᶠ z ≡ true → finite (middle a z) ≡ true
    → (a <ᶠ middle a z && middle a z <ᶠ z) ≡ false
    → (c : Float) → fits binary64 c ≡ true → (a <ᶠ c && c <ᶠ z) ≡ false
unfolding of_bits
none_between a z A Z p q h l F out c C = false-if (a <ᶠ c && c <ᶠ z) (λ (e : (a <ᶠ c && c <ᶠ z) ≡ true).
    let left = and_first (a <ᶠ c) (c <ᶠ z) e in
    let right = and_second (a <ᶠ c) (c <ᶠ z) e in
    let k = le_trans 0ᶠ a z h (lt→le a z l) in
    let i = le_trans 0ᶠ a c h (lt→le a c left) in
    let r = between-finite a c z p q (lt→le a c left) (lt→le c z right) in
    let w = counted binary64 a z (yes A) (yes Z) (yes p) (yes q) (yes h) (yes k) (yes l) (yes F) in
    let m = between binary64 a z w c (yes C) (yes r) (yes i) (yes left) (yes right) in
    true≢false (sym (both (a <ᶠ middle a z) (middle a z <ᶠ z) (is_true _ m.0) (is_true _ m.1)) ∙ out))
