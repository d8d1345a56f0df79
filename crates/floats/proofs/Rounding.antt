-- `round` on fractions of either sign, in either format: it keeps the order, and a value that its format holds is what
-- its own fraction rounds to. Assumes nothing.
use mathlib.Core.Path.{◌≡◌, refl, sym, ap, ◌∙◌, subst}
use mathlib.Core.Bool.{Bool, true, false, not, ◌&&◌, cond, false≢true, true≢false}
use Prim.Native.Nat.{ℕ, zero, suc, ◌+◌, ◌-◌, ◌*◌, ◌%◌, ◌^◌, ◌≤◌, ◌<◌}
use native.Mathlib.Nat.{lt_of_not-le, not-le_of_lt, le_of_suc-le-suc, mul-lt-mul_of_pos_right, mul-one, zero-mul}
use native.Mathlib.Nat.{mul_comm, mul_assoc}
use lib.Dec.{T, ltb, leb, eqb, ltb→lt, leb→le, eqb→eq}
use lib.IntN.{ℤ, pos, negsuc}
use lib.Pow.{pow-add, pow_pos, pow-lt}
use lib.Ieee.{Float, nan, inf, fin, Format, prec, emax, low, up, down, odd, units, round, neg, le, fits, is_nan}
use lib.Ieee.Fits.{and_l, and_r, round_is, down_pos}
use lib.Ieee.Digits.{back}
use lib.Ieee.Exact.{HasValue, round_exact}
use lib.Ieee.Order.{transfer, round_mono}
use Rattle.floats.proofs.Signed.{AtMost, at-most-says, at-most-test, at-most-flip, zero_of, zero-times}

-- ---- a value that fits, in units of the format's smallest value
pub record Within (f : Format) (m : ℕ) (e : ℤ) : Type 0 where
  pub is_odd : m % 2 ≡ 1
  pub digits : m < 2 ^ prec f
  pub fine : down e ≤ 2 ^ low f
  pub small : m * up e < 2 ^ suc (emax f) * down e

pub fits-says : (f : Format) (s : Bool) (m : ℕ) (e : ℤ) → T (fits f (fin s (suc m) e)) → Within f (suc m) e
unfolding fits
fits-says f s m e t =
    let a : Bool = eqb (suc m % 2) 1 in
    let b : Bool = ltb (suc m) (2 ^ prec f) in
    let c : Bool = leb (down e) (2 ^ low f) in
    let d : Bool = ltb (suc m * up e) (2 ^ suc (emax f) * down e) in
    let abc : T (a && b && c) = and_l (a && b && c) d t in
    let ab : T (a && b) = and_l (a && b) c abc in
    record {
      is_odd = eqb→eq (suc m % 2) 1 (and_l a b ab);
      digits = ltb→lt (suc m) (2 ^ prec f) (and_r a b ab);
      fine = leb→le (down e) (2 ^ low f) (and_r (a && b) c abc);
      small = ltb→lt (suc m * up e) (2 ^ suc (emax f) * down e) (and_r (a && b && c) d t);
    }

pow_le_back : (i j : ℕ) → 2 ^ i ≤ 2 ^ j → i ≤ j
pow_le_back i j h = le_of_suc-le-suc (lt_of_not-le (λ (g : suc j ≤ i). not-le_of_lt (pow-lt g) h))

-- m * 2 ^ e is m * 2 ^ j units, below the top
abbrev pub Units : Format → ℕ → ℤ → Type 0
Units f m e = (j : ℕ) × (m * 2 ^ j < 2 ^ (low f + suc (emax f))) × (m * up e * 2 ^ low f ≡ m * 2 ^ j * down e)

pub units_of : (f : Format) (m : ℕ) (e : ℤ) → down e ≤ 2 ^ low f → m * up e < 2 ^ suc (emax f) * down e → Units f m e
units_of f m (pos k) D h =
    let l = low f in
    let t = 2 ^ suc (emax f) in
    let eq : m * 2 ^ k * 2 ^ l ≡ m * 2 ^ (k + l) =
    mul_assoc m (2 ^ k) (2 ^ l) ∙ ap (λ (x : ℕ). m * x) (sym (pow-add 2 k l)) in
    let top : t * 2 ^ l ≡ 2 ^ (l + suc (emax f)) = mul_comm t (2 ^ l) ∙ sym (pow-add 2 l (suc (emax f))) in
    let h' : m * 2 ^ k * 2 ^ l < t * 2 ^ l =
    mul-lt-mul_of_pos_right (subst (λ (x : ℕ). m * 2 ^ k < x) (mul-one t) h) (pow_pos l) in (
      k + l,
      subst (λ (x : ℕ). x < 2 ^ (l + suc (emax f))) eq (subst (λ (x : ℕ). m * 2 ^ k * 2 ^ l < x) top h'),
      eq ∙ sym (mul-one (m * 2 ^ (k + l))),
    )
units_of f m (negsuc k) D h =
    let l = low f in
    let j = l - suc k in
    let t = 2 ^ suc (emax f) in
    let b : j + suc k ≡ l = back l (suc k) (pow_le_back (suc k) l D) in
    let h' : m * 2 ^ j < t * 2 ^ suc k * 2 ^ j =
    mul-lt-mul_of_pos_right (subst (λ (x : ℕ). x < t * 2 ^ suc k) (mul-one m) h) (pow_pos j) in
    let parts : 2 ^ suc k * 2 ^ j ≡ 2 ^ l =
    mul_comm (2 ^ suc k) (2 ^ j) ∙ sym (pow-add 2 j (suc k)) ∙ ap (λ (x : ℕ). 2 ^ x) b in
    let g : t * 2 ^ suc k * 2 ^ j ≡ 2 ^ (l + suc (emax f)) =
    mul_assoc t (2 ^ suc k) (2 ^ j)
    ∙ ap (λ (x : ℕ). t * x) parts
    ∙ mul_comm t (2 ^ l)
    ∙ sym (pow-add 2 l (suc (emax f))) in
    let same : m * 1 * 2 ^ l ≡ m * 2 ^ j * 2 ^ suc k =
    ap (λ (x : ℕ). x * 2 ^ l) (mul-one m)
    ∙ ap (λ (x : ℕ). m * 2 ^ x) (sym b)
    ∙ ap (λ (x : ℕ). m * x) (pow-add 2 j (suc k))
    ∙ sym (mul_assoc m (2 ^ j) (2 ^ suc k)) in
    (j, subst (λ (x : ℕ). m * 2 ^ j < x) g h', same)

zero-units : (f : Format) (s : Bool) (c : ℕ) → 0 < c → HasValue (round f s 0 c) s 0 c
zero-units f s c C =
    round_exact f s 0 c 0 0 C (pow_pos (prec f)) (pow_pos (low f + suc (emax f)))
    (zero-mul (2 ^ low f) ∙ sym (zero-mul c))

-- a value that fits is what its own fraction rounds to
pub round-own : (f : Format) (s : Bool) (m : ℕ) (e : ℤ) → T (fits f (fin s m e))
    → HasValue (round f s (m * up e) (down e)) s (m * up e) (down e)
round-own f s zero e t =
    subst (λ (x : ℕ). HasValue (round f s x (down e)) s x (down e)) (sym (zero-mul (up e)))
    (zero-units f s (down e) (down_pos e))
round-own f s (suc m) e t =
    let z = fits-says f s m e t in
    let u = units_of f (suc m) e z.fine z.small in
    round_exact f s (suc m * up e) (down e) (suc m) u.0 (down_pos e) z.digits u.1 u.2

-- ---- the order of values, by the fractions that they equal
carry : (s t : Bool) (x y de dd a b c c' : ℕ) → 0 < de → 0 < dd → 0 < c → 0 < c'
    → x * c ≡ a * de → y * c' ≡ b * dd → AtMost s (a * c') t (b * c) → AtMost s (x * dd) t (y * de)
carry false false x y de dd a b c c' E D C C' p q h = transfer x y de dd a b c c' C C' p q h
carry false true x y de dd a b c c' E D C C' p q h = (
  zero-times x dd (zero_of x c C (p ∙ zero-times a de (zero_of a c' C' h.0))),
  zero-times y de (zero_of y c' C' (q ∙ zero-times b dd (zero_of b c C h.1))),
)
carry true false x y de dd a b c c' E D C C' p q h = tt
carry true true x y de dd a b c c' E D C C' p q h = transfer y x dd de b a c' c C' C q p h

pub le-values : (x y : Float) (s t : Bool) (a c b d : ℕ) → 0 < c → 0 < d
    → HasValue x s a c → HasValue y t b d → AtMost s (a * d) t (b * c) → T (le x y)
unfolding le
le-values nan y s t a c b d C D p q h = absurd p
le-values (inf s') y s t a c b d C D p q h = absurd p
le-values (fin s' m e) nan s t a c b d C D p q h = absurd q
le-values (fin s' m e) (inf t') s t a c b d C D p q h = absurd q
le-values (fin s' m e) (fin t' n g) s t a c b d C D p q h =
    at-most-test s' t' (m * up e * down g) (n * up g * down e)
    (subst (λ (u : Bool). AtMost u (m * up e * down g) t' (n * up g * down e)) (sym p.0)
    (subst (λ (u : Bool). AtMost s (m * up e * down g) u (n * up g * down e)) (sym q.0)
    (carry s t (m * up e) (n * up g) (down e) (down g) a b c d (down_pos e) (down_pos g) C D p.1 q.1 h)))

-- ---- the sign goes through `round`
odd-neg : (d q k l : ℕ) → odd d true q k l ≡ neg (odd d false q k l)
unfolding odd neg
odd-neg d zero k l = refl
odd-neg d (suc q) k l = refl

units-neg : (f : Format) (q k : ℕ) → units f true q k ≡ neg (units f false q k)
unfolding units
units-neg f q k = go (ltb (q * 2 ^ k) (2 ^ (low f + suc (emax f))))
  where
    go : (b : Bool) → cond b (odd (suc (prec f)) true q k (low f)) (inf true)
        ≡ neg (cond b (odd (suc (prec f)) false q k (low f)) (inf false))
    go true = odd-neg (suc (prec f)) q k (low f)
    go false = unfold neg in refl

pub round-neg : (f : Format) (a b : ℕ) → round f true a b ≡ neg (round f false a b)
round-neg f a b = round_is f true a b ∙ units-neg f _ _ ∙ ap neg (sym (round_is f false a b))

pub neg-le : (x y : Float) → T (le x y) → T (le (neg y) (neg x))
unfolding le neg
neg-le nan y h = absurd h
neg-le (inf s) nan h = absurd h
neg-le (inf true) (inf true) h = tt
neg-le (inf true) (inf false) h = tt
neg-le (inf false) (inf true) h = absurd h
neg-le (inf false) (inf false) h = tt
neg-le (inf true) (fin t n d) h = tt
neg-le (inf false) (fin t n d) h = absurd h
neg-le (fin s m e) nan h = absurd h
neg-le (fin s m e) (inf true) h = absurd h
neg-le (fin s m e) (inf false) h = tt
neg-le (fin s m e) (fin t n d) h =
    let a = m * up e * down d in
    let b = n * up d * down e in
    at-most-test (not t) (not s) b a (at-most-flip s t a b (at-most-says s t a b h))

-- ---- a result's sign is the sign that was asked
abbrev Signed : Bool → Float → Type 0
Signed s nan = ⊥
Signed s (inf t) = t ≡ s
Signed s (fin t m e) = t ≡ s

odd-signed : (s : Bool) (d q k l : ℕ) → Signed s (odd d s q k l)
unfolding odd
odd-signed s d zero k l = refl
odd-signed s d (suc q) k l = refl

units-signed : (f : Format) (s : Bool) (q k : ℕ) → Signed s (units f s q k)
unfolding units
units-signed f s q k = go (ltb (q * 2 ^ k) (2 ^ (low f + suc (emax f))))
  where
    go : (b : Bool) → Signed s (cond b (odd (suc (prec f)) s q k (low f)) (inf s))
    go true = odd-signed s (suc (prec f)) q k (low f)
    go false = refl

round-signed : (f : Format) (s : Bool) (a b : ℕ) → Signed s (round f s a b)
round-signed f s a b = subst (Signed s) (sym (round_is f s a b)) (units-signed f s _ _)

signed-real : (s : Bool) (x : Float) → Signed s x → is_nan x ≡ false
unfolding is_nan
signed-real s nan p = absurd p
signed-real s (inf t) p = refl
signed-real s (fin t m e) p = refl

pub round-real : (f : Format) (s : Bool) (a b : ℕ) → is_nan (round f s a b) ≡ false
round-real f s a b = signed-real s (round f s a b) (round-signed f s a b)

across : (x y : Float) → Signed true x → Signed false y → T (le x y)
unfolding le
across nan y p q = absurd p
across (inf false) y p q = absurd (false≢true p)
across (inf true) nan p q = absurd q
across (inf true) (inf true) p q = tt
across (inf true) (inf false) p q = tt
across (inf true) (fin t n d) p q = tt
across (fin false m e) y p q = absurd (false≢true p)
across (fin true m e) nan p q = absurd q
across (fin true m e) (inf true) p q = absurd (true≢false q)
across (fin true m e) (inf false) p q = tt
across (fin true m e) (fin true n d) p q = absurd (true≢false q)
across (fin true m e) (fin false n d) p q = at-most-test true false (m * up e * down d) (n * up d * down e) tt

-- ---- `round` keeps the order
pub zero_val : (f : Format) (s : Bool) (a c : ℕ) → 0 < c → a ≡ 0 → HasValue (round f s a c) s a c
zero_val f s a c C e = subst (λ (x : ℕ). HasValue (round f s x c) s x c) (sym e) (zero-units f s c C)

pub round-le : (f : Format) (s t : Bool) (a b c d : ℕ) → 0 < b → 0 < d → AtMost s (a * d) t (c * b)
    → T (le (round f s a b) (round f t c d))
round-le f false false a b c d B D h = round_mono f a b c d B D h
round-le f false true a b c d B D h =
    le-values (round f false a b) (round f true c d) false true a b c d B D
    (zero_val f false a b B (zero_of a d D h.0)) (zero_val f true c d D (zero_of c b B h.1)) h
round-le f true false a b c d B D h =
    across (round f true a b) (round f false c d) (round-signed f true a b) (round-signed f false c d)
round-le f true true a b c d B D h =
    subst (λ (z : Float). T (le z (round f true c d))) (sym (round-neg f a b))
    (subst (λ (z : Float). T (le (neg (round f false a b)) z)) (sym (round-neg f c d))
    (neg-le (round f false c d) (round f false a b) (round_mono f c d a b D B h)))
