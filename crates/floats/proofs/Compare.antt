-- The facts about `lt`, `le` and `eq` of floats from which the laws of Order.antt follow: `le` is transitive, `lt`
-- excludes the converse `le`, where `lt` fails between two values that are no NaN the converse `le` holds, and `eq`
-- holds both ways. Assumes nothing.
use mathlib.Core.Path.{subst}
use mathlib.Core.Bool.{Bool, true, false, not, ◌||◌, beq}
use Prim.Native.Nat.{ℕ, ◌*◌}
use lib.Dec.{T, eqb, eqb→eq, eqb_refl}
use lib.Ieee.{Float, nan, inf, fin, up, down, level, lt, le, eq, is_nan}
use lib.Ieee.Fits.{down_pos, and_i, and_l, and_r}
use Rattle.floats.proofs.Tests.{or_l}
use Rattle.floats.proofs.Signed.{below-says, not-below-says, at-most-says, at-most-test, at-most-trans, clash}

le-of-top : (z : Float) → T (le (inf false) z) → (x : Float) → T (not (is_nan x)) → T (le x z)
unfolding le is_nan
le-of-top nan k x n = absurd k
le-of-top (inf true) k x n = absurd k
le-of-top (inf false) k nan n = absurd n
le-of-top (inf false) k (inf true) n = tt
le-of-top (inf false) k (inf false) n = tt
le-of-top (inf false) k (fin s m e) n = tt
le-of-top (fin t n d) k x h = absurd k

le-of-bottom : (y z : Float) → T (le y z) → T (le (inf true) z)
unfolding le
le-of-bottom nan z k = absurd k
le-of-bottom (inf s) nan k = absurd k
le-of-bottom (inf s) (inf true) k = tt
le-of-bottom (inf s) (inf false) k = tt
le-of-bottom (inf s) (fin u o g) k = tt
le-of-bottom (fin t n d) nan k = absurd k
le-of-bottom (fin t n d) (inf true) k = tt
le-of-bottom (fin t n d) (inf false) k = tt
le-of-bottom (fin t n d) (fin u o g) k = tt

pub trans : (x y z : Float) → T (le x y) → T (le y z) → T (le x z)
unfolding le
trans nan y z h k = absurd h
trans (inf true) y z h k = le-of-bottom y z k
trans (inf false) nan z h k = absurd h
trans (inf false) (inf true) z h k = absurd h
trans (inf false) (inf false) z h k = k
trans (inf false) (fin t n d) z h k = absurd h
trans (fin s m e) nan z h k = absurd h
trans (fin s m e) (inf true) z h k = absurd h
trans (fin s m e) (inf false) z h k = le-of-top z k (fin s m e) (unfold is_nan in tt)
trans (fin s m e) (fin t n d) nan h k = absurd k
trans (fin s m e) (fin t n d) (inf true) h k = absurd k
trans (fin s m e) (fin t n d) (inf false) h k = tt
trans (fin s m e) (fin t n d) (fin u o g) h k =
    at-most-test s u (m * up e * down g) (o * up g * down e)
    (at-most-trans s t u (m * up e) (n * up d) (o * up g) (down e) (down d) (down g)
    (down_pos e) (down_pos d) (down_pos g)
    (at-most-says s t (m * up e * down d) (n * up d * down e) h)
    (at-most-says t u (n * up d * down g) (o * up g * down d) k))

pub excludes : (x y : Float) → T (lt x y) → T (le y x) → ⊥
unfolding lt le
excludes nan y h k = h
excludes (inf true) nan h k = h
excludes (inf true) (inf true) h k = h
excludes (inf true) (inf false) h k = k
excludes (inf true) (fin t n d) h k = k
excludes (inf false) nan h k = h
excludes (inf false) (inf t) h k = h
excludes (inf false) (fin t n d) h k = h
excludes (fin s m e) nan h k = h
excludes (fin s m e) (inf true) h k = h
excludes (fin s m e) (inf false) h k = k
excludes (fin s m e) (fin t n d) h k =
    let a = m * up e * down d in
    let b = n * up d * down e in
    clash s t a b (below-says s t a b h) (at-most-says t s b a k)

pub converse : (x y : Float) → T (not (is_nan x)) → T (not (is_nan y)) → T (not (lt y x)) → T (le x y)
unfolding lt le is_nan
converse nan y p q h = absurd p
converse (inf true) nan p q h = absurd q
converse (inf true) (inf true) p q h = tt
converse (inf true) (inf false) p q h = tt
converse (inf true) (fin t n d) p q h = tt
converse (inf false) nan p q h = absurd q
converse (inf false) (inf true) p q h = absurd h
converse (inf false) (inf false) p q h = tt
converse (inf false) (fin t n d) p q h = absurd h
converse (fin s m e) nan p q h = absurd q
converse (fin s m e) (inf true) p q h = absurd h
converse (fin s m e) (inf false) p q h = tt
converse (fin s m e) (fin t n d) p q h =
    let a = m * up e * down d in
    let b = n * up d * down e in
    at-most-test s t a b (not-below-says s t a b h)

-- ---- equal numbers
signs-back : (s t z : Bool) → T (beq s t || z) → T (beq t s || z)
signs-back true true z h = tt
signs-back true false z h = h
signs-back false true z h = h
signs-back false false z h = tt

level-back : (s t : Bool) (a b : ℕ) → T (level s a t b) → T (level t b s a)
level-back s t a b h =
    subst (λ (k : ℕ). T (level t k s a)) (eqb→eq a b (and_l (eqb a b) (beq s t || eqb a 0) h))
    (and_i (eqb a a) (beq t s || eqb a 0) (eqb_refl a)
    (signs-back s t (eqb a 0) (and_r (eqb a b) (beq s t || eqb a 0) h)))

pub equal-back : (x y : Float) → T (eq x y) → T (eq y x)
unfolding eq
equal-back nan y h = absurd h
equal-back (inf s) nan h = absurd h
equal-back (inf true) (inf true) h = tt
equal-back (inf true) (inf false) h = absurd h
equal-back (inf false) (inf true) h = absurd h
equal-back (inf false) (inf false) h = tt
equal-back (inf s) (fin t n d) h = absurd h
equal-back (fin s m e) nan h = absurd h
equal-back (fin s m e) (inf t) h = absurd h
equal-back (fin s m e) (fin t n d) h = level-back s t (m * up e * down d) (n * up d * down e) h

-- ---- what a comparison that holds says of its operands
pub weaken : (x y : Float) → T (lt x y) → T (le x y)
unfolding le
weaken x y h = or_l (lt x y) (eq x y) h

pub left-real : (x y : Float) → T (le x y) → T (not (is_nan x))
unfolding le is_nan
left-real nan y h = h
left-real (inf s) y h = tt
left-real (fin s m e) y h = tt

pub right-real : (x y : Float) → T (le x y) → T (not (is_nan y))
unfolding le is_nan
right-real nan nan h = h
right-real (inf s) nan h = h
right-real (fin s m e) nan h = h
right-real x (inf t) h = tt
right-real x (fin t n d) h = tt
