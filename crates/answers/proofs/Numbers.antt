-- The number that a float names. A float that is equal to a whole number has it as its whole part; so it names at most
-- one number, and one whose whole part it is not equal to names none. Assumes nothing.
use Rattle.std.proofs.Common.{◌≡◌, ℕ, zero, suc, ◌-◌, ◌/◌, ◌^◌, ◌<◌, ◌≤◌, min, Bool, true, false, cond}
use Rattle.std.proofs.Common.{pos, sym, refl, ap, ◌∙◌, inl, inr, true≢false, le_of_suc-le-suc, not-suc-le-zero}
use Rattle.std.proofs.Common.{eq-or-lt_of_le, zero-mul, arith, le→leb, eqb→eq}
use Rattle.std.proofs.Common.{lt-ltb, ltb, ltb-true, ltb-false, subst, Option, Some, None}
use Rattle.std.specs.Option.{unwrap_or}
use Rattle.std.specs.Bool.{then_some}
use mathlib.Core.Bool.{false≢true}
use native.Mathlib.Nat.{zero-div, zero-min}
use lib.Ieee.{Float, nan, inf, fin, binary64, eq, up, down, to_unsigned, of_int, in_float, of_bits, round, neg}
use lib.Ieee.{fits}
use lib.Ieee.Fits.{of_int-fits}
use lib.Ieee.Back.{unsigned_back}
use lib.Ieee.Bits.{is_true}
use Rattle.floats.specs.Arithmetic.{◌=ᶠ◌, 0ᶠ}
use Rattle.floats.specs.Numerals.{whole}
use Rattle.floats.proofs.Branches.{by_cases}
use Rattle.floats.proofs.Compare.{equal-back}
use Rattle.floats.proofs.Tests.{yes}
use Rattle.floats.proofs.Same.{is_zero, eq→same}
use Rattle.answers.specs.Answers.{number_below, search_named}

-- ---- the whole part

whole_part : (n : ℕ) → n < 32 → to_unsigned 32 (whole n) ≡ n
unfolding in_float
whole_part n h = (unsigned_back binary64 32 n (le→leb n 9007199254740992 (omega arith)) (omega arith)).1

zero-part : (x : Float) → is_zero x ≡ true → to_unsigned 32 x ≡ 0
unfolding to_unsigned
zero-part nan e = absurd (false≢true e)
zero-part (inf s) e = absurd (false≢true e)
zero-part (fin true m e) z = refl
zero-part (fin false zero e) z =
    ap (λ (a : ℕ). min (a / down e) (2 ^ 32 - 1)) (zero-mul (up e))
    ∙ ap (λ (a : ℕ). min a (2 ^ 32 - 1)) (zero-div (down e)) ∙ zero-min (2 ^ 32 - 1)
zero-part (fin false (suc m) e) z = absurd (let k = eqb→eq (suc m) 0 (yes z) in omega arith)

-- either float is the other, or both are zeros
part-of-equal : (x : Float) (n : ℕ) → fits binary64 x ≡ true → n < 32 → x =ᶠ whole n ≡ true → (z w : Bool)
    → is_zero x ≡ z → is_zero (whole n) ≡ w → to_unsigned 32 x ≡ n
part-of-equal x n F h e false w p q =
    ap (to_unsigned 32) (eq→same x (whole n) F (is_true _ (of_int-fits binary64 (pos n))) p e) ∙ whole_part n h
part-of-equal x n F h e true false p q =
    ap (to_unsigned 32)
    (sym (eq→same (whole n) x (is_true _ (of_int-fits binary64 (pos n))) F q
    (is_true (eq (whole n) x) (equal-back x (whole n) (yes e)))))
    ∙ whole_part n h
part-of-equal x n F h e true true p q = zero-part x p ∙ sym (zero-part (whole n) q) ∙ whole_part n h

pub named-part : (x : Float) (n : ℕ) → fits binary64 x ≡ true → n < 32 → x =ᶠ whole n ≡ true → to_unsigned 32 x ≡ n
named-part x n F h e = part-of-equal x n F h e (is_zero x) (is_zero (whole n)) refl refl

-- ---- the number: it is the whole part of what names one

chosen : (k n a : ℕ) (b : Bool) → (b ≡ true → k ≡ n) → (b ≡ false → a ≡ n) → cond b k a ≡ n
chosen k n a true p q = p refl
chosen k n a false p q = q refl

below-is : (x : Float) (n : ℕ) → fits binary64 x ≡ true → x =ᶠ whole n ≡ true → (k : ℕ) → k ≤ 32 → n < k
    → number_below k x ≡ n
unfolding number_below
below-is x n F e zero h l = absurd (not-suc-le-zero l)
below-is x n F e (suc k) h l =
    let part = named-part x n F (omega arith) e in
    chosen k n (number_below k x) (x =ᶠ whole k) (λ b. sym (named-part x k F (omega arith) b) ∙ part)
    (λ b. elim (eq-or-lt_of_le (le_of_suc-le-suc l)) [
      | inl q ↦ absurd (true≢false (sym (rw q at e) ∙ b))
      | inr r ↦ below-is x n F e k (omega arith) r
    ])

pub number_is : (x : Float) (n : ℕ) → fits binary64 x ≡ true → n < 32 → x =ᶠ whole n ≡ true → number_below 32 x ≡ n
number_is x n F h e = below-is x n F e 32 (omega arith) h

pub number-none : (x : Float) (k : ℕ) → ((n : ℕ) → n < k → x =ᶠ whole n ≡ true → ⊥) → number_below k x ≡ 32
unfolding number_below
number-none x zero never = refl
number-none x (suc k) never =
    chosen k 32 (number_below k x) (x =ᶠ whole k) (λ b. absurd (never k (omega arith) b))
    (λ b. number-none x k (λ n l. never n (omega arith)))

-- ---- what `number` does: the whole part is the number if it is one of the 32, and x is equal to it
pub named-by : (x : Float) (n : ℕ) (b : Bool) → fits binary64 x ≡ true → n ≡ to_unsigned 32 x
    → (b ≡ true → (n < 32) × (x =ᶠ whole n ≡ true)) → (b ≡ false → n < 32 → x =ᶠ whole n ≡ false)
    → then_some b n ≡ search_named x
named-by x n true F k p q = let h = p refl in rw (number_is x n F h.0 h.1, lt-ltb _ _ h.0)
named-by x n false F k p q =
    rw (number-none x 32 λ j l e.
    let part = named-part x j F l e in
    true≢false
    (sym (subst (λ (i : ℕ). x =ᶠ whole i ≡ true) (sym (k ∙ part)) e) ∙ q refl (rw (k ∙ part) l)))

-- ---- and what has a number is equal to it
below_equal : (x : Float) (k : ℕ) → number_below k x < 32 → x =ᶠ whole (number_below k x) ≡ true
unfolding number_below
below_equal x zero = λ h. absurd (let n : 32 < 32 = h in omega arith)
below_equal x (suc k) =
    by_cases (λ (n : ℕ). n < 32 → x =ᶠ whole n ≡ true) (x =ᶠ whole k) (λ e h. e) (λ e h. below_equal x k h)

pub number-equal : (x : Float) → number_below 32 x < 32 → x =ᶠ whole (number_below 32 x) ≡ true
number-equal x h = below_equal x 32 h

-- and where there is none it is 32
not-above : (x : Float) (k : ℕ) → k ≤ 32 → number_below k x ≤ 32
unfolding number_below
not-above x zero h = omega arith
not-above x (suc k) h =
    by_cases (λ (n : ℕ). n ≤ 32) (x =ᶠ whole k) (λ e. omega arith) (λ e. not-above x k (omega arith))

pub named-told : (x : Float) → unwrap_or (search_named x) 32 ≡ number_below 32 x
named-told x =
    by_cases (λ (o : Option ℕ). unwrap_or o 32 ≡ number_below 32 x) (ltb (number_below 32 x) 32) (λ t. refl)
    (λ f. let high = ltb-false (number_below 32 x) 32 f in let low = not-above x 32 (omega arith) in omega arith)

-- what `search_named` tells, read back
named-by-test : (s n : ℕ) (t : Bool) → ltb s 32 ≡ t → cond t (Some s) None ≡ Some n → (s ≡ n) × (n < 32)
named-by-test s n true e h = let same : s ≡ n = cc in (same, rw same at (ltb-true s 32 e))
named-by-test s n false e h = cc

pub named-some : (x : Float) (n : ℕ) → search_named x ≡ Some n → (number_below 32 x ≡ n) × (n < 32)
named-some x n = named-by-test (number_below 32 x) n (ltb (number_below 32 x) 32) refl

none-by-test : (s : ℕ) (t : Bool) → ltb s 32 ≡ t → cond t (Some s) None ≡ None → 32 ≤ s
none-by-test s true e h = cc
none-by-test s false e h = ltb-false s 32 e

pub named-none : (x : Float) → search_named x ≡ None → 32 ≤ number_below 32 x
named-none x = none-by-test (number_below 32 x) (ltb (number_below 32 x) 32) refl

pub minus-zero : number_below 32 (neg 0ᶠ) ≡ 0
unfolding eq neg of_bits of_int round fits
minus-zero = number_is (neg 0ᶠ) 0 refl (omega arith) refl

pub nan-none : number_below 32 nan ≡ 32
unfolding eq
nan-none = number-none nan 32 λ n l e. false≢true e
