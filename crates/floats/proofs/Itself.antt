-- A float less itself is a zero, or a NaN where it is not finite; and the quotient of two such floats is a NaN
-- (`quotient-of-none`). Assumes nothing.
use mathlib.Core.Path.{◌≡◌, refl, ap, ◌∙◌}
use mathlib.Core.Bool.{Bool, true, false, not}
use Prim.Native.Nat.{ℕ, ◌-◌, ◌*◌, ◌<◌}
use native.Mathlib.Nat.{mul-pos, zero-mul}
use native.Mathlib.Omega.{arith}
use lib.Dec.{ltb}
use lib.Ieee.{Float, nan, inf, fin, binary64, up, down, round, sum, add, sub, div, neg, is_nan}
use lib.Ieee.Fits.{down_pos, up_pos}
use lib.Ieee.Exact.{HasValue}
use Rattle.floats.specs.Arithmetic.{◌⊖◌, ◌⊘◌}
use Rattle.floats.proofs.Branches.{by_cases}
use Rattle.floats.proofs.Rounding.{zero_val}
use Rattle.floats.proofs.Signed.{zero_of}

-- a zero or a NaN
abbrev pub None : Float → Type 0
None nan = Unit
None (inf s) = ⊥
None (fin s m e) = m ≡ 0

of-value : (x : Float) (s : Bool) (a c : ℕ) → 0 < c → a ≡ 0 → HasValue x s a c → None x
of-value nan s a c C z h = absurd h
of-value (inf t) s a c C z h = absurd h
of-value (fin t m e) s a c C z h =
    zero_of m (up e) (up_pos e) (zero_of (m * up e) c C (h.1 ∙ ap (λ (k : ℕ). k * down e) z ∙ zero-mul (down e)))

rounded : (s : Bool) (a c : ℕ) → 0 < c → a ≡ 0 → None (round binary64 s a c)
rounded s a c C z = of-value (round binary64 s a c) s a c C z (zero_val binary64 s a c C z)

less-itself : (s : Bool) (a c : ℕ) → 0 < c → None (sum binary64 s a (not s) a c)
unfolding sum
less-itself true a c C =
    by_cases None (ltb a a) (λ e. rounded false (a - a) c C (omega arith)) (λ e. rounded _ (a - a) c C (omega arith))
less-itself false a c C =
    by_cases None (ltb a a) (λ e. rounded true (a - a) c C (omega arith)) (λ e. rounded _ (a - a) c C (omega arith))

pub difference-of-itself : (x : Float) → None (x ⊖ x)
unfolding sub add neg
difference-of-itself nan = tt
difference-of-itself (inf true) = tt
difference-of-itself (inf false) = tt
difference-of-itself (fin s m e) =
    less-itself s (m * up e * down e) (down e * down e) (mul-pos (down_pos e) (down_pos e))

pub quotient-of-none : (x y : Float) → None x → None y → is_nan (x ⊘ y) ≡ true
unfolding div is_nan
quotient-of-none nan y p q = refl
quotient-of-none (inf s) y p q = absurd p
quotient-of-none (fin s m e) nan p q = refl
quotient-of-none (fin s m e) (inf t) p q = absurd q
quotient-of-none (fin s m e) (fin t n d) p q = rw (p, q)
