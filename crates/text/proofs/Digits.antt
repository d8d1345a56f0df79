-- The last of several decimal digits, as the code comes to it. Assumes nothing.
use mathlib.Core.Path.{◌≡◌, refl}
use mathlib.Core.List.{[], ◌∷◌, ◌++◌}
use Prim.Native.Nat.{ℕ, zero, suc, ◌-◌, ◌/◌, ◌%◌, ◌≤◌}
use native.Mathlib.Numerals.{sub-one}
use borrow.Author.Tests.{le-ltb}
use Rattle.text.specs.Text.{digit, decimal_up_to}

pub more-digits : (k n : ℕ) → (k ≡ 0 → ⊥) → 10 ≤ n
    → decimal_up_to (k - 1) (n / 10) ++ digit (n % 10) ∷ [] ≡ decimal_up_to k n
unfolding decimal_up_to
more-digits zero n some h = absurd (some refl)
more-digits (suc k) n some h = simp (sub-one, le-ltb n 10 h)
