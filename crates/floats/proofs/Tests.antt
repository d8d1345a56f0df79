-- From a test's outcome, as `b ≡ true`, to the fact `T b` that the library's laws speak of, and back. Assumes nothing.
use mathlib.Core.Path.{◌≡◌, sym, subst}
use mathlib.Core.Logic.{◌⊎◌, inl, inr}
use mathlib.Core.Bool.{Bool, true, false, not, ◌||◌}
use lib.Dec.{T}

pub yes : {b : Bool} → b ≡ true → T b
yes e = subst T (sym e) tt

pub no : {b : Bool} → b ≡ false → T (not b)
no e = subst (λ (b : Bool). T (not b)) (sym e) tt

pub yes_or_no : (a : Bool) → T a ⊎ T (not a)
yes_or_no true = inl tt
yes_or_no false = inr tt

pub or_l : (a b : Bool) → T a → T (a || b)
or_l true b t = tt
or_l false b t = absurd t

pub or_r : (a b : Bool) → T b → T (a || b)
or_r true b t = tt
or_r false b t = t

pub or_split : (a b : Bool) → T (a || b) → T a ⊎ T b
or_split true b t = inl tt
or_split false b t = inr t

pub or-other : (a b : Bool) → T (a || b) → T (not a) → T b
or-other true b t n = absurd n
or-other false b t n = t
