-- The answers that a run accepts, for proofs: those given while it asks that pass a test. (What a machine accepts is
-- `tallied`, specs/Asking.antt; `tallied-is`, proofs/Tied.antt, says that the two are one.)
use Prim.Native.Nat.{ℕ, ◌+◌}
use mathlib.Core.Path.{◌≡◌, refl}
use mathlib.Core.Bool.{Bool, cond, not}
use mathlib.Core.List.{List, [], ◌∷◌}
use lib.Ieee.{Float}
use Rattle.runs.specs.Asking.{ask, end, Rest, Ended, Reply}

module _ {K : Type 0} where
  unfoldable pub accepted : (Float → Float → Bool) → Rest K → List Reply → ℕ
  accepted is_finite r [] = 0
  accepted is_finite (end o) (y ∷ ys) = 0
  accepted is_finite (ask k x then) (y ∷ ys) =
      cond (is_finite y.0 y.1) 1 0 + accepted is_finite (then y.0 y.1) ys

  -- and those that do not pass it
  abbrev pub is_not_finite : (Float → Float → Bool) → Rest K → List Reply → ℕ
  is_not_finite is_finite r ys = accepted (λ f g. not (is_finite f g)) r ys

  -- a search that is over accepts nothing
  pub none_more : (o : Ended K) (finite : Float → Float → Bool) (ys : List Reply) → accepted finite (end o) ys ≡ 0
  unfolding accepted
  none_more o finite [] = refl
  none_more o finite (y ∷ ys) = refl
