-- 02, request 1: a dot and a point that are refused by 2 or 4 tell "the index of the first element at fault". Here
-- stands what a refusal of vectors tells, and which index is the first.
use Rattle.std.specs.Prelude.{ℕ, zero, suc, ◌<◌, ◌≡◌, Bool, true, false, cond, Option, Some, None}

-- what a refusal of vectors tells: its number alone, or its number and an index, counted from 0
infix 30 ◌at◌
pub data Fault : Type 0 where
  alone : ℕ → Fault
  ◌at◌ : ℕ → ℕ → Fault

abbrev pub number_in : Fault → ℕ
number_in (alone n) = n
number_in (n at i) = n

-- i is "the first index" below n at which p holds
pub record IsFirst (p : ℕ → Bool) (n i : ℕ) : Type 0 where
  pub below : i < n
  pub holds : p i ≡ true
  pub lowest : (j : ℕ) → j < i → p j ≡ false

-- a search of the indices below n came to the first at which p holds, or found none
abbrev pub FirstFound : (ℕ → Bool) → ℕ → Option ℕ → Type 0
FirstFound p n (Some i) = IsFirst p n i
FirstFound p n None = (j : ℕ) → j < n → p j ≡ false

-- the first index below n at which p holds; n where there is none
unfoldable pub first : (ℕ → Bool) → ℕ → ℕ
first p zero = zero
first p (suc n) = cond (p zero) zero (suc (first (λ i. p (suc i)) n))
