-- The numbers tell the refusals apart, and so results that tell the same are the same. Assumes nothing.
use mathlib.Core.Path.{◌≡◌, refl, ap}
use mathlib.Core.Bool.{cond}
use Prim.Native.Nat.{ℕ}
use lib.Dec.{eqb}
use Rattle.refusals.specs.declared.Refusal.{Refusal}
use Rattle.refusals.specs.declared.Refusal.TheVariants.{SuppliedNotFinite, OutOfRange, ResultNotFinite}
use Rattle.refusals.specs.declared.Refusal.TheVariants.{StepNotFinite, BudgetSpent, StepNotBetween, AlreadyOver}
use Rattle.refusals.specs.declared.Refusal.TheVariants.{NotDownhill, GrowthsSpent}
use Rattle.std.specs.Prelude.{Ok, Err}
use Rattle.std.specs.Prelude as Rust
use Rattle.floats.proofs.Determined.{determined}
use Rattle.refusals.specs.Results.{Result, value, refused}
use Rattle.refusals.specs.Refusals.{number_of, by_number}

pub with_number : ℕ → Refusal
with_number n =
    cond (eqb n 2) SuppliedNotFinite
    (cond (eqb n 3) OutOfRange
    (cond (eqb n 4) ResultNotFinite
    (cond (eqb n 5) StepNotFinite
    (cond (eqb n 6) BudgetSpent
    (cond (eqb n 7) StepNotBetween
    (cond (eqb n 8) AlreadyOver
    (cond (eqb n 10) NotDownhill
    GrowthsSpent)))))))

pub number-back : (k : Refusal) → with_number (number_of k) ≡ k
unfolding with_number
number-back SuppliedNotFinite = refl
number-back OutOfRange = refl
number-back ResultNotFinite = refl
number-back StepNotFinite = refl
number-back BudgetSpent = refl
number-back StepNotBetween = refl
number-back AlreadyOver = refl
number-back NotDownhill = refl
number-back GrowthsSpent = refl

module _ {A : Type 0} where
  read : Result A → Rust.Result A Refusal
  read (value a) = Ok a
  read (refused n) = Err (with_number n)

  back : (r : Rust.Result A Refusal) → read (by_number r) ≡ r
  unfolding read
  back (Ok a) = refl
  back (Err k) = ap Err (number-back k)

  -- two results that tell the same are identical
  pub same_told : (r q : Rust.Result A Refusal) → by_number r ≡ by_number q → r ≡ q
  same_told r q e = determined by_number read back r q e
