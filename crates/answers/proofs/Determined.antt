-- Any two results that `check`'s contract allows are identical (01, "How tight the contracts are"). The other contracts
-- give the result itself. Assumes nothing.
use Rattle.std.proofs.Common.{◌≡◌, ℕ, cond, eqb, List, sym, refl, ap, ◌∙◌}
use Rattle.std.specs.Prelude.{Ok, Err}
use Rattle.std.specs.Prelude as Rust
use lib.Ieee.{Float}
use Rattle.floats.proofs.Determined.{determined}
use Rattle.refusals.specs.Results.{Result, value, refused}
use Rattle.answers.specs.declared.Refusal.{Refusal}
use Rattle.answers.specs.declared.Refusal.TheVariants.{Lengths, NoSuchSearch}
use Rattle.answers.specs.Answers.{refusal_number, checked_told, CheckedSaid}

-- the numbers tell the refusals apart
with_number : ℕ → Refusal
with_number n = cond (eqb n 1) Lengths NoSuchSearch

number-back : (k : Refusal) → with_number (refusal_number k) ≡ k
unfolding with_number
number-back Lengths = refl
number-back NoSuchSearch = refl

read : Result Unit → Rust.Result Unit Refusal
read (value u) = Ok tt
read (refused n) = Err (with_number n)

back : (r : Rust.Result Unit Refusal) → read (checked_told r) ≡ r
unfolding read
back (Ok u) = refl
back (Err k) = ap Err (number-back k)

-- what is told of a list tells all
pub told-apart : (r q : Rust.Result Unit Refusal) → checked_told r ≡ checked_told q → r ≡ q
told-apart r q e = determined checked_told read back r q e

pub check-determined : (n : ℕ) (xs : List Float) (r q : Rust.Result Unit Refusal)
    → CheckedSaid n xs r → CheckedSaid n xs q → r ≡ q
check-determined n xs r q said said' = told-apart r q (said ∙ sym said')
