-- Any two results that a contract allows are identical (01, "How tight the contracts are"): of `read` and of `begin`.
-- Assumes nothing.
use mathlib.Core.Path.{◌≡◌, refl, sym, ap, ◌∙◌}
use mathlib.Core.Bool.{cond}
use mathlib.Core.List.{List}
use Prim.Native.Nat.{ℕ}
use lib.Dec.{eqb}
use Rattle.floats.proofs.Determined.{determined}
use Rattle.refusals.specs.Results.{Result, value, refused}
use Rattle.refusals.specs.Refusals.{number_of}
use Rattle.refusals.specs.declared.Refusal.{Refusal}
use Rattle.refusals.specs.declared.Refusal.TheVariants.{
  SuppliedNotFinite,
  OutOfRange,
  ResultNotFinite,
  StepNotFinite,
  BudgetSpent,
  StepNotBetween,
  AlreadyOver,
  NotDownhill,
  GrowthsSpent,
}
use Rattle.refusals.proofs.Determined.{with_number, number-back}
use Rattle.curves.specs.declared.Curve.{Curve}
use Rattle.hagerzhang.specs.Machine.{Turn}
use Rattle.jobs.specs.declared.Job.{Job}
use Rattle.std.specs.Prelude.{Ok, Err}
use Rattle.std.specs.Prelude as Rust
use Rattle.fields.specs.declared.Malformed.{Malformed}
use Rattle.jobs.specs.declared.refusal.Refusal as Jobs
use Rattle.jobs.specs.declared.refusal.Refusal.TheVariants.{Malformed as NoJob, NoSearch}
use Rattle.jobs.specs.Reader.{read_told, ReadSaid}
use Rattle.jobs.specs.Opening.{Opened, opened_told, BeginSaid}

reading : Result Job → Rust.Result Job Malformed
reading (value j) = Ok j
reading (refused n) = Err (record {})

reading-back : (r : Rust.Result Job Malformed) → reading (read_told r) ≡ r
unfolding reading
reading-back (Ok j) = refl
reading-back (Err e) = refl

pub read-determined : (bytes : List ℕ) (r q : Rust.Result Job Malformed) → ReadSaid bytes r → ReadSaid bytes q → r ≡ q
read-determined bytes r q said said' = determined read_told reading reading-back r q (said ∙ sym said')

opens : Result (Curve × Turn) → Opened
opens (value p) = Ok p
opens (refused n) = Err (cond (eqb n 9) NoJob (NoSearch (with_number n)))

-- no refusal of a search has 9's number
not-nine : (k : Refusal) (a b : Jobs.Refusal) → cond (eqb (number_of k) 9) a b ≡ b
not-nine SuppliedNotFinite a b = refl
not-nine OutOfRange a b = refl
not-nine ResultNotFinite a b = refl
not-nine StepNotFinite a b = refl
not-nine BudgetSpent a b = refl
not-nine StepNotBetween a b = refl
not-nine AlreadyOver a b = refl
not-nine NotDownhill a b = refl
not-nine GrowthsSpent a b = refl

opens_back : (r : Opened) → opens (opened_told r) ≡ r
unfolding opens
opens_back (Ok p) = refl
opens_back (Err NoJob) = refl
opens_back (Err (NoSearch k)) = rw (not-nine k _ _) (ap (λ (n : Refusal). Err (NoSearch n)) (number-back k))

pub begin-determined : (bytes : List ℕ) (r q : Opened) → BeginSaid bytes r → BeginSaid bytes q → r ≡ q
begin-determined bytes r q said said' = determined opened_told opens opens_back r q (said ∙ sym said')
