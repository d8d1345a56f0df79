-- 01, "Order", over a whole job: "9, 2, 3, 4 in that order"; and the search that starts where none applies.
use Rattle.std.specs.Prelude.{ℕ, ◌≡◌, not, List, ◌∷◌, Float, Ok, Err}
use Rattle.std.specs.Prelude as Rust
use Rattle.floats.specs.Arithmetic.{0ᶠ}
use Rattle.refusals.specs.Results.{Result, value, refused, Row, refuse◌else◌}
use Rattle.refusals.specs.Refusals.{number_of}
use Rattle.hagerzhang_rules.specs.declared.Options.{Options}
use Rattle.hagerzhang_rules.specs.declared.Setup.{Setup}
use Rattle.hagerzhang_rules.specs.Parameters.{options_finite, range_rows, start_rows, setup_of}
use Rattle.curves.specs.declared.Curve.{Curve}
use Rattle.curves.specs.Curves.{has_number, numbered_at, value_of, slope_of}
use Rattle.hagerzhang.specs.Machine.{Turn, fresh_of}
use Rattle.jobs.specs.declared.Job.{Job}
use Rattle.jobs.specs.Reader.{job_of}
use Rattle.jobs.specs.declared.refusal.Refusal.{Refusal}
use Rattle.jobs.specs.declared.refusal.Refusal.TheVariants.{Malformed, NoSearch}

abbrev pub curve_of : Job → Curve
curve_of j = numbered_at j.curve

-- "f0 and s0 are taken at 0."
abbrev pub f0_of : Job → Float
f0_of j = value_of (curve_of j) 0ᶠ

abbrev pub s0_of : Job → Float
s0_of j = slope_of (curve_of j) 0ᶠ

abbrev pub setup_for : Job → Setup
setup_for j = setup_of j.options (f0_of j) (s0_of j)

-- 2: "a supplied number is NaN or infinite"; 3: "a parameter, B, N or curve number is outside its range", of which the
-- curve's number is the job's own; the other ranges, and then 10 and 4, are the start's. 10 is of a start that grows,
-- and no job has one. f0 and s0 are not supplied, and finite on every curve (proofs/AtZero.antt)
abbrev pub job_rows : Job → List Row
job_rows j =
    (2, not (options_finite j.options))
    ∷ (3, not (has_number j.curve))
    ∷ range_rows j.options (f0_of j) (s0_of j)

-- 9, "the job is malformed", comes before all these. The search that has asked its first step, a = min, is `fresh_of`
abbrev pub begun_by : Result Job → Result (Curve × Turn)
begun_by (value j) = refuse (job_rows j) else (curve_of j, fresh_of (setup_for j))
begun_by (refused n) = refused n

-- the curve and the search that a job begins, for any bytes
abbrev pub begin_of : List ℕ → Result (Curve × Turn)
begin_of bytes = begun_by (job_of bytes)

-- a start over a curve, by its own rows. Where the job's first two rows do not hold, it is
-- what the job begins (proofs/Refusals.antt)
abbrev pub over_curve : Curve → Options → Result (Curve × Turn)
over_curve c o =
    let f0 = value_of c 0ᶠ in
    let s0 = slope_of c 0ᶠ in
    refuse (start_rows o f0 s0) else (c, fresh_of (setup_of o f0 s0))

-- the number of each refusal of a job
abbrev pub refusal_number : Refusal → ℕ
refusal_number Malformed = 9
refusal_number (NoSearch k) = number_of k

-- what a job begins, in the code, and what each case of it tells
abbrev pub Opened : Type 0
Opened = Rust.Result (Curve × Turn) Refusal

abbrev pub opened_told : Opened → Result (Curve × Turn)
opened_told (Ok p) = value p
opened_told (Err r) = refused (refusal_number r)

-- what `begin`'s contract says of a result r, for any bytes
abbrev pub BeginSaid : List ℕ → Opened → Type 0
BeginSaid bytes r = opened_told r ≡ begin_of bytes
