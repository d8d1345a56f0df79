-- The search of a job is the one that `hagerzhang::start` gives for its options, with cost and slope of its curve at 0
-- (`begun`): no row of a start holds of them, so that whatever is shown of accepted starts holds of jobs; and its way
-- of starting is 01's (`job-bounded`). Assumes nothing.
use mathlib.Core.Path.{◌≡◌, refl, sym, ap, subst}
use mathlib.Core.Bool.{false, not}
use mathlib.Core.List.{List}
use Rattle.std.specs.Prelude.{Option, Some, None}
use Prim.Native.Nat.{ℕ}
use lib.Dec.{eqb}
use lib.ListN.{length}
use lib.Ieee.{Float}
use borrow.Author.Tests.{not-false}
use Rattle.floats.proofs.Branches.{by_cases}
use Rattle.refusals.specs.Results.{Result, value, refused}
use Rattle.refusals.proofs.Refusals.{Passed, and, passed, refused-not-value, value-given}
use Rattle.hagerzhang_rules.specs.declared.Bounds.{Bounds}
use Rattle.hagerzhang_rules.specs.declared.Way.{Way}
use Rattle.hagerzhang_rules.specs.declared.Way.TheVariants.{Bounded}
use Rattle.hagerzhang_rules.specs.declared.Options.{Options}
use Rattle.hagerzhang_rules.specs.Parameters.{default_options, options_finite, supplied_finite, start_rows}
use Rattle.hagerzhang_rules.specs.Iterations.{f64s_by, F64s}
use Rattle.hagerzhang_rules.proofs.Ranges.{Accepted}
use Rattle.curves.specs.declared.Curve.{Curve}
use Rattle.curves.specs.Curves.{has_number}
use Rattle.hagerzhang.specs.Machine.{Turn}
use Rattle.hagerzhang.specs.Machine.{fresh_of, start_of}
use Rattle.jobs.specs.declared.Job.{Job}
use Rattle.jobs.specs.Format.{options_of, decoded}
use Rattle.jobs.specs.Reader.{found, behind, job_of}
use Rattle.jobs.specs.Opening.{curve_of, f0_of, s0_of, setup_for, job_rows, begun_by, begin_of}
use Rattle.jobs.proofs.AtZero.{f0-finite, s0-finite}

-- where no row of a job holds, none of a start does
pub job-passes : (j : Job) → Passed (job_rows j) → Passed (start_rows j.options (f0_of j) (s0_of j))
job-passes j (and two (and three ranges)) =
    let h = not-false (has_number j.curve) three in
    let first : not (supplied_finite j.options (f0_of j) (s0_of j)) ≡ false =
    rw (not-false (options_finite j.options) two, f0-finite j h, s0-finite j h) in
    and first ranges

-- ---- a job has 01's way of starting
abbrev pub IsBounded : Way → Type 0
IsBounded w = (e : Bounds) × (w ≡ Bounded e)

abbrev OfBounds : Result Job → Type 0
OfBounds (value j) = IsBounded j.options.way
OfBounds (refused n) = Unit

options-bounded : (ends start epsilon budget limit : Option (List ℕ))
    → IsBounded (options_of default_options ends start epsilon budget limit).way
unfolding options_of
options-bounded (Some body) start epsilon budget limit = (_, refl)
options-bounded None start epsilon budget limit = (_, refl)

decoded-bounded : (curve : Option (List ℕ)) (o : Options) → IsBounded o.way → OfBounds (decoded curve o)
unfolding decoded
decoded-bounded (Some body) o h = h
decoded-bounded None o h = tt

reads-bounded : (bytes : List ℕ) → OfBounds (job_of bytes)
reads-bounded s1 =
    let s2 = behind 1 1 s1 in
    let s3 = behind 2 16 s2 in
    let s4 = behind 3 8 s3 in
    let s5 = behind 4 8 s4 in
    let s6 = behind 5 2 s5 in
    let o =
    options_of default_options (found 2 16 s2) (found 3 8 s3) (found 4 8 s4) (found 5 2 s5) (found 6 2 s6) in
    by_cases OfBounds (eqb (length (behind 6 2 s6)) 0) {x = decoded (found 1 1 s1) o} {y = refused 9}
    (λ e. decoded-bounded (found 1 1 s1) o
    (options-bounded (found 2 16 s2) (found 3 8 s3) (found 4 8 s4) (found 5 2 s5) (found 6 2 s6)))
    (λ e. tt)

pub job-bounded : (bytes : List ℕ) (j : Job) → job_of bytes ≡ value j → IsBounded j.options.way
job-bounded bytes j is = subst OfBounds is (reads-bounded bytes)

bounded-fits : (o : Options) (f0 : Float) → IsBounded o.way → F64s o f0
bounded-fits o f0 h = subst (λ (w : Way). f64s_by w o.params.start f0) (sym h.1) tt

-- what a job began
pub record Begins (bytes : List ℕ) (c : Curve) (t : Turn) : Type 0 where
  pub job : Job
  pub is-job : job_of bytes ≡ value job
  pub same-curve : curve_of job ≡ c
  pub same_step : fresh_of (setup_for job) ≡ t
  pub passes : Passed (job_rows job)
  pub accepted : Accepted job.options (f0_of job) (s0_of job)
  pub bounded : IsBounded job.options.way
  pub started : start_of job.options (f0_of job) (s0_of job) ≡ value t

module _ (bytes : List ℕ) (c : Curve) (t : Turn) where
  with-job : (a : Result Job) → job_of bytes ≡ a → begun_by a ≡ value (c, t) → Begins bytes c t
  with-job (value j) is h =
      let p = passed (job_rows j) (curve_of j, fresh_of (setup_for j)) (c, t) h in
      let step : fresh_of (setup_for j) ≡ t = ap (λ (q : Curve × Turn). q.1) p.1 in
      let ok = job-passes j p.0 in
      let way = job-bounded bytes j is in
      record {
        job = j;
        is-job = is;
        same-curve = ap (λ (q : Curve × Turn). q.0) p.1;
        same_step = step;
        passes = p.0;
        accepted = record { passed = ok; f64s = bounded-fits j.options (f0_of j) way };
        bounded = way;
        started = rw (← step) (value-given (start_rows j.options (f0_of j) (s0_of j)) (fresh_of (setup_for j)) ok);
      }
  with-job (refused n) is h = absurd (refused-not-value n (c, t) h)

  pub begun : begin_of bytes ≡ value (c, t) → Begins bytes c t
  begun h = with-job (job_of bytes) refl h
