-- Demand 1: every function that can refuse does so by its table, and leaves what 01 says (`demand1`). A result is
-- defined as the first row that holds, so the tables are read off the definitions. Assumes nothing.
use mathlib.Core.Path.{◌≡◌, refl, sym, ap, ◌∙◌}
use mathlib.Core.List.{List}
use Prim.Native.Nat.{ℕ}
use lib.ListN.{length}
use Rattle.refusals.specs.Results.{value}
use Rattle.refusals.specs.Refusals.{given, is_in_order, Table, refused_by}
use Rattle.refusals.proofs.Refusals.{by_rows, passed}
use Rattle.vectors.specs.Vectors.{dot_rows, point_rows}
use Rattle.vectors.specs.Told.{dot_told, point_told}
use Rattle.vectors.proofs.Positions.{dot_at, one-condition, point_at}
use Rattle.vectors.proofs.Untouched.{buffers-untouched}
use Rattle.conditions.specs.Conditions.{condition_rows}
use Rattle.curves.specs.Curves.{curve_rows}
use Rattle.hagerzhang_rules.specs.Parameters.{start_rows}
use Rattle.fields.specs.Fields.{Field}
use Rattle.jobs.specs.declared.Job.{Job}
use Rattle.jobs.specs.Format.{WellFormed, means_of}
use Rattle.jobs.proofs.BothWays.{job_read, no-job-refused}
use Rattle.jobs.specs.Opening.{Opened, job_rows, begun_by, opened_told, BeginSaid}
use Rattle.demands.specs.Demand1.{Demand1}
use Rattle.demands.proofs.Answered.{answered}
use Rattle.demands.proofs.Refused.{refused-rightly}

job-table : (bytes : List ℕ) (r : Opened) → BeginSaid bytes r → (fs : List Field) (j : Job) → WellFormed 0 fs bytes
    → means_of fs ≡ value j
    → Table (refused_by (opened_told r)) (job_rows j)
unfolding is_in_order
job-table bytes r said fs j holds means = record {
  exactly = ap refused_by (said ∙ ap begun_by (job_read bytes fs j holds means)) ∙ by_rows (job_rows j) _;
  ordered = refl;
}

pub demand1 : Demand1
unfolding given is_in_order
demand1 = record {
  dot = λ a b r said. record { exactly = ap refused_by said ∙ by_rows (dot_rows a b) _; ordered = refl };
  point = λ x0 alpha d held r now said. record {
    exactly = ap refused_by said.0 ∙ by_rows (point_rows x0 alpha d _) _;
    ordered = refl;
  };
  dot_at = λ a b r said. dot_at a b (dot_told r) said;
  point_at = λ x0 alpha d held r now said. point_at x0 alpha d (length held) (point_told r now) said.0;
  one-condition = one-condition;
  buffer = buffers-untouched;
  condition = λ C r said. record { exactly = ap refused_by said ∙ by_rows (condition_rows C) _; ordered = refl };
  condition-kept = λ C D said. sym (passed (condition_rows C) C D (sym said)).1;
  curve = λ n r said. record { exactly = ap refused_by said ∙ by_rows (curve_rows n) _; ordered = refl };
  start = λ o f0 s0 r said. record { exactly = ap refused_by said ∙ by_rows (start_rows o f0 s0) _; ordered = refl };
  job_read = λ bytes r said fs j holds means. said ∙ job_read bytes fs j holds means;
  no-job = λ bytes r said none. said ∙ no-job-refused bytes none;
  no-job-begun = λ bytes r said none. said ∙ ap begun_by (no-job-refused bytes none);
  job = job-table;
  answer = answered;
  curve-answer = λ s c x r said runs amiss. (answered s _ _ r said).early 2 (rw (runs, amiss));
  search-given = refused-rightly;
}
