-- 02, request 2: "Jobs without tag 2 relied on the old number. Our stored jobs get a field 2 written with the old
-- bounds, and a test shows that their output is unchanged." For any bytes s, `stored_jobs::with_bounds` writes
-- `kept_of s`. Here is what that is, and that it says what s said. `job_by d` is what bytes say where d are the
-- defaults, and the first two fields tie it to 01's format; `job_of` and `output_of` are those of today's defaults.
use Rattle.std.specs.Prelude.{ℕ, ◌≤◌, ◌<◌, ◌≡◌, List, length, Some}
use Rattle.refusals.specs.Results.{value, refused}
use Rattle.hagerzhang_rules.specs.declared.Options.{Options}
use Rattle.fields.specs.Fields.{Field}
use Rattle.jobs.specs.declared.Job.{Job}
use Rattle.jobs.specs.Format.{WellFormed, body_under, means_by, means_of}
use Rattle.jobs.specs.Reader.{job_by, job_of}
use Rattle.stored_jobs.specs.OldBounds.{old_defaults, with_bounds, bytes_of, is_job}
use Rattle.stored_jobs.specs.Kept.{kept_of}
use Rattle.play.specs.Output.{output_by, output_of}

pub record StoredJobs : Type 0 where
  -- what bytes say by any defaults: what their fields say, or 9
  pub job-said : (d : Options) (s : List ℕ) (fs : List Field) → WellFormed 0 fs s → job_by d s ≡ means_by d fs
  pub no-job-said : (d : Options) (s : List ℕ)
      → ((fs : List Field) (j : Job) → WellFormed 0 fs s → means_of fs ≡ value j → ⊥) → job_by d s ≡ refused 9
  -- the fields of a job, "a field 2 written with the old bounds" at its place where there was none
  pub job-kept : (s : List ℕ) (fs : List Field) (j : Job) → WellFormed 0 fs s → means_of fs ≡ value j
      → kept_of s ≡ bytes_of (with_bounds fs)
  -- what has a field 2, and whatever is no job, is byte for byte what it was
  pub bounds-stay : (s : List ℕ) (fs : List Field) (body : List ℕ) → WellFormed 0 fs s → body_under 2 fs ≡ Some body
      → kept_of s ≡ s
  pub no-job-stays : (s : List ℕ) → ((fs : List Field) (j : Job) → WellFormed 0 fs s → means_of fs ≡ value j → ⊥)
      → kept_of s ≡ s
  -- what is written is a job exactly where s is, and says with the new defaults what s said with the old ones
  pub job-exactly : (s : List ℕ) → is_job (job_of (kept_of s)) ≡ is_job (job_of s)
  pub says : (s : List ℕ) → job_of (kept_of s) ≡ job_by old_defaults s
  -- "their output is unchanged": the whole text that belongs to the job
  pub output : (s : List ℕ) → output_of (kept_of s) ≡ output_by old_defaults s
  -- a second time nothing changes
  pub once : (s : List ℕ) → kept_of (kept_of s) ≡ kept_of s
  -- in pieces: the longest job has 55 bytes, so more stay as they are; and at most 56 come out as at most 56
  pub long-stays : (s : List ℕ) → 55 < length s → kept_of s ≡ s
  pub fits : (s : List ℕ) → length s ≤ 56 → length (kept_of s) ≤ 56
