-- 02, request 2, of stored jobs: `stored-jobs`. What is written is shown in stored_jobs/proofs/Kept.antt. That the
-- whole text of a job stays follows, since the text is worked out from what the job says. Assumes nothing.
use mathlib.Core.Path.{ap}
use Rattle.hagerzhang_rules.specs.Parameters.{default_options}
use Rattle.jobs.proofs.BothWays.{format-is-read, no-job-refused, no-job-by-any}
use Rattle.stored_jobs.proofs.Kept as kept
use Rattle.play.specs.Output.{job_text}
use Rattle.demands.specs.StoredJobs.{StoredJobs}

pub stored-jobs : StoredJobs
stored-jobs = record {
  job-said = λ d s fs holds. format-is-read d fs s holds;
  no-job-said = λ d s never. no-job-by-any default_options d s (no-job-refused s never);
  job-kept = kept.job-kept;
  bounds-stay = kept.bounds-stay;
  no-job-stays = λ s never. kept.no-job-stays s (no-job-refused s never);
  job-exactly = kept.kept-is-job;
  says = kept.kept-says;
  output = λ s. ap job_text (kept.kept-says s);
  once = kept.kept-once;
  long-stays = kept.long-stays;
  fits = kept.fits;
}
