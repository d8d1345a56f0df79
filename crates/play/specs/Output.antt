-- 01, "Sample curves and jobs": the whole text that belongs to a job, for any bytes. It rests on 01's format (`job_by`,
-- which jobs/proofs/BothWays.antt shows to be the format), 01's order of refusals, 01's rules and 01's lines alone.
use Rattle.std.specs.Prelude.{ℕ, List}
use Rattle.refusals.specs.Results.{Result, value, refused, refuse◌else◌}
use Rattle.hagerzhang_rules.specs.declared.Options.{Options}
use Rattle.hagerzhang_rules.specs.Parameters.{default_options}
use Rattle.hagerzhang_rules.specs.Rules.{hager_zhang}
use Rattle.lines.specs.Lines.{refused_line}
use Rattle.jobs.specs.declared.Job.{Job}
use Rattle.jobs.specs.Reader.{job_by}
use Rattle.jobs.specs.Opening.{curve_of, setup_for, job_rows}
use Rattle.play.specs.Telling.{telling, text_of}

-- a search over the job's curve, from no evaluations on
abbrev pub search_text : Job → List ℕ
search_text j = text_of (telling (curve_of j) 0 (hager_zhang (setup_for j)))

-- "or `REFUSED n` alone after the ASK lines", of which there are none here
abbrev pub or_refused : Result (List ℕ) → List ℕ
or_refused (value text) = text
or_refused (refused n) = refused_line n

abbrev pub job_text : Result Job → List ℕ
job_text (value j) = or_refused (refuse (job_rows j) else search_text j)
job_text (refused n) = refused_line n

-- where d are the defaults
abbrev pub output_by : Options → List ℕ → List ℕ
output_by d bytes = job_text (job_by d bytes)

abbrev pub output_of : List ℕ → List ℕ
output_of bytes = output_by default_options bytes
