-- `stored_jobs::relies` meets its contract. Assumes nothing.
use mathlib.Core.Path.{◌≡◌, sym, ap, ◌∙◌}
use mathlib.Core.List.{List}
use Prim.Native.Nat.{ℕ}
use Rattle.std.specs.Prelude.{Ok, Err, is_ok}
use Rattle.std.specs.Prelude as Rust
use Rattle.jobs.specs.declared.Job.{Job}
use Rattle.fields.specs.declared.Malformed.{Malformed}
use Rattle.jobs.specs.Reader.{job_of, ReadSaid}
use Rattle.stored_jobs.specs.OldBounds.{is_job}
use Rattle.stored_jobs.specs.Kept.{relies}
use Rattle.stored_jobs.proofs.relies.Goals as goal

-- the bytes are a job exactly where the reader gives one
read_so : (r : Rust.Result Job Malformed) (s : List ℕ) → ReadSaid s r → is_ok r ≡ is_job (job_of s)
read_so (Ok j) s e = ap is_job e
read_so (Err k) s e = ap is_job e

pub returns-then-is_ok : goal.returns-then-is_ok
unfolding relies
returns-then-is_ok c =
    let job = sym (read_so _ _ c.read.ensures) ∙ sym c.is_ok.ensures.value ∙ c.if-is_ok.true in
    rw (job, c.byte.ensures)

pub returns-else-is_ok : goal.returns-else-is_ok
unfolding relies
returns-else-is_ok c =
    let job = sym (read_so _ _ c.read.ensures) ∙ sym c.is_ok.ensures.value ∙ c.if-is_ok.false in
    rw (job, c.if-is_ok.false)
