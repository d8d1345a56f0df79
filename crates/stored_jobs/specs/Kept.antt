-- What becomes of any bytes, by the places of the bytes. That these are the fields of a stored job with the old bounds
-- at their place, and that all else is as it was, is proved in proofs/Kept.antt.
use Rattle.std.specs.Prelude.{ℕ, Bool, cond, not, ◌&&◌, List, ◌++◌, eqb, take, drop}
use Rattle.wire.specs.Wire.{byte_at}
use Rattle.fields.specs.Fields.{written}
use Rattle.jobs.specs.Reader.{job_of}
use Rattle.stored_jobs.specs.OldBounds.{old_bounds, is_job}

-- a job that has no field 2: one would stand behind the curve's four bytes
unfoldable pub relies : List ℕ → Bool
relies s = is_job (job_of s) && not (eqb (byte_at s 4) 2)

unfoldable pub kept_of : List ℕ → List ℕ
kept_of s = cond (relies s) (take 4 s ++ written old_bounds ++ drop 4 s) s
