-- What `read` finds and leaves, field by field, is what the reader does: what is read there is the job. Assumes
-- nothing.
use mathlib.Core.Path.{◌≡◌, refl}
use mathlib.Core.Bool.{Bool, true, false, cond}
use mathlib.Core.List.{List}
use Prim.Native.Nat.{ℕ}
use lib.Dec.{eqb}
use lib.ListN.{length}
use Rattle.std.specs.Prelude.{Some, None}
use Rattle.refusals.specs.Results.{Result, value, refused}
use Rattle.hagerzhang_rules.specs.declared.Options.{Options}
use Rattle.hagerzhang_rules.specs.Parameters.{default_options}
use Rattle.wire.specs.Wire.{byte_at}
use Rattle.jobs.specs.declared.Job.{Job}
use Rattle.jobs.specs.Format.{decoded, options_of}
use Rattle.jobs.specs.Reader.{stands, found, behind, job_of}

either_way : (b : Bool) (a : Result Job) → a ≡ cond b a a
either_way true a = refl
either_way false a = refl

pub not_found : (tag n : ℕ) (s : List ℕ) → stands tag n s ≡ false → None ≡ found tag n s
unfolding found
not_found tag n s h = rw h

-- no curve, no job
pub no-curve : (s : List ℕ) → None ≡ found 1 1 s → refused 9 ≡ job_of s
unfolding decoded
no-curve s none =
    let left = behind 6 2 (behind 5 2 (behind 4 8 (behind 3 8 (behind 2 16 (behind 1 1 s))))) in
    rw (← none) (either_way (eqb (length left) 0) (refused 9))

-- a curve, and nothing left behind the last field
pub whole : (s s2 s3 s4 s5 s6 left curve : List ℕ) → Some curve ≡ found 1 1 s → s2 ≡ behind 1 1 s
    → s3 ≡ behind 2 16 s2 → s4 ≡ behind 3 8 s3 → s5 ≡ behind 4 8 s4 → s6 ≡ behind 5 2 s5 → left ≡ behind 6 2 s6
    → length left ≡ 0 → (number : ℕ) → number ≡ byte_at curve 0 → (o : Options)
    → o ≡ options_of default_options (found 2 16 s2) (found 3 8 s3) (found 4 8 s4) (found 5 2 s5) (found 6 2 s6)
    → value (record { curve = number; options = o }) ≡ job_of s
unfolding decoded
whole s s2 s3 s4 s5 s6 left curve there e2 e3 e4 e5 e6 e7 none number is o says =
    rw (← e2, ← e3, ← e4, ← e5, ← e6, ← e7, none, ← there, is, says)
