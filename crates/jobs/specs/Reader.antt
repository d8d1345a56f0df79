-- How a job is read, for any bytes at all: in the order of the tags each field is there or not, and nothing may be
-- left. That this reads 01's format, no less and no more, whatever the defaults are, is proved in proofs/BothWays.antt.
use Rattle.std.specs.Prelude.{ℕ, ◌≡◌, Bool, false, cond, ◌&&◌, List, eqb, length, drop, Option, Some, None, Ok, Err}
use Rattle.std.specs.Prelude as Rust
use Rattle.refusals.specs.Results.{Result, value, refused}
use Rattle.hagerzhang_rules.specs.declared.Options.{Options}
use Rattle.hagerzhang_rules.specs.Parameters.{default_options}
use Rattle.fields.specs.declared.Heading.{Heading}
use Rattle.fields.specs.Fields.{head_of, body_of, end_of}
use Rattle.jobs.specs.declared.Job.{Job}
use Rattle.fields.specs.declared.Malformed.{Malformed}
use Rattle.jobs.specs.Format.{options_of, decoded}

-- the bytes begin with a field of this tag, whose body has n bytes
abbrev pub is_the_field : ℕ → ℕ → Option Heading → Bool
is_the_field tag n (Some h) = eqb h.tag tag && eqb h.size n
is_the_field tag n None = false

unfoldable pub stands : ℕ → ℕ → List ℕ → Bool
stands tag n s = is_the_field tag n (head_of s)

-- its body, and what is behind it
unfoldable pub found : ℕ → ℕ → List ℕ → Option (List ℕ)
found tag n s = cond (stands tag n s) (Some (body_of s)) None

unfoldable pub behind : ℕ → ℕ → List ℕ → List ℕ
behind tag n s = cond (stands tag n s) (drop (end_of s) s) s

-- 9: "the job is malformed", where something is left, or the curve is missing; d are the defaults
abbrev pub job_by : Options → List ℕ → Result Job
job_by d s1 =
    let s2 = behind 1 1 s1 in
    let s3 = behind 2 16 s2 in
    let s4 = behind 3 8 s3 in
    let s5 = behind 4 8 s4 in
    let s6 = behind 5 2 s5 in
    cond (eqb (length (behind 6 2 s6)) 0)
    (decoded (found 1 1 s1) (options_of d (found 2 16 s2) (found 3 8 s3) (found 4 8 s4) (found 5 2 s5) (found 6 2 s6)))
    (refused 9)

abbrev pub job_of : List ℕ → Result Job
job_of s = job_by default_options s

-- what each case of the answer tells
abbrev pub read_told : Rust.Result Job Malformed → Result Job
read_told (Ok j) = value j
read_told (Err e) = refused 9

-- what `read`'s contract says of a result r, for any bytes
abbrev pub ReadSaid : List ℕ → Rust.Result Job Malformed → Type 0
ReadSaid bytes r = read_told r ≡ job_of bytes
