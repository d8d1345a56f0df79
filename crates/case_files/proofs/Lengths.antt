-- What a field that is not malformed may have: a body of at most 8,190 bytes, and lengths of at most 511. Assumes
-- nothing.
use mathlib.Core.Path.{◌≡◌, refl}
use mathlib.Core.Bool.{Bool, true, false, cond, ◌&&◌}
use mathlib.Core.List.{List}
use Prim.Native.Nat.{ℕ, ◌<◌}
use native.Mathlib.Omega.{arith}
use borrow.Author.Tests.{leb-false}
use lib.Dec.{eqb}
use lib.ListN.{length}
use Rattle.std.proofs.lemmas.Grind.{common_steps}
use Rattle.floats.proofs.Branches.{by_cases, by-cases₂}
use Rattle.std.specs.Prelude.{Option, Some, None, Result, Ok, IfOk, ◌≢◌}
use Rattle.fields.specs.declared.Heading.{Heading}
use Rattle.fields.specs.Fields.{head_of, body_of}
use Rattle.fields.specs.declared.Malformed.{Malformed}
use Rattle.case_files.specs.declared.Tag.{Tag}
use Rattle.case_files.specs.declared.Tag.TheVariants as kind
use Rattle.case_files.specs.declared.Field.{Field}
use Rattle.case_files.specs.declared.Field.TheVariants.{StartWhole, StartHagerZhang, StartBacktracking, Answer}
use Rattle.case_files.specs.CaseFiles.{malformed, code_of, dot_field, point_field, tagged_field, may_have}
use Rattle.case_files.specs.CaseFiles.{read_by, read_of, Short}

-- ---- "Each length in 34 and 35 is at most 511."

dot_short : (size n m : ℕ) → IfOk (dot_field size n m) Short
unfolding dot_field
dot_short size n m = grind (arith, common_steps)

point_short : (size n m k : ℕ) → IfOk (point_field size n m k) Short
unfolding point_field
point_short size n m k = grind (arith, common_steps)

short_if : (b : Bool) (f : Field) → Short f → IfOk (cond b (Ok f) malformed) Short
short_if true f s = s
short_if false f s = tt

pub field_short : (tag : ℕ) (body : List ℕ) (searching : Bool) → IfOk (tagged_field tag body searching) Short
unfolding tagged_field
field_short tag body searching =
    let P : Result Field Malformed → Type 0 = λ r. IfOk r Short in
    by_cases P (eqb tag 16) (λ e. short_if _ StartWhole tt)
    (λ e. by_cases P (eqb tag 17) (λ e. short_if _ Answer tt)
    (λ e. by_cases P (eqb tag 32) (λ e. short_if _ StartHagerZhang tt)
    (λ e. by_cases P (eqb tag 33) (λ e. short_if _ StartBacktracking tt)
    (λ e. by_cases P (eqb tag 34) (λ e. dot_short _ _ _)
    (λ e. by_cases P (eqb tag 35) (λ e. point_short _ _ _ _) (λ e. tt))))))

by-head : (h : Option Heading) (body : List ℕ) (searching : Bool) → IfOk (read_by h body searching) Short
by-head (Some h) body searching = field_short h.tag body searching
by-head None body searching = tt

pub read_short : (s : List ℕ) (searching : Bool) → IfOk (read_of s searching) Short
read_short s searching = by-head (head_of s) (body_of s) searching

-- ---- a body of a size that its tag may not have is malformed: in 34 and 35 one of more than 8,190 bytes

dot_long : (size n m : ℕ) → 8190 < size → dot_field size n m ≡ malformed
unfolding dot_field
dot_long size n m h = grind (arith, common_steps)

point_long : (size n m k : ℕ) → 8190 < size → point_field size n m k ≡ malformed
unfolding point_field
point_long size n m k h = grind (arith, common_steps)

not-both : (a b : Bool) → b ≡ false → (a && b) ≡ false
not-both true b h = h
not-both false b h = refl

abbrev RuledOut : Result Field Malformed → Bool → Type 0
RuledOut r may = may ≡ false → r ≡ malformed

pub ruled_out : (tag : ℕ) (body : List ℕ) (searching : Bool)
    → RuledOut (tagged_field tag body searching) (may_have tag (length body))
unfolding tagged_field may_have
ruled_out tag body searching =
    let size = length body in
    by-cases₂ RuledOut (eqb tag 16) (λ e h. rw h)
    (λ e. by-cases₂ RuledOut (eqb tag 17) (λ e h. rw (not-both searching (eqb size 16) h))
    (λ e. by-cases₂ RuledOut (eqb tag 32) (λ e h. rw h)
    (λ e. by-cases₂ RuledOut (eqb tag 33) (λ e h. rw h)
    (λ e. by-cases₂ RuledOut (eqb tag 34)
    (λ e h. dot_long size _ _ (leb-false _ _ h))
    (λ e. by-cases₂ RuledOut (eqb tag 35)
    (λ e h. point_long size _ _ _ (leb-false _ _ h)) (λ e h. refl))))))

-- ---- so is a body whose tag stands for no kind

module _ (tag : ℕ) (none : (t : Tag) → code_of t ≢ tag) where
  others : (16 ≢ tag) × (17 ≢ tag) × (32 ≢ tag) × (33 ≢ tag) × (34 ≢ tag) × (35 ≢ tag)
  others = (
    none kind.StartWhole,
    none kind.Answer,
    none kind.StartHagerZhang,
    none kind.StartBacktracking,
    none kind.Dot,
    none kind.Point,
  )

  pub tagged_field_of_none : (body : List ℕ) (searching : Bool) → tagged_field tag body searching ≡ malformed
  unfolding tagged_field
  tagged_field_of_none body searching =
      let (a, b, c, d, e, f) = others in grind (arith, common_steps)

  pub may_have_of_none : (size : ℕ) → may_have tag size ≡ false
  unfolding may_have
  may_have_of_none size =
      let (a, b, c, d, e, f) = others in grind (arith, common_steps)
