-- A field that stands at a place of the job, in the reader's terms. Assumes nothing.
use mathlib.Core.Path.{◌≡◌, ap₂}
use mathlib.Core.Bool.{true, false≢true}
use mathlib.Core.List.{List}
use Prim.Native.Nat.{ℕ, ◌+◌, ◌-◌, ◌≤◌}
use native.Mathlib.Omega.{arith}
use borrow.Author.Tests.{eqb-true}
use lib.Dec.{eqb}
use lib.ListN.{length, drop, length-drop}
use Rattle.std.specs.Prelude.{Option, Some, None}
use Rattle.floats.proofs.Branches.{and_first, and_second}
use Rattle.fields.specs.declared.Heading.{Heading}
use Rattle.fields.specs.Fields.{head_with, head_of}
use Rattle.fields.proofs.Heads as heads
use Rattle.jobs.specs.Reader.{is_the_field, stands}

is_field : (tag n : ℕ) (h : Option Heading) → is_the_field tag n h ≡ true → h ≡ head_with tag n
is_field tag n (Some h) e =
    let first = eqb-true h.tag tag (and_first (eqb h.tag tag) (eqb h.size n) e) in
    let second = eqb-true h.size n (and_second (eqb h.tag tag) (eqb h.size n) e) in
    ap₂ head_with first second
is_field tag n None e = absurd (false≢true e)

-- what the head of a field says that stands there
pub its-head : (tag n : ℕ) (s : List ℕ) → stands tag n s ≡ true → head_of s ≡ head_with tag n
unfolding stands
its-head tag n s h = is_field tag n (head_of s) h

-- a field that is there lies within the job
pub within : (s : List ℕ) (at tag n : ℕ) → stands tag n (drop at s) ≡ true → at + 3 + n ≤ length s
within s at tag n h =
    let l = heads.within (drop at s) tag n (its-head tag n (drop at s) h) in
    let e : length (drop at s) ≡ length s - at = length-drop at s in
    omega arith
