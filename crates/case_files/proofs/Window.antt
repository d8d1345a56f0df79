-- The bytes that are there decide on a field as the whole input does: where the field is whole (`whole-decides`), and
-- where its head alone rules it out (`head-decides`). Assumes nothing.
use mathlib.Core.Path.{◌≡◌, refl, ap, ◌∙◌}
use mathlib.Core.Bool.{Bool, false}
use mathlib.Core.List.{List, [], ◌∷◌, ◌++◌}
use Prim.Native.Nat.{ℕ}
use lib.Dec.{leb}
use lib.ListN.{length}
use Rattle.floats.proofs.Branches.{by_cases}
use Rattle.wire.specs.Wire.{pair_of}
use Rattle.std.specs.Prelude.{Option}
use Rattle.fields.specs.declared.Heading.{Heading}
use Rattle.fields.specs.Fields.{head_with, head_of, body_of}
use Rattle.fields.proofs.Heads.{head-front, body-front, body-length}
use Rattle.case_files.specs.CaseFiles.{malformed, may_have, read_by, read_of}
use Rattle.case_files.proofs.Lengths.{ruled_out}

pub whole-decides : (s t : List ℕ) (searching : Bool) (tag n : ℕ) → head_of s ≡ head_with tag n
    → read_of (s ++ t) searching ≡ read_of s searching
whole-decides s t searching tag n e = rw (body-front s tag n e t, head-front s tag n e t, e)

pub head-decides : (tag high low : ℕ) (rest : List ℕ) (searching : Bool)
    → may_have tag (pair_of (high ∷ low ∷ [])) ≡ false → read_of (tag ∷ high ∷ low ∷ rest) searching ≡ malformed
unfolding head_of
head-decides tag high low rest searching ruled =
    let s = tag ∷ high ∷ low ∷ rest in
    let n = pair_of (high ∷ low ∷ []) in
    by_cases (λ (h : Option Heading). read_by h (body_of s) searching ≡ malformed) (leb n (length rest))
    (λ whole. ruled_out tag (body_of s) searching (ap (may_have tag) (body-length s tag n (rw whole)) ∙ ruled))
    (λ cut. refl)
