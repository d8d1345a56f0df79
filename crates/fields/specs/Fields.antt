-- 01, "Sample curves and jobs": "tagged fields: one-byte tag, two-byte length, body, most significant byte first". The
-- fields of a case file are the same (docs/FORMATS.md).
use Rattle.std.specs.Prelude.{ℕ, ◌+◌, ◌/◌, ◌%◌, cond, List, [], ◌∷◌, leb, length, take, drop, Option, Some, None}
use Rattle.wire.specs.Wire.{pair_of}
use Rattle.fields.specs.declared.Heading.{Heading}

-- a field, and its bytes
pub record Field : Type 0 where
  pub tag : ℕ
  pub body : List ℕ

abbrev pub written : Field → List ℕ
written f = f.tag ∷ length f.body / 256 ∷ length f.body % 256 ∷ f.body

-- ---- the field with which bytes begin

-- what it has with this tag, and a whole body of n bytes
abbrev pub head_with : ℕ → ℕ → Option Heading
head_with tag n = Some (record { tag = tag; size = n })

-- its tag and the length of its body, where the body is whole; else it is cut
unfoldable pub head_of : List ℕ → Option Heading
head_of [] = None
head_of (tag ∷ []) = None
head_of (tag ∷ high ∷ []) = None
head_of (tag ∷ high ∷ low ∷ rest) =
    let n = pair_of (high ∷ low ∷ []) in
    cond (leb n (length rest)) (head_with tag n) None

-- its body; a field that is cut has none
abbrev pub body_by : Option Heading → List ℕ → List ℕ
body_by (Some h) s = take h.size (drop 3 s)
body_by None s = []

abbrev pub body_of : List ℕ → List ℕ
body_of s = body_by (head_of s) s

-- the place behind it; a field that is cut ends with the bytes
abbrev pub end_by : Option Heading → List ℕ → ℕ
end_by (Some h) s = 3 + h.size
end_by None s = length s

abbrev pub end_of : List ℕ → ℕ
end_of s = end_by (head_of s) s
