-- The fields of a case file, by docs/FORMATS.md, "A case file". `read_of` takes the bytes from where a field begins:
-- all that are left, or so many that they decide on it (proofs/Window.antt).
use Rattle.std.specs.Prelude.{ℕ, ◌≡◌, ◌≢◌, ◌+◌, ◌*◌, ◌≤◌, Bool, false, cond, ◌&&◌, List, leb, eqb, length, drop}
use Rattle.std.specs.Prelude.{Option, Some, None, Result, Ok, Err, MatchResult}
use Rattle.wire.specs.Wire.{byte_at, pair_of}
use Rattle.fields.specs.declared.Heading.{Heading}
use Rattle.fields.specs.declared.Malformed.{Malformed}
use Rattle.fields.specs.Fields.{head_of, body_of}
use Rattle.case_files.specs.declared.Tag.{Tag}
use Rattle.case_files.specs.declared.Tag.TheVariants as tag
use Rattle.case_files.specs.declared.Field.{Field}
use Rattle.case_files.specs.declared.Field.TheVariants.{
  StartWhole,
  StartHagerZhang,
  StartBacktracking,
  Answer,
  Dot,
  Point,
}

-- no field
abbrev pub malformed : {A : Type 0} → Result A Malformed
malformed = Err (record {})

-- the byte that stands for each kind
abbrev pub code_of : Tag → ℕ
code_of tag.StartWhole = 16
code_of tag.Answer = 17
code_of tag.StartHagerZhang = 32
code_of tag.StartBacktracking = 33
code_of tag.Dot = 34
code_of tag.Point = 35

-- the result is the kind that this byte stands for, or it stands for none
abbrev pub Decodes : ℕ → Result Tag Malformed → Type 0
Decodes code r = MatchResult r (λ t. code_of t ≡ code) (λ e. (t : Tag) → code_of t ≢ code)

-- "the way of starting in one byte, 0 three answers, 1 growing"
abbrev pub is_way : ℕ → Bool
is_way k = leb k 1

-- "the condition in one byte, 1 Armijo, 2 Goldstein, 3 Wolfe, 4 strong Wolfe"
abbrev pub is_condition : ℕ → Bool
is_condition k = leb 1 k && leb k 4

-- "The lengths in 34 and 35 are at most 511."
abbrev pub is_length : ℕ → Bool
is_length n = leb n 511

abbrev pub length_at : List ℕ → ℕ → Result ℕ Malformed
length_at body at = let n = pair_of (drop at body) in cond (is_length n) (Ok n) malformed

-- 34, dot: "n and m in two bytes each; n floats; m floats"
unfoldable pub dot_field : ℕ → ℕ → ℕ → Result Field Malformed
dot_field size n m = cond (is_length n && is_length m && eqb size (4 + 8 * (n + m))) (Ok (Dot n m)) malformed

-- 35, point: "the lengths n of x0, m of d and that of the buffer in two bytes each; alpha; x0; d"
unfoldable pub point_field : ℕ → ℕ → ℕ → ℕ → Result Field Malformed
point_field size n m k =
    cond (is_length n && is_length m && is_length k && eqb size (14 + 8 * (n + m))) (Ok (Point n m k)) malformed

-- a field by its tag and body; `searching`: an answer has a 16, 32 or 33 before it, and no 34 or 35 since
unfoldable pub tagged_field : ℕ → List ℕ → Bool → Result Field Malformed
tagged_field tag body searching =
    let size = length body in
    cond (eqb tag 16) (cond (eqb size 105 && is_way (byte_at body 96)) (Ok StartWhole) malformed)
    (cond (eqb tag 17) (cond (searching && eqb size 16) (Ok Answer) malformed)
    (cond (eqb tag 32) (cond (eqb size 96) (Ok StartHagerZhang) malformed)
    (cond (eqb tag 33) (cond (eqb size 53 && is_condition (byte_at body 0)) (Ok StartBacktracking) malformed)
    (cond (eqb tag 34) (dot_field size (pair_of body) (pair_of (drop 2 body)))
    (cond (eqb tag 35) (point_field size (pair_of body) (pair_of (drop 2 body)) (pair_of (drop 4 body))) malformed)))))

-- whether a field with this tag may have a body of this size; 34 and 35 have at most 14 + 8(511 + 511)
unfoldable pub may_have : ℕ → ℕ → Bool
may_have tag size =
    cond (eqb tag 16) (eqb size 105)
    (cond (eqb tag 17) (eqb size 16)
    (cond (eqb tag 32) (eqb size 96)
    (cond (eqb tag 33) (eqb size 53)
    (cond (eqb tag 34) (leb size 8190)
    (cond (eqb tag 35) (leb size 8190) false)))))

-- malformed, whatever its tag: "a field that the end of the input cuts"
abbrev pub read_by : Option Heading → List ℕ → Bool → Result Field Malformed
read_by (Some h) body searching = tagged_field h.tag body searching
read_by None body searching = malformed

abbrev pub read_of : List ℕ → Bool → Result Field Malformed
read_of s searching = read_by (head_of s) (body_of s) searching

-- "The lengths in 34 and 35 are at most 511", of a field that was read
abbrev pub Short : Field → Type 0
Short StartWhole = Unit
Short StartHagerZhang = Unit
Short StartBacktracking = Unit
Short Answer = Unit
Short (Dot n m) = (n ≤ 511) × (m ≤ 511)
Short (Point n m k) = (n ≤ 511) × (m ≤ 511) × (k ≤ 511)
