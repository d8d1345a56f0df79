-- 01, "Sample curves and jobs": what a job is, and what it says. "A job is tagged fields": a `Field`, `written`, is
-- defined in fields/specs/Fields.antt.
use Rattle.std.specs.Prelude.{ℕ, ◌<◌, ◌≡◌, cond, List, [], ◌∷◌, ◌++◌, eqb, length, drop, Float, Option, Some, None}
use Rattle.refusals.specs.Results.{Result, value, refused}
use Rattle.wire.specs.Wire.{byte_at, pair_of, float_of}
use Rattle.fields.specs.Fields.{Field, written}
use Rattle.hagerzhang_rules.specs.declared.Way.{Way}
use Rattle.hagerzhang_rules.specs.declared.Way.TheVariants.{Bounded}
use Rattle.hagerzhang_rules.specs.declared.Options.{Options}
use Rattle.hagerzhang_rules.specs.Parameters.{bounds, default_options, options_with}
use Rattle.jobs.specs.declared.Job.{Job}

-- "Tags: 1 curve (1 byte, required), 2 bounds (16), 3 start step (8), 4 epsilon (8), 5 B (2), 6 N (2)": how long the
-- body of each is
unfoldable pub size_of : ℕ → Option ℕ
size_of tag =
    cond (eqb tag 1) (Some 1)
    (cond (eqb tag 2) (Some 16)
    (cond (eqb tag 3) (Some 8)
    (cond (eqb tag 4) (Some 8)
    (cond (eqb tag 5) (Some 2)
    (cond (eqb tag 6) (Some 2)
    None)))))

-- "Tags ascend strictly; wrong length, unknown tag, cut field .. is refusal 9": the bytes are these whole fields, with
-- tags above t
pub data WellFormed : ℕ → List Field → List ℕ → Type 0 where
  nothing : {t : ℕ} → WellFormed t [] []
  field : {t : ℕ} {f : Field} {fs : List Field} {s : List ℕ} → t < f.tag → size_of f.tag ≡ Some (length f.body)
      → WellFormed f.tag fs s → WellFormed t (f ∷ fs) (written f ++ s)

-- the body of the field with a tag, where there is one
unfoldable pub body_under : ℕ → List Field → Option (List ℕ)
body_under tag [] = None
body_under tag (f ∷ fs) = cond (eqb f.tag tag) (Some f.body) (body_under tag fs)

-- what a body says, or what stands in for it
abbrev pub said : {A : Type 0} → (List ℕ → A) → Option (List ℕ) → A → A
said says None other = other
said says (Some body) other = says body

-- the float that starts so many bytes into a body
abbrev pub float_in : ℕ → List ℕ → Float
float_in skip body = float_of (drop skip body)

-- the way of starting that the body of tag 2 says: 01's, with these bounds
abbrev pub way_in : List ℕ → Way
way_in body = Bounded (bounds (float_of body) (float_in 8 body))

-- what the bodies of the tags 2 to 6 say; what is absent is as in the defaults d
unfoldable pub options_of : Options → Option (List ℕ) → Option (List ℕ) → Option (List ℕ) → Option (List ℕ)
    → Option (List ℕ) → Options
options_of d ends start epsilon budget limit =
    let q = d.params in
    options_with d (said float_of epsilon q.epsilon) (said way_in ends d.way) (said float_of start q.start)
    (said pair_of budget d.budget) (said pair_of limit d.limit)

-- with tag 1: "missing tag 1 is refusal 9"
unfoldable pub decoded : Option (List ℕ) → Options → Result Job
decoded None options = refused 9
decoded (Some body) options = value (record { curve = byte_at body 0; options = options })

-- what fields say where d are the defaults
abbrev pub means_by : Options → List Field → Result Job
means_by d fs =
    decoded (body_under 1 fs)
    (options_of d (body_under 2 fs) (body_under 3 fs) (body_under 4 fs) (body_under 5 fs) (body_under 6 fs))

abbrev pub means_of : List Field → Result Job
means_of fs = means_by default_options fs
