-- 02, request 2: "The default becomes 64. Jobs without tag 2 relied on the old number. Our stored jobs get a field 2
-- written with the old bounds". What the old defaults were, and which fields a stored job then has.
use Rattle.std.specs.Prelude.{ℕ, Bool, true, false, cond, List, [], ◌∷◌, ◌++◌, eqb, ltb}
use Rattle.std.specs.Float.{binary64}
use Rattle.std.specs.Float.Ieee.{of_bits}
use Rattle.refusals.specs.Results.{Result, value, refused}
use Rattle.fields.specs.Fields.{Field, written}
use Rattle.hagerzhang_rules.specs.declared.Options.{Options}
use Rattle.hagerzhang_rules.specs.declared.Way.TheVariants.{Bounded}
use Rattle.hagerzhang_rules.specs.Parameters.{bounds, default_options, options_with}
use Rattle.jobs.specs.declared.Job.{Job}

-- the defaults as 01 has them: "Bounds 2^-52 and 1e5", and the others as they still are
abbrev pub old_defaults : Options
old_defaults =
    let q = default_options.params in
    let way = Bounded (bounds (of_bits binary64 0x3cb0_0000_0000_0000) (of_bits binary64 0x40f8_6a00_0000_0000)) in
    options_with default_options q.epsilon way q.start default_options.budget default_options.limit

-- "a field 2 written with the old bounds": the eight bytes of 2^-52, then those of 1e5
abbrev pub old_bounds : Field
old_bounds = record {
  tag = 2;
  body =
      0x3c ∷ 0xb0 ∷ 0 ∷ 0 ∷ 0 ∷ 0 ∷ 0 ∷ 0 ∷ 0x40 ∷ 0xf8 ∷ 0x6a ∷ 0 ∷ 0 ∷ 0 ∷ 0 ∷ 0 ∷ [];
}

-- for fields whose tags ascend: these, with that field at its place where there is no field 2
unfoldable pub with_bounds : List Field → List Field
with_bounds [] = old_bounds ∷ []
with_bounds (f ∷ fs) =
    cond (ltb f.tag 2) (f ∷ with_bounds fs) (cond (eqb f.tag 2) (f ∷ fs) (old_bounds ∷ f ∷ fs))

-- the bytes of fields
abbrev pub bytes_of : List Field → List ℕ
bytes_of [] = []
bytes_of (f ∷ fs) = written f ++ bytes_of fs

-- whether what was read is a job
abbrev pub is_job : Result Job → Bool
is_job (value j) = true
is_job (refused n) = false
