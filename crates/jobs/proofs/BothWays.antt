-- The reader reads 01's format, no less and no more. Bytes that hold fields in 01's form which say a job are read as it
-- (`job_read`); whatever is read as a job is such bytes (`read-is-format`); and any others are refused by 9
-- (`no-job-refused`). The defaults say what an absent field says, and not what a job is (`no-job-by-any`). The longest
-- job has 55 bytes (`longest`). Assumes nothing.
use mathlib.Core.Path.{◌≡◌, refl, sym, ap, ap₂, ◌∙◌, subst}
use mathlib.Core.Bool.{Bool, true, false, cond}
use mathlib.Core.List.{List, [], ◌∷◌, ◌++◌}
use Rattle.std.specs.Prelude.{Option, Some, None}
use Rattle.std.proofs.lemmas.Option.{none-some}
use Prim.Native.Nat.{ℕ, suc, ◌+◌, ◌≤◌, ◌<◌}
use native.Mathlib.Omega.{arith}
use lib.Dec.{eqb}
use lib.ListN.{length, drop, length-drop}
use borrow.Author.Tests.{eq-eqb, ne_eqb, eqb-true, eqb-false}
use Rattle.refusals.specs.Results.{Result, value, refused}
use Rattle.refusals.proofs.Refusals.{refused-not-value}
use Rattle.hagerzhang_rules.specs.declared.Options.{Options}
use Rattle.hagerzhang_rules.specs.Parameters.{default_options}
use Rattle.fields.specs.Fields.{Field, written, head_of, body_of, end_of}
use Rattle.fields.proofs.Heads.{end-there, body-length}
use Rattle.fields.proofs.BothWays.{head-written, body-written, rest-written, low_byte, written_back}
use Rattle.jobs.specs.declared.Job.{Job}
use Rattle.jobs.specs.Format.{size_of, WellFormed, nothing, field, body_under, options_of, decoded, means_by, means_of}
use Rattle.jobs.specs.Reader.{stands, found, behind, job_by, job_of}
use Rattle.jobs.proofs.Parts.{its-head}

-- ---- a written field is found, and no other

module _ (f : Field) (s : List ℕ) where
  stands-written : stands f.tag (length f.body) (written f ++ s) ≡ true
  unfolding stands
  stands-written =
      let n = length f.body in
      rw (head-written f s, eq-eqb f.tag f.tag refl, eq-eqb n n refl)

  found-written : found f.tag (length f.body) (written f ++ s) ≡ Some f.body
  unfolding found
  found-written = rw (stands-written, body-written f s)

  behind-written : behind f.tag (length f.body) (written f ++ s) ≡ s
  unfolding behind
  behind-written = rw (stands-written, rest-written f s)

  -- a field with another tag is not this one
  not-stands : (k n : ℕ) → eqb f.tag k ≡ false → stands k n (written f ++ s) ≡ false
  unfolding stands
  not-stands k n h = rw (head-written f s, h)

-- ---- fields with tags above t hold no body of a tag up to t
pub absent : {t : ℕ} {fs : List Field} {s : List ℕ} → WellFormed t fs s → (m : ℕ) → m ≤ t → body_under m fs ≡ None
unfolding body_under
absent nothing m h = refl
absent (field {f = f} above known more) m h =
    rw (ne_eqb f.tag m (λ (e : f.tag ≡ m). omega arith)) (absent more m (omega arith))

pub same_size : (m k n l : ℕ) → m ≡ k → size_of m ≡ Some l → size_of k ≡ Some n → l ≡ n
same_size m k n l e p q = cc

-- ---- one tag after the other: what the reader finds at the tag k is what the fields hold, and what is behind it holds
-- the others
record Passed (k n : ℕ) (fs : List Field) (s : List ℕ) : Type 0 where
  others : List Field
  holds : WellFormed k others (behind k n s)
  body : found k n s ≡ body_under k fs
  same : (m : ℕ) → k < m → body_under m others ≡ body_under m fs

record Left (t : ℕ) (all : List Field) (s : List ℕ) : Type 0 where
  fields : List Field
  holds : WellFormed t fields s
  same : (m : ℕ) → t < m → body_under m fields ≡ body_under m all

module _ (t k n : ℕ) (next : k ≡ suc t) (known : size_of k ≡ Some n) where
  at-end : Passed k n [] []
  unfolding behind found stands head_of body_under
  at-end = record { others = []; holds = nothing; body = refl; same = λ m h. refl }

  module _ (f : Field) (fs : List Field) (s : List ℕ) (above : t < f.tag)
      (size : size_of f.tag ≡ Some (length f.body)) (more : WellFormed f.tag fs s) where
    this-tag : eqb f.tag k ≡ true → Passed k n (f ∷ fs) (written f ++ s)
    unfolding body_under
    this-tag e =
        let p : f.tag ≡ k = eqb-true f.tag k e in
        let q : length f.body ≡ n = same_size f.tag k n (length f.body) p size known in
        let b : behind k n (written f ++ s) ≡ s =
        ap₂ (λ (i j : ℕ). behind i j (written f ++ s)) (sym p) (sym q) ∙ behind-written f s in
        let w : found k n (written f ++ s) ≡ Some f.body =
        ap₂ (λ (i j : ℕ). found i j (written f ++ s)) (sym p) (sym q) ∙ found-written f s in
        record {
          others = fs;
          holds = rw b (subst (λ (i : ℕ). WellFormed i fs s) p more);
          body = rw e w;
          same = λ m h. rw (ne_eqb f.tag m (λ (g : f.tag ≡ m). omega arith));
        }

    other_tag : eqb f.tag k ≡ false → Passed k n (f ∷ fs) (written f ++ s)
    unfolding behind found body_under
    other_tag e =
        let d = eqb-false f.tag k e in
        let b = not-stands f s k n e in
        let l : k < f.tag = omega arith in
        record {
          others = f ∷ fs;
          holds = rw b (field l size more);
          body = rw (b, e) (sym (absent more k (omega arith)));
          same = λ m h. refl;
        }

  passed : (fs : List Field) (s : List ℕ) → WellFormed t fs s → Passed k n fs s
  passed [] [] nothing = at-end
  passed [] (_ ∷ _) held = elim held [ ]
  passed (f ∷ fs) s (field {s = s'} above size more) = by-tag (eqb f.tag k) refl
    where
      by-tag : (b : Bool) → eqb f.tag k ≡ b → Passed k n (f ∷ fs) (written f ++ s')
      by-tag true e = this-tag f fs s' above size more e
      by-tag false e = other_tag f fs s' above size more e

  -- the same, for bytes that hold what is left of some fields
  step : (all : List Field) (s : List ℕ) → Left t all s → (found k n s ≡ body_under k all) × Left k all (behind k n s)
  step all s a =
      let p = passed a.fields s a.holds in (
        p.body ∙ a.same k (omega arith),
        record { fields = p.others; holds = p.holds; same = λ m l. p.same m l ∙ a.same m (omega arith) },
      )

-- there is no tag above 6
unknown : (tag n : ℕ) → 6 < tag → size_of tag ≡ Some n → ⊥
unfolding size_of
unknown tag n h e =
    let far : (k : ℕ) → k ≤ 6 → eqb tag k ≡ false = λ k l. ne_eqb tag k (λ (g : tag ≡ k). omega arith) in
    let z : None ≡ Some n = rw (
      far 1 (omega arith),
      far 2 (omega arith),
      far 3 (omega arith),
      far 4 (omega arith),
      far 5 (omega arith),
      far 6 (omega arith),
    ) at e in
    none-some n z

none_left : (fs : List Field) (s : List ℕ) → WellFormed 6 fs s → length s ≡ 0
none_left [] [] nothing = refl
none_left [] (_ ∷ _) held = elim held [ ]
none_left (f ∷ fs) s (field above size more) = absurd (unknown f.tag (length f.body) above size)

-- bytes that hold fields in 01's form are read as what these say, whatever the defaults are
pub format-is-read : (d : Options) (fs : List Field) (s : List ℕ) → WellFormed 0 fs s → job_by d s ≡ means_by d fs
unfolding size_of
format-is-read d fs s h =
    let p1 = step 0 1 1 refl refl fs s (record { fields = fs; holds = h; same = λ m l. refl }) in
    let p2 = step 1 2 16 refl refl fs _ p1.1 in
    let p3 = step 2 3 8 refl refl fs _ p2.1 in
    let p4 = step 3 4 8 refl refl fs _ p3.1 in
    let p5 = step 4 5 2 refl refl fs _ p4.1 in
    let p6 = step 5 6 2 refl refl fs _ p5.1 in
    rw (none_left p6.1.fields _ p6.1.holds, p1.0, p2.0, p3.0, p4.0, p5.0, p6.0)

-- ---- backwards: what is behind a tag holds fields, and so do the bytes before it
pub record Formed (t : ℕ) (s : List ℕ) : Type 0 where
  pub fields : List Field
  pub holds : WellFormed t fields s

weaker : {k : ℕ} {fs : List Field} {s : List ℕ} (t : ℕ) → t ≤ k → WellFormed k fs s → WellFormed t fs s
weaker t l nothing = nothing
weaker t l (field {t = k} {f = f} above size more) = let a : t < f.tag = omega arith in field a size more

back : (t k n : ℕ) → t < k → size_of k ≡ Some n → n < 256 → (s : List ℕ) → Formed k (behind k n s) → Formed t s
unfolding behind
back t k n above known small s m = by-test (stands k n s) refl
  where
    by-test : (b : Bool) → stands k n s ≡ b → Formed t s
    by-test true e =
        let h = its-head k n s e in
        let f : Field = record { tag = k; body = body_of s } in
        let size : size_of k ≡ Some (length (body_of s)) = known ∙ ap Some (sym (body-length s k n h)) in
        let rest : WellFormed k m.fields (drop (end_of s) s) = rw e at m.holds in
        let whole : WellFormed t (f ∷ m.fields) (written f ++ drop (end_of s) s) = field above size rest in
        record {
          fields = f ∷ m.fields;
          holds = subst (WellFormed t (f ∷ m.fields)) (sym (written_back s k n h (low_byte s k n h small))) whole;
        }
    by-test false e = record { fields = m.fields; holds = weaker t (omega arith) (rw e at m.holds) }

at-the-end : (s : List ℕ) → length s ≡ 0 → Formed 6 s
at-the-end [] h = record { fields = []; holds = nothing }
at-the-end (x ∷ s) h = absurd (omega arith)

-- what is left behind the last tag, and what was said
abbrev left : List ℕ → List ℕ
left s = behind 6 2 (behind 5 2 (behind 4 8 (behind 3 8 (behind 2 16 (behind 1 1 s)))))

abbrev whole : List ℕ → Result Job
whole s1 =
    let s2 = behind 1 1 s1 in
    let s3 = behind 2 16 s2 in
    let s4 = behind 3 8 s3 in
    let s5 = behind 4 8 s4 in
    let s6 = behind 5 2 s5 in
    decoded (found 1 1 s1)
    (options_of default_options (found 2 16 s2) (found 3 8 s3) (found 4 8 s4) (found 5 2 s5) (found 6 2 s6))

formed : (s : List ℕ) → length (left s) ≡ 0 → Formed 0 s
unfolding size_of
formed s h =
    back 0 1 1 (omega arith) refl (omega arith) s
    (back 1 2 16 (omega arith) refl (omega arith) _
    (back 2 3 8 (omega arith) refl (omega arith) _
    (back 3 4 8 (omega arith) refl (omega arith) _
    (back 4 5 2 (omega arith) refl (omega arith) _
    (back 5 6 2 (omega arith) refl (omega arith) _ (at-the-end (left s) h))))))

-- fields in 01's form that say the job j
pub record Encodes (s : List ℕ) (j : Job) : Type 0 where
  pub fields : List Field
  pub holds : WellFormed 0 fields s
  pub means : means_of fields ≡ value j

is_read : (b : Bool) (a : Result Job) (j : Job) → cond b a (refused 9) ≡ value j → b ≡ true
is_read true a j e = refl
is_read false a j e = absurd (refused-not-value 9 j e)

nothing_left : (s : List ℕ) (j : Job) → job_of s ≡ value j → length (left s) ≡ 0
nothing_left s j e = eqb-true (length (left s)) 0 (is_read (eqb (length (left s)) 0) (whole s) j e)

-- ---- 01's row 9, "the job is malformed", by the format: a job is what the fields say that the bytes hold

-- bytes that hold such fields are read as it
pub job_read : (s : List ℕ) (fs : List Field) (j : Job) → WellFormed 0 fs s → means_of fs ≡ value j → job_of s ≡ value j
job_read s fs j h means = format-is-read default_options fs s h ∙ means

-- whatever is read as a job is such bytes
pub read-is-format : (s : List ℕ) (j : Job) → job_of s ≡ value j → Encodes s j
read-is-format s j e =
    let f = formed s (nothing_left s j e) in
    let same = format-is-read default_options f.fields s f.holds in
    record { fields = f.fields; holds = f.holds; means = sym same ∙ e }

-- and any others are refused by 9
value-or-nine : (b : Bool) (body : Option (List ℕ)) (o : Options)
    → ((j : Job) → cond b (decoded body o) (refused 9) ≡ value j → ⊥) → cond b (decoded body o) (refused 9) ≡ refused 9
unfolding decoded
value-or-nine true (Some body) o never = absurd (never _ refl)
value-or-nine true None o never = refl
value-or-nine false body o never = refl

pub refused-otherwise : (s : List ℕ) → ((j : Job) → Encodes s j → ⊥) → job_of s ≡ refused 9
refused-otherwise s never =
    value-or-nine (eqb (length (left s)) 0) (found 1 1 s) _
    (λ (j : Job) (e : job_of s ≡ value j). never j (read-is-format s j e))

-- the same, of the fields themselves: "wrong length, unknown tag, cut field or missing tag 1 is refusal 9"
pub no-job-refused : (s : List ℕ) → ((fs : List Field) (j : Job) → WellFormed 0 fs s → means_of fs ≡ value j → ⊥)
    → job_of s ≡ refused 9
no-job-refused s never = refused-otherwise s (λ j e. never e.fields j e.holds e.means)

-- what is no job by some defaults is none by any
no-decoding : (b : Bool) (body : Option (List ℕ)) (o p : Options) → cond b (decoded body o) (refused 9) ≡ refused 9
    → cond b (decoded body p) (refused 9) ≡ refused 9
unfolding decoded
no-decoding true (Some body) o p e = absurd (refused-not-value 9 _ (sym e))
no-decoding true None o p e = refl
no-decoding false body o p e = refl

pub no-job-by-any : (d e : Options) (s : List ℕ) → job_by d s ≡ refused 9 → job_by e s ≡ refused 9
no-job-by-any d e s h = no-decoding (eqb (length (left s)) 0) (found 1 1 s) _ _ h

-- ---- "1 curve (1 byte, required), 2 bounds (16), 3 start step (8), 4 epsilon (8), 5 B (2), 6 N (2)", each behind
-- three bytes: at most 55
shortens : (k n : ℕ) (s : List ℕ) → length s ≤ 3 + n + length (behind k n s)
unfolding behind
shortens k n s = by-test (stands k n s) refl
  where
    by-test : (b : Bool) → stands k n s ≡ b → length s ≤ 3 + n + length (cond b (drop (end_of s) s) s)
    by-test true e = omega (arith, length-drop (end_of s) s, end-there s k n (its-head k n s e))
    by-test false e = omega arith

pub longest : (s : List ℕ) (j : Job) → job_of s ≡ value j → length s ≤ 55
longest s1 j e =
    let s2 = behind 1 1 s1 in
    let s3 = behind 2 16 s2 in
    let s4 = behind 3 8 s3 in
    let s5 = behind 4 8 s4 in
    let s6 = behind 5 2 s5 in
    omega (
      arith,
      nothing_left s1 j e,
      shortens 1 1 s1,
      shortens 2 16 s2,
      shortens 3 8 s3,
      shortens 4 8 s4,
      shortens 5 2 s5,
      shortens 6 2 s6,
    )
