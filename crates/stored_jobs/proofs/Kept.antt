-- What `with_bounds` writes, for any bytes. A job comes out as its fields with the old bounds at their place
-- (`job-kept`), so a job with bounds as it is (`bounds-stay`); and so does whatever is no job (`no-job-stays`). What
-- comes out says with the new defaults what the bytes said with the old ones (`kept-says`), and is a job exactly where
-- they are (`kept-is-job`). Written a second time it stays (`kept-once`). More than 55 bytes stay as they are
-- (`long-stays`), and what comes of at most 56 has no more (`fits`). Assumes nothing.
use mathlib.Core.Path.{◌≡◌, refl, sym, ap, ap₂, ◌∙◌, subst}
use mathlib.Core.Bool.{Bool, true, false, not, false≢true}
use mathlib.Core.List.{List, [], ◌∷◌, ◌++◌, append_assoc}
use Rattle.std.specs.Prelude.{Some, None}
use Prim.Native.Nat.{ℕ, ◌≤◌, ◌<◌}
use native.Mathlib.Omega.{arith}
use lib.Dec.{eqb}
use lib.ListN.{length, take, drop}
use borrow.Author.Tests.{eqb-true, eqb-false, lt-ltb, le-ltb}
use Rattle.floats.proofs.Branches.{and_first}
use Rattle.refusals.specs.Results.{Result, value, refused}
use Rattle.refusals.proofs.Refusals.{refused-not-value}
use Rattle.hagerzhang_rules.specs.declared.Options.{Options}
use Rattle.hagerzhang_rules.specs.Parameters.{default_options}
use Rattle.wire.specs.Wire.{byte_at}
use Rattle.fields.specs.Fields.{Field, written}
use Rattle.jobs.specs.declared.Job.{Job}
use Rattle.jobs.specs.Format.{size_of, WellFormed, nothing, field, body_under, decoded, means_of}
use Rattle.jobs.specs.Reader.{stands, job_by, job_of}
use Rattle.jobs.proofs.Parts.{within}
use Rattle.jobs.proofs.InOrder.{not_found, no-curve}
use Rattle.jobs.proofs.BothWays as jobs
use Rattle.stored_jobs.specs.OldBounds.{old_defaults, old_bounds, with_bounds, bytes_of, is_job}
use Rattle.stored_jobs.specs.Kept.{relies, kept_of}
use Rattle.stored_jobs.proofs.Fields.{bytes-of, Placed, placed, says}

-- ---- by the places of the bytes: a curve's field f, whose body is one byte, and what is behind it

module _ (f : Field) (b : ℕ) (one : f.body ≡ b ∷ []) (rest : List ℕ) (job : is_job (job_of (written f ++ rest)) ≡ true)
  where
    next-byte : byte_at (written f ++ rest) 4 ≡ byte_at rest 0
    next-byte = rw one

    front : take 4 (written f ++ rest) ≡ written f
    front = rw one

    back : drop 4 (written f ++ rest) ≡ rest
    back = rw one

    gets-bounds : eqb (byte_at rest 0) 2 ≡ false
        → kept_of (written f ++ rest) ≡ written f ++ (written old_bounds ++ rest)
    unfolding kept_of relies
    gets-bounds far =
        rw (job, next-byte, far)
        (ap₂ (λ (p q : List ℕ). p ++ written old_bounds ++ q) front back
        ∙ append_assoc (written f) (written old_bounds) rest)

    has-bounds : eqb (byte_at rest 0) 2 ≡ true → kept_of (written f ++ rest) ≡ written f ++ rest
    unfolding kept_of relies
    has-bounds here = rw (job, next-byte, here)

module _ (f : Field) (b : ℕ) (one : f.body ≡ b ∷ []) where
  behind-curve : {fs : List Field} {rest : List ℕ} → WellFormed 1 fs rest → is_job (job_of (written f ++ rest)) ≡ true
      → kept_of (written f ++ rest) ≡ written f ++ bytes_of (with_bounds fs)
  unfolding with_bounds
  behind-curve nothing job = gets-bounds f b one [] job refl
  behind-curve (field {f = g} {fs = gs} {s = rest} above size more) job = by-tag (eqb g.tag 2) refl
    where
      same : written g ++ rest ≡ bytes_of (g ∷ gs)
      same = ap (λ (l : List ℕ). written g ++ l) (bytes-of more)

      by-tag : (e : Bool) → eqb g.tag 2 ≡ e
          → kept_of (written f ++ (written g ++ rest)) ≡ written f ++ bytes_of (with_bounds (g ∷ gs))
      by-tag true e =
          rw (le-ltb g.tag 2 above, e)
          (has-bounds f b one (written g ++ rest) job e ∙ ap (λ (l : List ℕ). written f ++ l) same)
      by-tag false e =
          rw (le-ltb g.tag 2 above, e)
          (gets-bounds f b one (written g ++ rest) job e
          ∙ ap (λ (l : List ℕ). written f ++ (written old_bounds ++ l)) same)

-- ---- a job begins with its curve's field

pub four_bytes : (s : List ℕ) → relies s ≡ true → 4 ≤ length s
unfolding relies
four_bytes s h = by-curve (stands 1 1 s) refl
  where
    by-curve : (b : Bool) → stands 1 1 s ≡ b → 4 ≤ length s
    by-curve true e = within s 0 1 1 e
    by-curve false e =
        let none = ap is_job (no-curve s (not_found 1 1 s e)) in
        absurd (false≢true (none ∙ and_first (is_job (job_of s)) (not (eqb (byte_at s 4) 2)) h))

single : (l : List ℕ) → length l ≡ 1 → l ≡ byte_at l 0 ∷ []
single [] h = absurd (omega arith)
single (x ∷ []) h = refl
single (x ∷ y ∷ l) h = absurd (omega arith)

without-curve : (o : Options) (j : Job) → decoded None o ≡ value j → ⊥
unfolding decoded
without-curve o j e = refused-not-value 9 j e

pub job-kept : (s : List ℕ) (fs : List Field) (j : Job) → WellFormed 0 fs s → means_of fs ≡ value j
    → kept_of s ≡ bytes_of (with_bounds fs)
unfolding size_of body_under with_bounds
job-kept s fs j nothing means = absurd (without-curve _ j means)
job-kept s fs j (field {f = f} {fs = gs} {s = rest} above size more) means = by-tag (eqb f.tag 1) refl
  where
    by-tag : (e : Bool) → eqb f.tag 1 ≡ e → kept_of (written f ++ rest) ≡ bytes_of (with_bounds (f ∷ gs))
    by-tag true e =
        let curve : f.tag ≡ 1 = eqb-true f.tag 1 e in
        let one = single f.body (jobs.same_size f.tag 1 1 (length f.body) curve size refl) in
        let low : f.tag < 2 = omega arith in
        let read = jobs.job_read (written f ++ rest) (f ∷ gs) j (field above size more) means in
        rw (lt-ltb f.tag 2 low)
        (behind-curve f (byte_at f.body 0) one (subst (λ (i : ℕ). WellFormed i gs rest) curve more) (ap is_job read))
    by-tag false e =
        let other = eqb-false f.tag 1 e in
        let low : 1 ≤ f.tag = omega arith in
        absurd (without-curve _ j (rw (e, jobs.absent more 1 low) at means))

-- ---- whatever is no job

pub no-job-stays : (s : List ℕ) → job_of s ≡ refused 9 → kept_of s ≡ s
unfolding kept_of relies
no-job-stays s h = rw (ap is_job h)

-- ---- what is known of any bytes: they are a job, and hold its fields, or none
data Known (s : List ℕ) : Type 0 where
  a-job : (j : Job) → job_of s ≡ value j → jobs.Encodes s j → Known s
  no-job : job_of s ≡ refused 9 → Known s

known : (s : List ℕ) → Known s
known s = by-reading (job_of s) refl
  where
    by-reading : (r : Result Job) → job_of s ≡ r → Known s
    by-reading (value j) e = a-job j e (jobs.read-is-format s j e)
    by-reading (refused n) e =
        let never : (j : Job) → jobs.Encodes s j → ⊥ =
        λ j q. refused-not-value n j (sym e ∙ jobs.job_read s q.fields j q.holds q.means) in
        no-job (jobs.refused-otherwise s never)

-- a job with bounds stays
pub bounds-stay : (s : List ℕ) (fs : List Field) (body : List ℕ) → WellFormed 0 fs s → body_under 2 fs ≡ Some body
    → kept_of s ≡ s
bounds-stay s fs body holds has = by-known (known s)
  where
    same : bytes_of (with_bounds fs) ≡ s
    same = ap bytes_of ((placed holds (omega arith)).unmoved body has) ∙ sym (bytes-of holds)

    by-known : Known s → kept_of s ≡ s
    by-known (a-job j e q) = job-kept s fs j holds (sym (jobs.format-is-read default_options fs s holds) ∙ e) ∙ same
    by-known (no-job h) = no-job-stays s h

-- ---- what comes out

module _ (s : List ℕ) (j : Job) (q : jobs.Encodes s j) where
  its-fields : Placed 0 q.fields
  its-fields = placed q.holds (omega arith)

  kept-holds : WellFormed 0 (with_bounds q.fields) (kept_of s)
  kept-holds = rw (job-kept s q.fields j q.holds q.means) its-fields.holds

  job-says : job_of (kept_of s) ≡ job_by old_defaults s
  job-says =
      jobs.format-is-read default_options (with_bounds q.fields) (kept_of s) kept-holds
      ∙ says 0 q.fields its-fields
      ∙ sym (jobs.format-is-read old_defaults q.fields s q.holds)

-- it says with the new defaults what the bytes said with the old ones
pub kept-says : (s : List ℕ) → job_of (kept_of s) ≡ job_by old_defaults s
kept-says s = by-known (known s)
  where
    by-known : Known s → job_of (kept_of s) ≡ job_by old_defaults s
    by-known (a-job j e q) = job-says s j q
    by-known (no-job h) = ap job_of (no-job-stays s h) ∙ h ∙ sym (jobs.no-job-by-any default_options old_defaults s h)

-- what comes of a job is a job
still-a-job : (s : List ℕ) (j : Job) → job_of s ≡ value j → job_of (kept_of s) ≡ refused 9 → ⊥
still-a-job s j e h =
    let none_before = jobs.no-job-by-any old_defaults default_options s (sym (kept-says s) ∙ h) in
    refused-not-value 9 j (sym none_before ∙ e)

-- it is a job exactly where they are
pub kept-is-job : (s : List ℕ) → is_job (job_of (kept_of s)) ≡ is_job (job_of s)
kept-is-job s = by-known (known s) (known (kept_of s))
  where
    by-known : Known s → Known (kept_of s) → is_job (job_of (kept_of s)) ≡ is_job (job_of s)
    by-known (no-job h) k = ap (λ (l : List ℕ). is_job (job_of l)) (no-job-stays s h)
    by-known (a-job j e q) (a-job i d p) = ap is_job d ∙ sym (ap is_job e)
    by-known (a-job j e q) (no-job h) = absurd (still-a-job s j e h)

-- a second time it stays
pub kept-once : (s : List ℕ) → kept_of (kept_of s) ≡ kept_of s
kept-once s = by-known (known s)
  where
    by-known : Known s → kept_of (kept_of s) ≡ kept_of s
    by-known (a-job j e q) = bounds-stay (kept_of s) _ _ (kept-holds s j q) (its-fields s j q).bounds
    by-known (no-job h) = ap kept_of (no-job-stays s h)

-- ---- in pieces

-- more than 55 bytes are no job
pub long-stays : (s : List ℕ) → 55 < length s → kept_of s ≡ s
long-stays s long = by-known (known s)
  where
    by-known : Known s → kept_of s ≡ s
    by-known (a-job j e q) = let l = jobs.longest s j e in absurd (omega arith)
    by-known (no-job h) = no-job-stays s h

-- what comes of at most 56 bytes has no more
pub fits : (s : List ℕ) → length s ≤ 56 → length (kept_of s) ≤ 56
fits s short = by-known (known s) (known (kept_of s))
  where
    by-known : Known s → Known (kept_of s) → length (kept_of s) ≤ 56
    by-known (no-job h) k = rw (no-job-stays s h) short
    by-known (a-job j e q) (a-job i d p) = let l = jobs.longest (kept_of s) i d in omega arith
    by-known (a-job j e q) (no-job h) = absurd (still-a-job s j e h)
