-- Fields in a job's form with the old bounds at their place are in that form too, and say with the new defaults what
-- was said with the old ones; fields that have bounds stay as they are. One walk through the fields shows all of it
-- (`placed`). Assumes nothing.
use mathlib.Core.Path.{◌≡◌, refl, ap}
use mathlib.Core.Bool.{Bool, true, false}
use mathlib.Core.List.{List, [], ◌∷◌, ◌++◌}
use Rattle.std.specs.Prelude.{Option, Some, None}
use Rattle.std.proofs.lemmas.Option.{none-some}
use Prim.Native.Nat.{ℕ, ◌<◌}
use native.Mathlib.Omega.{arith}
use lib.Dec.{eqb, ltb}
use lib.ListN.{length}
use borrow.Author.Tests.{ne_eqb, eqb-false, ltb-true, ltb-false}
use Rattle.fields.specs.Fields.{Field, written}
use Rattle.hagerzhang_rules.specs.Parameters.{default_options}
use Rattle.jobs.specs.Format.{size_of, WellFormed, nothing, field, body_under, said, options_of, means_by, means_of}
use Rattle.jobs.proofs.BothWays.{absent}
use Rattle.stored_jobs.specs.OldBounds.{old_defaults, old_bounds, with_bounds, bytes_of}

-- bytes in a job's form are those of its fields
pub bytes-of : {t : ℕ} {fs : List Field} {s : List ℕ} → WellFormed t fs s → s ≡ bytes_of fs
bytes-of nothing = refl
bytes-of (field {f = f} above size more) = ap (λ (l : List ℕ). written f ++ l) (bytes-of more)

-- the body of the tag 2, or the old bounds where there is none
abbrev bounds_in : List Field → List ℕ
bounds_in fs = said (λ body. body) (body_under 2 fs) old_bounds.body

pub record Placed (t : ℕ) (fs : List Field) : Type 0 where
  pub holds : WellFormed t (with_bounds fs) (bytes_of (with_bounds fs))
  pub bounds : body_under 2 (with_bounds fs) ≡ Some (bounds_in fs)
  pub others : (k : ℕ) → eqb 2 k ≡ false → body_under k (with_bounds fs) ≡ body_under k fs
  pub unmoved : (body : List ℕ) → body_under 2 fs ≡ Some body → with_bounds fs ≡ fs

old-size : size_of 2 ≡ Some (length old_bounds.body)
unfolding size_of
old-size = refl

module _ (t : ℕ) (low : t < 2) where
  at-end : Placed t []
  unfolding with_bounds body_under
  at-end = record {
    holds = field low old-size nothing;
    bounds = refl;
    others = λ k far. rw far;
    unmoved = λ body has. absurd (none-some body has);
  }

  module _ (f : Field) (fs : List Field) (s : List ℕ) (above : t < f.tag)
      (size : size_of f.tag ≡ Some (length f.body)) (more : WellFormed f.tag fs s) where
    as-they-are : WellFormed f.tag fs (bytes_of fs)
    as-they-are = rw (← bytes-of more) more

    -- the place is further on
    lower : ltb f.tag 2 ≡ true → Placed f.tag fs → Placed t (f ∷ fs)
    unfolding with_bounds body_under
    lower l p =
        let below = ltb-true f.tag 2 l in
        let other : eqb f.tag 2 ≡ false = ne_eqb f.tag 2 (λ (e : f.tag ≡ 2). omega arith) in
        record {
          holds = rw l (field above size p.holds);
          bounds = rw (l, other) p.bounds;
          others = λ k far. rw (l, p.others k far);
          unmoved = λ body has. rw l (ap (λ (gs : List Field). f ∷ gs) (p.unmoved body (rw other at has)));
        }

    -- it is taken
    taken : ltb f.tag 2 ≡ false → eqb f.tag 2 ≡ true → Placed t (f ∷ fs)
    unfolding with_bounds body_under
    taken l e = record {
      holds = rw (l, e) (field above size as-they-are);
      bounds = rw (l, e, e);
      others = λ k far. rw (l, e);
      unmoved = λ body has. rw (l, e);
    }

    -- it is here
    free : ltb f.tag 2 ≡ false → eqb f.tag 2 ≡ false → Placed t (f ∷ fs)
    unfolding with_bounds body_under
    free l e =
        let at_least_lem = ltb-false f.tag 2 l in
        let not-two = eqb-false f.tag 2 e in
        let beyond : 2 < f.tag = omega arith in
        let missing = absent more 2 at_least_lem in
        record {
          holds = rw (l, e) (field low old-size (field beyond size as-they-are));
          bounds = rw (l, e, missing);
          others = λ k far. rw (l, e, far);
          unmoved = λ body has. absurd (none-some body (rw (e, missing) at has));
        }

    by-tag : (l e : Bool) → ltb f.tag 2 ≡ l → eqb f.tag 2 ≡ e → (f.tag < 2 → Placed f.tag fs)
        → Placed t (f ∷ fs)
    by-tag true e is-lower is next = lower is-lower (next (ltb-true f.tag 2 is-lower))
    by-tag false true is-lower is next = taken is-lower is
    by-tag false false is-lower is next = free is-lower is

pub placed : {t : ℕ} {fs : List Field} {s : List ℕ} → WellFormed t fs s → t < 2 → Placed t fs
placed {t} nothing low = at-end t low
placed {t} (field {f = f} {fs = fs} {s = s} above size more) low =
    by-tag t low f fs s above size more (ltb f.tag 2) (eqb f.tag 2) refl refl (λ l. placed more l)

-- ---- what is said with the new defaults is what was said with the old ones
module _ (start epsilon budget limit : Option (List ℕ)) where
  same-options : (bounds : Option (List ℕ))
      → options_of default_options (Some (said (λ body. body) bounds old_bounds.body)) start epsilon budget limit
      ≡ options_of old_defaults bounds start epsilon budget limit
  unfolding options_of
  same-options None = refl
  same-options (Some body) = refl

pub says : (t : ℕ) (fs : List Field) → Placed t fs → means_of (with_bounds fs) ≡ means_by old_defaults fs
says t fs p =
    rw (
      p.others 1 refl,
      p.bounds,
      p.others 3 refl,
      p.others 4 refl,
      p.others 5 refl,
      p.others 6 refl,
      same-options (body_under 3 fs) (body_under 4 fs) (body_under 5 fs) (body_under 6 fs) (body_under 2 fs),
    )
