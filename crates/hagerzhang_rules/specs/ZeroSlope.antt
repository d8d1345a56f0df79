-- 02, request 4, "Zero slope at an end": what it changes, and that it changes nothing else. 01's S2 to S4 stand here
-- only, and no contract cites them. All else of the former search is specs/Rules.antt. Sums: specs/EndSums.antt.
-- Proved: `zero-slope` (proofs/ZeroSlope.antt).
use Rattle.std.specs.Prelude.{◌≡◌, true, false, cond, List, ◌∷◌, ◌++◌, ◌⊎◌, Float, Option, None, Some}
use Rattle.std.proofs.Common.{inl, inr}
use Rattle.std.specs.Float.Ieee.{is_nan}
use Rattle.std.specs.Float.Ieee.Scale.{finite}
use Rattle.floats.specs.Arithmetic.{1ᶠ}
use Rattle.runs.specs.Outcomes.{refusal, asks, ends}
use Rattle.runs.specs.Asking.{end, Rest, Reply, respond, shown, reported, awaits, outcomes, after}
use Rattle.hagerzhang_rules.specs.declared.Point.{Point}
use Rattle.hagerzhang_rules.specs.declared.Bracket.{Bracket}
use Rattle.hagerzhang_rules.specs.declared.Setup.{Setup}
use Rattle.hagerzhang_rules.specs.Rules.{secant_of, is_near, when, or_else, equal_steps, Giving, S2, S3, S4, update}
use Rattle.hagerzhang_rules.specs.Rules.{Report, nothing_yet, hager_zhang_by, hager_zhang}
use Rattle.hagerzhang_rules.specs.Brackets.{Ordered}
use Rattle.hagerzhang_rules.specs.Iterations.{Alone, Plays}

-- ---- the former text

-- "S2: if |c.x - Z.x| < EPS, e = secant(b, Z)."
abbrev pub former_s2 : Giving
former_s2 w cx u = when (is_near cx u.b.x) (secant_of w.b u.b)

-- "S3: if |c.x - A.x| < EPS, e = secant(a, A), overwriting S2's."
abbrev pub former_s3 : Giving
former_s3 w cx u = when (is_near cx u.a.x) (secant_of w.a u.a)

abbrev pub former_s4 : Giving
former_s4 w cx u = or_else (former_s3 w cx u) (former_s2 w cx u)

abbrev pub formerly : Setup → Rest Report
formerly s = hager_zhang_by s former_s4

-- ---- what it changes, at any numbers: w is (a, b), cx is c.x, and u is (A, Z)
pub record Changes (w : Bracket) (cx : Float) (u : Bracket) : Type 0 where
  -- "S2 gives no e when b and Z have equal steps", and else what it gave
  pub S2-silent : equal_steps w.b u.b ≡ true → S2 w cx u ≡ None
  pub S2-stays : equal_steps w.b u.b ≡ false → S2 w cx u ≡ former_s2 w cx u
  -- "and S3 none when a and A have"
  pub S3-silent : equal_steps w.a u.a ≡ true → S3 w cx u ≡ None
  pub S3-stays : equal_steps w.a u.a ≡ false → S3 w cx u ≡ former_s3 w cx u
  -- "overwriting S2's". "An earlier e then stays."
  pub overwrites : (e : Float) → S3 w cx u ≡ Some e → S4 w cx u ≡ Some e
  pub earlier-stays : S3 w cx u ≡ None → S4 w cx u ≡ S2 w cx u

-- ---- of one update: u is what an update of w comes to

pub record GivesNan (e : Option Float) : Type 0 where
  pub step : Float
  pub given : e ≡ Some step
  pub not-a-number : is_nan step ≡ true

pub record OfUpdate (w u : Bracket) : Type 0 where
  -- an end has its former end's step only where it is that end, bit for bit
  pub low_same : equal_steps w.a u.a ≡ true → u.a ≡ w.a
  pub high_same : equal_steps w.b u.b ≡ true → u.b ≡ w.b
  -- and it never has the other former end's, where that bracket is in order
  pub low-not-high : Ordered w → equal_steps w.b u.a ≡ false
  pub high-not-low : Ordered w → equal_steps w.a u.b ≡ false
  -- so at equal steps the former e was a NaN
  pub S2-was-nan : equal_steps w.b u.b ≡ true → is_nan (secant_of w.b u.b) ≡ true
  pub S3-was-nan : equal_steps w.a u.a ≡ true → is_nan (secant_of w.a u.a) ≡ true
  -- and S4 gives what the former one gave, or that was a NaN
  pub S4-was-nan : (cx : Float) → (S4 w cx u ≡ former_s4 w cx u) ⊎ GivesNan (former_s4 w cx u)

abbrev pub update_alone : Setup → Bracket → Point → Alone Bracket
update_alone s w c = update s inl nothing_yet w c (λ v. end (inr v))

-- ---- of a whole search

-- the former S4, with something else in place of an e that is not finite, which refusal 5 meets
abbrev pub unless_five : Option Float → Option Float → Option Float
unless_five None instead = None
unless_five (Some x) instead = cond (finite x) (Some x) instead

abbrev pub former_but : Giving → Giving
former_but instead w cx u = unless_five (former_s4 w cx u) (instead w cx u)

-- the former search with 1 in that place, so that it asks 1 where the former one is refused at S4's step. All else of
-- the two is one text
abbrev pub marked : Setup → Rest Report
marked s = hager_zhang_by s (former_but (λ w cx u. Some 1ᶠ))

-- two searches tell, report and await the same at these answers
pub record Alike (r r' : Rest Report) (ys : List Reply) : Type 0 where
  pub tells : outcomes r ys ≡ outcomes r' ys
  pub reports : reported (after r ys) ≡ reported (after r' ys)
  pub expects : awaits (after r ys) ≡ awaits (after r' ys)

-- "ended by refusal 5 at S4's step": the former search is, at the answer y, and up to there both go alike
pub record Parts (now former mark : Rest Report) (ys : List Reply) : Type 0 where
  pub before : List Reply
  pub y : Reply
  pub later : List Reply
  pub split : ys ≡ before ++ y ∷ later
  pub alike : Alike now former before
  pub refused : shown (respond (after former before) y.0 y.1) ≡ ends (refusal 5)
  pub at-S4 : shown (respond (after mark before) y.0 y.1) ≡ asks 1ᶠ

pub record ZeroSlope : Type 0 where
  pub changes : (w : Bracket) (cx : Float) (u : Bracket) → Changes w cx u
  pub of-update : (s : Setup) (w : Bracket) (c : Point) (asked : List Point) (u : Bracket)
      → Plays (update_alone s w c) asked (end (inr u)) → OfUpdate w u
  -- the search is the former one, but for what S4 gives in place of an e that is not finite
  pub same_text : (s : Setup) → hager_zhang s ≡ hager_zhang_by s (former_but S4)
  -- so at any answers it goes as the former one does, unless that one is ended by refusal 5 at S4's step
  pub served-as-before : (s : Setup) (ys : List Reply)
      → Alike (hager_zhang s) (formerly s) ys ⊎ Parts (hager_zhang s) (formerly s) (marked s) ys
