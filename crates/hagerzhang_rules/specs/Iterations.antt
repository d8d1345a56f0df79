-- Demand 3's words, with request 14's, over the rules of specs/Rules.antt: what was asked in the start or an iteration,
-- when it is finished and what it leaves; where U3 stands; and why a step is asked, or a search is over.
use Rattle.std.specs.Prelude.{ℕ, suc, ◌+◌, ◌*◌, ◌≤◌, ◌<◌, ◌≡◌, Bool, true, false, ◌&&◌, List, [], ◌∷◌, ◌⊎◌, length}
use Rattle.std.specs.Prelude.{Float, Option, Some, None}
use Rattle.std.proofs.Common.{inl, inr}
use Rattle.std.specs.Float.{binary64}
use Rattle.std.specs.Float.Ieee.{fits}
use Rattle.std.specs.Float.Ieee.Scale.{finite}
use Rattle.floats.specs.Arithmetic.{◌<ᶠ◌, ◌≤ᶠ◌, 0ᶠ}
use Rattle.runs.specs.Outcomes.{Ending, stop, limit, refusal, Why, answer_not_finite, step_not_finite, budget_spent}
use Rattle.runs.specs.Outcomes.{step_not_between, growths_spent, already_over, verdict_word}
use Rattle.runs.specs.declared.Verdict.{Verdict}
use Rattle.runs.specs.Asking.{Run, ask, end}
use Rattle.hagerzhang_rules.specs.declared.Point.{Point}
use Rattle.hagerzhang_rules.specs.declared.Bracket.{Bracket}
use Rattle.hagerzhang_rules.specs.declared.Bounds.{Bounds}
use Rattle.hagerzhang_rules.specs.declared.Way.{Way}
use Rattle.hagerzhang_rules.specs.declared.Way.TheVariants.{Bounded, Growing}
use Rattle.hagerzhang_rules.specs.declared.Options.{Options}
use Rattle.hagerzhang_rules.specs.declared.Setup.{Setup}
use Rattle.hagerzhang_rules.specs.declared.Came.{Came}
use Rattle.hagerzhang_rules.specs.declared.Came.TheVariants.{To, On}
use Rattle.hagerzhang_rules.specs.Brackets.{premise, Ordered, Within}
use Rattle.hagerzhang_rules.specs.Closing.{Closes, Widths, Exactly}
use Rattle.hagerzhang_rules.specs.Rules.{point, answer_finite, update_of, middle_of, narrowed_of, zero_of, grown_of}
use Rattle.hagerzhang_rules.specs.Rules.{longer_of, judge_of, iteration, starting, Summary, Report, nothing_yet, last}

-- how far a search is by its report: at 0 in its start, then 1 more than its finished iterations
abbrev pub progress : Report → ℕ
progress nothing_yet = 0
progress (last p) = suc p.iterations

-- ---- the start or an iteration by itself: it comes to a refusal, or to what it was for

abbrev pub Alone : Type 0 → Type 0
Alone R = Run Report (Why ⊎ R)

-- an iteration: "A and Z the bracket just before L2" (02, request 14), and the new bracket
pub record Iterated : Type 0 where
  pub before-L2 : Bracket
  pub new : Bracket

abbrev pub leaves : Bracket → Bracket → Alone Iterated
leaves u v = end (inr (record { before-L2 = u; new = v }))

abbrev pub alone : Setup → Report → Bracket → Alone Iterated
alone s k w = iteration s inl k w leaves

-- the start: the first bracket
abbrev pub start_alone : Setup → Alone Bracket
start_alone s = starting s inl nothing_yet s.options.way (λ c w. end (inr w))

-- the points are asked of a run one after the other, newest first, and with their answers it comes to this
pub data Plays {R : Type 0} (r : Alone R) : List Point → Alone R → Type 0 where
  not_yet : Plays r [] r
  then-asked : {asked : List Point} {k : Report} {x : Float} {then : Float → Float → Alone R}
      → Plays r asked (ask k x then) → (f g : Float) → Plays r (point x f g ∷ asked) (then f g)

-- p is one of these points
pub data OneOf (p : Point) : List Point → Type 0 where
  here : {ps : List Point} → OneOf p (p ∷ ps)
  there : {q : Point} {ps : List Point} → OneOf p ps → OneOf p (q ∷ ps)

-- "a former end or a step asked in that iteration with its answer"
pub data Came-from (w : Bracket) (asked : List Point) (p : Point) : Type 0 where
  former-low : p ≡ w.a → Came-from w asked p
  former-high : p ≡ w.b → Came-from w asked p
  asked-now : OneOf p asked → Came-from w asked p

-- "an iteration takes at most 3+3B answers"
abbrev pub most_in_iteration : Options → ℕ
most_in_iteration o = 3 + 3 * o.budget

-- 02, request 3: "The three start answers are replaced by at most 1+K+B"
abbrev pub most_by : Way → ℕ → ℕ
most_by (Bounded e) B = 3
most_by (Growing K) B = 1 + K + B

abbrev pub most_in_start : Options → ℕ
most_in_start o = most_by o.way o.budget

-- the largest number of answers that any search can take: at B = 1,000, N = 10,000 and K = 400
abbrev pub most_ever : Way → ℕ
most_ever (Bounded e) = 30030003
most_ever (Growing K) = 30031401

-- an end of the bracket of a start that grows: "step 0 with f0 and s0", or a step asked in the start with its answer
pub data Started-from (s : Setup) (asked : List Point) (p : Point) : Type 0 where
  at_zero : p ≡ zero_of s → Started-from s asked p
  asked-then : OneOf p asked → Started-from s asked p

-- what a start that grows comes to. 02, request 3: "demand 3's premise then holds without being assumed whenever this
-- start succeeds"
pub record Grew (s : Setup) (asked : List Point) (u : Bracket) : Type 0 where
  pub premise_holds : premise s.level u.a u.b ≡ true
  pub low-from : Started-from s asked u.a
  pub high-from : OneOf u.b asked

-- what a finished start leaves
pub record Opens (s : Setup) (asked : List Point) (q : Summary) : Type 0 where
  -- its answers, and no others, lead the start to the first bracket
  pub whole : Plays (start_alone s) asked (end (inr q.bracket))
  pub none-finished : q.iterations ≡ 0
  pub ordered : Ordered q.bracket
  pub few : length asked ≤ most_in_start s.options
  pub grew : (K : ℕ) → s.options.way ≡ Growing K → Grew s asked q.bracket

-- what a finished iteration leaves
pub record Whole (s : Setup) (p : Summary) (asked : List Point) (q : Summary) : Type 0 where
  -- 02, request 14: (A, Z), "the bracket just before L2"
  pub before-L2 : Bracket
  -- its answers, and no others, lead the rules' iteration on the former bracket to it, and then to the new bracket
  pub whole : Plays (alone s (last p) p.bracket) asked (leaves before-L2 q.bracket)
  -- "the bracket meets the same three": where the former one does
  pub stays : premise s.level p.bracket.a p.bracket.b ≡ true
      → premise s.level q.bracket.a q.bracket.b ≡ true
  -- "low step < high step, and it lies within the former bracket": whatever the slopes are
  pub ordered : Ordered q.bracket
  pub narrows : Within p.bracket q.bracket
  -- "Each end is, bit for bit, a former end or a step asked in that iteration with its answer."
  pub low-from : Came-from p.bracket asked q.bracket.a
  pub high-from : Came-from p.bracket asked q.bracket.b
  -- its answers are few
  pub few : length asked ≤ most_in_iteration s.options
  -- (A, Z) lies within the former bracket too, its ends are in order, and no step is below 0
  pub before-narrows : Within p.bracket before-L2
  pub before-ordered : Ordered before-L2
  pub before-from-zero : 0ᶠ ≤ᶠ before-L2.a.x ≡ true
  -- 02, request 14: how fast the bracket closes, whatever the slopes are
  pub closes : Closes s.options.params.gamma p.bracket before-L2 q.bracket
  pub widths : Widths s.options.params.gamma p.bracket before-L2 q.bracket
  -- and exactly, where A.x and Z.x are f64s, as whatever a program holds is
  pub exactly : fits binary64 before-L2.a.x ≡ true → fits binary64 before-L2.b.x ≡ true
      → Exactly s.options.params.gamma p.bracket before-L2 q.bracket

-- what one answer brings: the report as it was; the first, with the start; or an iteration finished, and counted
pub data Brings (s : Setup) (asked : List Point) : Report → Report → Type 0 where
  as_before : {k : Report} → Brings s asked k k
  first : {q : Summary} → Opens s asked q → Brings s asked nothing_yet (last q)
  finished-one : {p q : Summary} → q.iterations ≡ p.iterations + 1 → Whole s p asked q
      → Brings s asked (last p) (last q)

-- ---- where the start, or an iteration on the reported bracket, stands once these points are asked: at a bracket, or
-- in U3 with its ends; a start that has come to neither stands at `None`

-- "the last earlier trial (or 0)"
abbrev pub earlier_of : Setup → List Point → Point
earlier_of s [] = zero_of s
earlier_of s (t ∷ asked) = t

-- one more answer d of the start; 01's three never stand in U3, and the third finishes the start
abbrev pub tried : Setup → Way → Point → Point → Option Came
tried s (Bounded e) earlier d = None
tried s (Growing K) earlier d = grown_of s.level (zero_of s) earlier d

-- one more answer d; a start that has come to a bracket is finished, and never goes on from it
abbrev pub led : Setup → Option Came → Report → Point → Point → Option Came
led s (Some (To u)) k earlier d = update_of s.level u d
led s (Some (On h k')) k earlier d = Some (narrowed_of s.level h k' d)
led s None nothing_yet earlier d = tried s s.options.way earlier d
led s None (last p) earlier d = None

abbrev pub first-standing : Report → Option Came
first-standing nothing_yet = None
first-standing (last p) = Some (To p.bracket)

unfoldable pub standing : Setup → Report → List Point → Option Came
standing s k [] = first-standing k
standing s k (d ∷ asked) = led s (standing s k asked) k (earlier_of s asked) d

-- how many answers the U3 run has had
abbrev pub had_by : Option Came → ℕ → ℕ
had_by None n = 0
had_by (Some (To u)) n = 0
had_by (Some (On h k)) n = suc n

unfoldable pub had : Setup → Report → List Point → ℕ
had s k [] = 0
had s k (d ∷ asked) = had_by (standing s k asked) (had s k asked)

-- U3 stands between h and k', and its next step is d
pub record InU3 (s : Setup) (k : Report) (asked : List Point) (h : Point) (k' d : Float) : Type 0 where
  pub stands : standing s k asked ≡ Some (On h k')
  pub answered : had s k asked < s.options.budget
  pub steps-to : d ≡ middle_of s.options.params.theta h k'

-- ---- why a step x is asked where k is reported, in the start or in the iteration that began there, which has asked
-- these points: it is finite; the rules' start or iteration alone asks it there; in a start that grows it is the start
-- step, or 5 times the last; and in U3 it is strictly between the ends

pub data AskedBecause (s : Setup) : Report → List Point → Float → Type 0 where
  of-bounds : {e : Bounds} {asked : List Point} {x : Float} {then : Float → Float → Alone Bracket}
      → s.options.way ≡ Bounded e
      → Plays (start_alone s) asked (ask nothing_yet x then)
      → finite x ≡ true
      → AskedBecause s nothing_yet asked x
  as_first : {K : ℕ} → s.options.way ≡ Growing K → finite s.options.params.start ≡ true
      → AskedBecause s nothing_yet [] s.options.params.start
  as-longer : {K : ℕ} {t : Point} {asked : List Point} → s.options.way ≡ Growing K
      → standing s nothing_yet (t ∷ asked) ≡ None → length asked < K → finite (longer_of t) ≡ true
      → AskedBecause s nothing_yet (t ∷ asked) (longer_of t)
  as-trial : {p : Summary} {asked : List Point} {x : Float} {u : Bracket} {then : Float → Float → Alone Iterated}
      → standing s (last p) asked ≡ Some (To u)
      → Plays (alone s (last p) p.bracket) asked (ask (last p) x then)
      → finite x ≡ true
      → AskedBecause s (last p) asked x
  inside : {k : Report} {asked : List Point} {x : Float} {h : Point} {k' : Float} → InU3 s k asked h k' x
      → finite x ≡ true
      → (h.x <ᶠ x && x <ᶠ k') ≡ true
      → AskedBecause s k asked x

-- ---- why a search ended that keeps this report and has asked these points since

pub data EndedBecause (s : Setup) : Report → List Point → Ending Why → Type 0 where
  -- "a stop with its verdict and step": of the best
  by-verdict : {p : Summary} {v : Verdict} → judge_of s p.best ≡ Some v
      → EndedBecause s (last p) [] (stop (verdict_word v) p.best.x)
  -- ""limit", with bracket and best of the N-th iteration"
  by-limit : {p : Summary} → judge_of s p.best ≡ None → p.iterations ≡ s.options.limit
      → EndedBecause s (last p) [] (limit p.best.x)
  -- 2: the last answer
  not_finite : {k : Report} {d : Point} {asked : List Point}
      → answer_finite d.f d.g ≡ false → EndedBecause s k (d ∷ asked) (refusal (answer_not_finite d.f d.g))
  -- 5: of a trial, which is the rules' own there, of a start that grows, and in U3
  trial-not-finite : {p : Summary} {asked : List Point} {u : Bracket} {x : Float}
      → standing s (last p) asked ≡ Some (To u)
      → Plays (alone s (last p) p.bracket) asked (end (inl (step_not_finite x)))
      → finite x ≡ false
      → EndedBecause s (last p) asked (refusal (step_not_finite x))
  growth-not-finite : {K : ℕ} {t : Point} {asked : List Point} → s.options.way ≡ Growing K
      → answer_finite t.f t.g ≡ true
      → standing s nothing_yet (t ∷ asked) ≡ None → length asked < K → finite (longer_of t) ≡ false
      → EndedBecause s nothing_yet (t ∷ asked) (refusal (step_not_finite (longer_of t)))
  U3-not-finite : {k : Report} {asked : List Point} {h : Point} {k' x : Float}
      → InU3 s k asked h k' x → finite x ≡ false → EndedBecause s k asked (refusal (step_not_finite x))
  -- 6: "one U3 run has had B answers and the last did not end it"
  budget-spent : {k : Report} {asked : List Point} {h : Point} {k' : Float}
      → standing s k asked ≡ Some (On h k') → had s k asked ≡ s.options.budget
      → EndedBecause s k asked (refusal (budget_spent h.x k'))
  -- 7: "U3's next step is not strictly between its two ends"
  not-between : {k : Report} {asked : List Point} {h : Point} {k' x : Float}
      → InU3 s k asked h k' x → finite x ≡ true → (h.x <ᶠ x && x <ᶠ k') ≡ false
      → EndedBecause s k asked (refusal (step_not_between h.x k' x))
  -- 11 (02, request 3): "if K growths are used up": after the first trial and K longer ones none was enough
  growths-spent : {K : ℕ} {t : Point} {asked : List Point} → s.options.way ≡ Growing K
      → answer_finite t.f t.g ≡ true
      → standing s nothing_yet (t ∷ asked) ≡ None → length asked ≡ K
      → EndedBecause s nothing_yet (t ∷ asked) (refusal (growths_spent t.x))
  -- 8
  already : {k : Report} {asked : List Point} → EndedBecause s k asked (refusal already_over)

-- ---- every number that is reported is finite

abbrev pub point_finite : Point → Bool
point_finite p = finite p.x && finite p.f && finite p.g

abbrev pub report_finite : Report → Bool
report_finite nothing_yet = true
report_finite (last p) = point_finite p.bracket.a && point_finite p.bracket.b && point_finite p.best

-- ---- of a start that grows: f0 and the start step are f64s, as whatever is handed to `start` is

abbrev pub f64s_by : Way → Float → Float → Type 0
f64s_by (Bounded e) start f0 = Unit
f64s_by (Growing K) start f0 = (fits binary64 start ≡ true) × (fits binary64 f0 ≡ true)

abbrev pub F64s : Options → Float → Type 0
F64s o f0 = f64s_by o.way o.params.start f0
