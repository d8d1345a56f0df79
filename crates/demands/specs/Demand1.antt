-- Demand 1: "Any input gets an answer. Non-finite numbers, bad parameters, a spent U3 budget, a stalled U3 and calls
-- after the end are refused by number. Document 01 fixes each refusal, the state after it and any lent buffer." Every
-- public function is total by its contract; here is what each refuses, of vectors at which index, and what a refusal
-- leaves.
use Rattle.std.specs.Prelude.{ℕ, ◌≡◌, true, false, cond, not, ◌&&◌, List, [], ◌∷◌, eqb, length, Float, Some, None, Ok}
use Rattle.std.specs.Prelude as Rust
use Rattle.std.specs.Float.Ieee.Scale.{finite}
use Rattle.floats.specs.Arithmetic.{◌<ᶠ◌}
use Rattle.refusals.specs.Results.{value, refused, Row}
use Rattle.runs.specs.Outcomes.{Ending, refusal, Why, numbered, Told, asks, ends, told}
use Rattle.runs.specs.Asking.{Reply}
use Rattle.runs.specs.Counters.{one_more}
use Rattle.refusals.specs.Refusals.{by_number, given, TableBy, Table, refused_by}
use Rattle.refusals.specs.declared.Refusal.{Refusal}
use Rattle.runs.specs.Outcomes.{refusal_in}
use Rattle.vectors.specs.declared.Refusal as Vectors
use Rattle.vectors.specs.Faults.{Fault, number_in}
use Rattle.vectors.specs.Vectors.{dot_rows, point_rows}
use Rattle.vectors.specs.Told.{dot_told, DotSaid, point_told, PointSaid}
use Rattle.vectors.specs.Positions.{DotAt, OneCondition, PointAt}
use Rattle.conditions.specs.declared.Condition.{Condition}
use Rattle.conditions.specs.Conditions.{condition_rows}
use Rattle.conditions.specs.Told.{CheckedSaid}
use Rattle.curves.specs.declared.Curve.{Curve}
use Rattle.curves.specs.Curves.{value_of, slope_of, curve_rows}
use Rattle.curves.specs.Told.{NumberedSaid}
use Rattle.hagerzhang_rules.specs.declared.Point.{Point}
use Rattle.hagerzhang_rules.specs.declared.Way.TheVariants.{Growing}
use Rattle.hagerzhang_rules.specs.declared.Came.TheVariants.{On}
use Rattle.hagerzhang_rules.specs.declared.Options.{Options}
use Rattle.hagerzhang_rules.specs.declared.Setup.{Setup}
use Rattle.hagerzhang_rules.specs.Parameters.{setup_of, start_rows}
use Rattle.hagerzhang_rules.specs.Rules.{answer_finite, middle_of, longer_of, Report, nothing_yet}
use Rattle.hagerzhang_rules.specs.Iterations.{standing, had, AskedBecause, EndedBecause}
use Rattle.fields.specs.Fields.{Field}
use Rattle.jobs.specs.declared.Job.{Job}
use Rattle.jobs.specs.Format.{WellFormed, means_of}
use Rattle.fields.specs.declared.Malformed.{Malformed}
use Rattle.jobs.specs.Reader.{read_told, ReadSaid}
use Rattle.jobs.specs.Opening.{Opened, job_rows, opened_told, BeginSaid}
use Rattle.hagerzhang.specs.Machine.{Turn, Started}
use Rattle.hagerzhang.specs.declared.state.Search.{Search}
use Rattle.hagerzhang.specs.Machine.{StartSaid, AnswerSaid}
use Rattle.hagerzhang.specs.Meaning.{report, is_over, OfTheStep}
use Rattle.demands.specs.Runs.{Gave, reached_by, told_after, and_then, points_asked}

-- ---- an answer to any state, made by hand or not

-- "8 before all"; then 2: "a supplied number is NaN or infinite"
abbrev pub early_rows : Search → Float → Float → List Row
early_rows s f g = (8, is_over s.stage) ∷ (2, not (answer_finite f g)) ∷ []

pub record Answered (s : Search) (f g : Float) (r : Turn) : Type 0 where
  -- 8 and 2, exactly when; where neither holds, none, or one of the step that would be next
  pub early : (n : ℕ) → given (early_rows s f g) ≡ Some n → refusal_in (told r.outcome) ≡ Some n
  pub otherwise : given (early_rows s f g) ≡ None → OfTheStep (refusal_in (told r.outcome))
  -- 8: "state unchanged"
  pub unchanged : is_over s.stage ≡ true → r.search ≡ s
  -- 2, 5, 6, 7, 11: "search over"; a stop and the limit end it too, and nothing else does
  pub over : (e : Ending ℕ) → told r.outcome ≡ ends e → is_over r.search.stage ≡ true
  pub goes_on : (x : Float) → told r.outcome ≡ asks x → is_over r.search.stage ≡ false
  -- 2 keeps what was held
  pub keeps : is_over s.stage ≡ false → answer_finite f g ≡ false → report r.search ≡ report s
  -- "Evaluations count every finite answer accepted, those of a refused iteration too."
  pub counts : r.search.evaluations.0
      ≡ cond (is_over s.stage) s.evaluations.0
      (cond (answer_finite f g) (one_more s.evaluations.0) s.evaluations.0)

-- ---- an answer to a search that `start` gave: why it is refused, and what is asked

-- an ending comes for a reason that is true: of what is held, which is from before the start or the iteration under
-- way, and of the points that were asked in it
pub record Reason (s : Setup) (held : Report) (asked : List Point) (e : Ending ℕ) : Type 0 where
  pub reason : Ending Why
  pub told-as : numbered reason ≡ e
  pub true_of : EndedBecause s held asked reason

-- what U3 tells, in the start or an iteration, when it stands between h and k and has had n answers: 6, then 5, then 7,
-- or its next step
abbrev pub told_in_u3 : Setup → ℕ → Point → Float → Told
told_in_u3 s n h k =
    let d = middle_of s.options.params.theta h k in
    cond (eqb n s.options.budget) (ends (refusal 6))
    (cond (finite d) (cond (h.x <ᶠ d && d <ᶠ k) (asks d) (ends (refusal 7))) (ends (refusal 5)))

-- what a start that grows tells when its trial t was too short and n were asked before: "11, before 5, if K growths are
-- used up", or the next step
abbrev pub told_too_short : ℕ → ℕ → Point → Told
told_too_short K n t =
    cond (eqb n K) (ends (refusal 11))
    (cond (finite (longer_of t)) (asks (longer_of t))
    (ends (refusal 5)))

module _ (o : Options) (f0 s0 : Float) (t : Turn) where
  abbrev s : Setup
  s = setup_of o f0 s0

  abbrev b : Search
  b = t.search

  pub record RefusedRightly : Type 0 where
    -- 2, 5, 6, 7 and 11, a stop and the limit: where one more answer ends the search
    pub ended : (ys : List Reply) (y : Reply) (e : Ending ℕ) → told_after b ys y ≡ ends e
        → Reason s (report (reached_by b (and_then ys y))) (points_asked b (and_then ys y)) e
    -- 6, 5 and 7 in U3, both ways and in this order: what is told where a finite answer leaves the search in U3, in the
    -- start or an iteration
    pub in-U3 : (ys : List Reply) (y : Reply) → is_over (reached_by b ys).stage ≡ false
        → answer_finite y.0 y.1 ≡ true
        → (h : Point) (k : Float)
        → standing s (report (reached_by b (and_then ys y))) (points_asked b (and_then ys y)) ≡ Some (On h k)
        → told_after b ys y
        ≡ told_in_u3 s (had s (report (reached_by b (and_then ys y))) (points_asked b (and_then ys y))) h k
    -- 11 and 5 of a start that grows, both ways and in this order: where a finite answer leaves it growing
    pub in-growth : (K : ℕ) → o.way ≡ Growing K → (ys : List Reply) (y : Reply)
        → is_over (reached_by b ys).stage ≡ false
        → answer_finite y.0 y.1 ≡ true
        → report (reached_by b (and_then ys y)) ≡ nothing_yet
        → (d : Point) (asked : List Point) → points_asked b (and_then ys y) ≡ d ∷ asked
        → standing s nothing_yet (d ∷ asked) ≡ None
        → told_after b ys y ≡ told_too_short K (length asked) d
    -- every step that is asked, the first too, is finite, and comes for its reason; in U3 it is strictly between its
    -- ends
    pub asks-first : (x : Float) → told t.outcome ≡ asks x → AskedBecause s nothing_yet [] x
    pub asks-finite : (ys : List Reply) (y : Reply) (x : Float) → told_after b ys y ≡ asks x → finite x ≡ true
    pub asks-rightly : (ys : List Reply) (y : Reply) (x : Float) → told_after b ys y ≡ asks x
        → AskedBecause s (report (reached_by b (and_then ys y))) (points_asked b (and_then ys y)) x

-- ---- every function that can refuse, but backtracking's (specs/Backtracking.antt): any result of its contract

pub record Demand1 : Type 0 where
  -- 1, 2, 4, of a dot and of a point; their rows give the number and the index
  pub dot : (a b : List Float) (r : Rust.Result Float Vectors.Refusal) → DotSaid a b r
      → TableBy number_in (refused_by (dot_told r)) (dot_rows a b)
  pub point : (x0 : List Float) (alpha : Float) (d held : List Float) (r : Rust.Result Unit Vectors.Refusal)
      (now : List Float)
      → PointSaid x0 alpha d held r now
      → TableBy number_in (refused_by (point_told r now)) (point_rows x0 alpha d (length held))
  -- 02, request 1: the index is that of "the first element at fault"
  pub dot_at : (a b : List Float) (r : Rust.Result Float Vectors.Refusal) → DotSaid a b r → DotAt a b (dot_told r)
  pub point_at : (x0 : List Float) (alpha : Float) (d held : List Float) (r : Rust.Result Unit Vectors.Refusal)
      (now : List Float)
      → PointSaid x0 alpha d held r now → PointAt x0 alpha d (point_told r now)
  -- "a dot .. comes out not finite", and some partial sum does: one condition
  pub one-condition : (ps : List Float) → OneCondition ps
  -- "buffers untouched"
  pub buffer : (x0 : List Float) (alpha : Float) (d held : List Float) (r : Rust.Result Unit Vectors.Refusal)
      (now : List Float) (k : Fault)
      → PointSaid x0 alpha d held r now → point_told r now ≡ refused k → now ≡ held
  -- 2 and 3 of a condition
  pub condition : (C : Condition) (r : Rust.Result Condition Refusal) → CheckedSaid C r
      → Table (refused_by (by_number r)) (condition_rows C)
  -- a condition that is not refused is handed on as it came
  pub condition-kept : (C D : Condition) → CheckedSaid C (Ok D) → D ≡ C
  -- 3 of a curve's number
  pub curve : (n : ℕ) (r : Rust.Result Curve Refusal) → NumberedSaid n r
      → Table (refused_by (by_number r)) (curve_rows n)
  -- 2, 3, 10, 4 of a start, with no search
  pub start : (o : Options) (f0 s0 : Float) (r : Started) → StartSaid o f0 s0 r
      → Table (refused_by (by_number r)) (start_rows o f0 s0)
  -- 9, by the format: bytes that hold a job are read as it, and bytes that hold none are refused
  pub job_read : (bytes : List ℕ) (r : Rust.Result Job Malformed) → ReadSaid bytes r
      → (fs : List Field) (j : Job) → WellFormed 0 fs bytes
      → means_of fs ≡ value j → read_told r ≡ value j
  pub no-job : (bytes : List ℕ) (r : Rust.Result Job Malformed) → ReadSaid bytes r
      → ((fs : List Field) (j : Job) → WellFormed 0 fs bytes → means_of fs ≡ value j → ⊥) → read_told r ≡ refused 9
  -- 9, then 2, 3, 4, over the whole job, with no search
  pub no-job-begun : (bytes : List ℕ) (r : Opened) → BeginSaid bytes r
      → ((fs : List Field) (j : Job) → WellFormed 0 fs bytes → means_of fs ≡ value j → ⊥) → opened_told r ≡ refused 9
  pub job : (bytes : List ℕ) (r : Opened) → BeginSaid bytes r → (fs : List Field) (j : Job) → WellFormed 0 fs bytes
      → means_of fs ≡ value j → Table (refused_by (opened_told r)) (job_rows j)
  -- 8 and 2, of any state; "If an answer from the curve is not finite, refusal 2 applies."
  pub answer : (s : Search) (f g : Float) (r : Turn) → AnswerSaid s f g r → Answered s f g r
  pub curve-answer : (s : Search) (c : Curve) (x : Float) (r : Turn) → AnswerSaid s (value_of c x) (slope_of c x) r
      → is_over s.stage ≡ false → answer_finite (value_of c x) (slope_of c x) ≡ false
      → refusal_in (told r.outcome) ≡ Some 2
  -- 2, 5, 6, 7, 11, of any search that `start` gave
  pub search-given : (o : Options) (f0 s0 : Float) (t : Turn) → Gave o f0 s0 t → RefusedRightly o f0 s0 t
