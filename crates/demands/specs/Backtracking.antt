-- Demands 1 to 3 of backtracking: what an answer to any state refuses and leaves, and which programs its contract shuts
-- out; and, of a search that `start` gave, t, for every list of answers, that it is 01's, that it ends, and what it
-- counts.
use Rattle.std.specs.Prelude.{ℕ, ◌+◌, ◌-◌, ◌≤◌, ◌≡◌, Bool, true, false, cond, not, ◌||◌, List, [], ◌∷◌, leb, length}
use Rattle.std.specs.Prelude.{Float, Option, Some, None}
use Rattle.std.specs.Float.{binary64}
use Rattle.std.specs.Float.Ieee.{fits}
use Rattle.std.specs.Float.Ieee.Scale.{finite}
use Rattle.floats.specs.Arithmetic.{◌⊗◌}
use Rattle.refusals.specs.Results.{value, Row}
use Rattle.refusals.specs.Refusals.{Table, refused_by}
use Rattle.refusals.specs.declared.Refusal.{Refusal}
use Rattle.runs.specs.Outcomes.{Ending, asks, ends, told, refusal_in}
use Rattle.runs.specs.Asking.{Rest, Reply, shown, reported, awaits, outcomes, after}
use Rattle.runs.specs.Asking.{Machine, reached, played, told_next, tallied}
use Rattle.runs.specs.Counters.{one_more}
use Rattle.conditions.specs.Conditions.{answer_finite, holds_of}
use Rattle.backtracking.specs.declared.Options.{Options}
use Rattle.backtracking.specs.declared.Setup.{Setup}
use Rattle.backtracking.specs.declared.Stage.{Stage}
use Rattle.backtracking.specs.declared.Stage.TheVariants.{First, Later, Over}
use Rattle.backtracking.specs.declared.Backtracking.{Backtracking}
use Rattle.backtracking.specs.Machine.{Turn}
use Rattle.backtracking.specs.Machine.{Started}
use Rattle.std.specs.Prelude.{Ok, Err}
use Rattle.refusals.specs.Refusals.{by_number}
use Rattle.backtracking.specs.Backtracking.{start_rows, setup_of, backtracking}
use Rattle.backtracking.specs.Machine.{start_of, StartSaid, answer_of, AnswerSaid}
use Rattle.backtracking.specs.Meaning.{meant, is_over, Starts, Follows}

-- ---- an answer to any state: the trial's step, and whether it is the last that N allows

-- the next trial's step, if one is due: the trial at t did not meet the condition, and `now` iterations are
-- fewer than N
abbrev pub next_trial : Setup → ℕ → Float → Float → Float → Option Float
next_trial s now t f g =
    cond (holds_of s.options.condition s.f0 s.s0 t f g || leb s.options.limit now) None
    (Some (t ⊗ s.options.rho))

abbrev pub trial_due : Backtracking → Stage → Float → Float → Option Float
trial_due b First f g = next_trial b.setup b.iterations.0 b.setup.options.alpha f g
trial_due b (Later t) f g = next_trial b.setup (one_more b.iterations.0) t f g
trial_due b Over f g = None

abbrev pub is_not_finite : Option Float → Bool
is_not_finite None = false
is_not_finite (Some x) = not (finite x)

-- 8, 2, 5
abbrev pub trials_rows : Backtracking → Float → Float → List Row
trials_rows b f g =
    (8, is_over b.stage)
    ∷ (2, not (answer_finite b.setup.options.condition f g))
    ∷ (5, is_not_finite (trial_due b b.stage f g))
    ∷ []

-- What a refusal leaves: "it keeps the iteration count from before that trial". A finite answer's own trial is counted;
-- 5 is the next one's.
abbrev pub trials_kept : Backtracking → Stage → Float → Float → ℕ
trials_kept b First f g = b.iterations.0
trials_kept b (Later t) f g =
    cond (answer_finite b.setup.options.condition f g) (one_more b.iterations.0) b.iterations.0
trials_kept b Over f g = b.iterations.0

-- the number by which an answer is refused, if any, and what that leaves
pub record Tried (b : Backtracking) (f g : Float) (r : Turn) : Type 0 where
  -- 8, 2, 5, exactly when
  pub refused-by : Table (refusal_in (told r.outcome)) (trials_rows b f g)
  -- 8: "state unchanged"
  pub unchanged : is_over b.stage ≡ true → r.search ≡ b
  -- 2, 5: "search over", as after a stop and the limit, with the iterations "from before that trial"
  pub over : (e : Ending ℕ) → told r.outcome ≡ ends e → is_over r.search.stage ≡ true
  pub keeps : (n : ℕ) → refusal_in (told r.outcome) ≡ Some n → r.search.iterations.0 ≡ trials_kept b b.stage f g
  -- "Evaluations count every finite answer accepted"
  pub counts : r.search.evaluations.0
      ≡ cond (is_over b.stage) b.evaluations.0
      (cond (answer_finite b.setup.options.condition f g) (one_more b.evaluations.0) b.evaluations.0)

-- 01's empty programs break demand 2: "One that refuses everything, one that asks the same step each time, and one that
-- hands the state back untouched". The answer f, g to the search b, which awaits one at x; a step that shrinks is not x
-- again
pub record EmptyShutOut (s : Setup) (x : Float) (b : Backtracking) (f g : Float) (r : Turn) : Type 0 where
  pub refusing : answer_finite s.options.condition f g ≡ true → finite (x ⊗ s.options.rho) ≡ true
      → (n : ℕ) → refusal_in (told r.outcome) ≡ Some n → ⊥
  pub same_step : (x ⊗ s.options.rho ≡ x → ⊥) → told r.outcome ≡ asks x → ⊥
  pub untouched : r.search ≡ b → ⊥

-- ---- along any answers. Demand 3's bound, the first trial and N later ones, is reached (specs/Reached.antt)

abbrev pub most_trials : Options → ℕ
most_trials o = 1 + o.limit

abbrev pub machine : Machine Backtracking
machine = record {
  next = λ b f g. (answer_of b f g).search;
  says = λ b f g. told (answer_of b f g).outcome;
  over = λ b. is_over b.stage;
}

-- ---- a search that `start` gave

module _ (o : Options) (f0 s0 : Float) (t : Turn) where
  -- the search as 01 writes it
  abbrev rules : Rest ℕ
  rules = backtracking (setup_of o f0 s0)

  abbrev reached_by : List Reply → Backtracking
  reached_by ys = reached machine t.search ys

  -- "An answer counts as finite when the numbers its condition needs are finite."
  abbrev finite_by : List Reply → ℕ
  finite_by ys = tallied machine (answer_finite o.condition) t.search ys

  pub record Searches : Type 0 where
    -- demand 1: 5 never comes, since a finite step times a rho below 1 is finite (alpha is an f64)
    pub never-five : fits binary64 o.alpha ≡ true → (ys : List Reply) (y : Reply)
        → refusal_in (told_next machine t.search ys y) ≡ Some 5 → ⊥
    -- demand 2: what is told first and after each answer, and the iterations held, are those of 01's rules
    pub first-ask : told t.outcome ≡ shown rules
    pub outcomes-are-rules : (ys : List Reply) → played machine t.search ys ≡ outcomes rules ys
    pub iterations-are-rules : (ys : List Reply) → (reached_by ys).iterations.0 ≡ reported (after rules ys)
    -- "each later trial is one iteration": one fewer than the answers accepted, and none before the first
    pub iterations-counted : (ys : List Reply) → (reached_by ys).iterations.0 ≡ finite_by ys - 1
    -- the empty program that refuses every start
    pub refusing-start-shut-out : (k : Refusal) → Starts o f0 s0 (Err k) → ⊥
    -- demand 3: it ends within 1 + N answers
    pub search-ends : (ys : List Reply) → most_trials o ≤ length ys → is_over (reached_by ys).stage ≡ true
    -- "The reported evaluations equal the finite answers accepted": 1 + N at most, so that no counter stops
    pub evaluations-counted : (ys : List Reply) → (reached_by ys).evaluations.0 ≡ finite_by ys
    pub evaluations-bounded : (ys : List Reply) → finite_by ys ≤ most_trials o
    -- an answer that is not finite is at most one
    pub non-finite-once : (ys : List Reply)
        → tallied machine (λ f g. not (answer_finite o.condition f g)) t.search ys ≤ 1

pub record BacktrackingDemands : Type 0 where
  pub start : (o : Options) (f0 s0 : Float) (r : Started) → StartSaid o f0 s0 r
      → Table (refused_by (by_number r)) (start_rows o f0 s0)
  pub answer : (b : Backtracking) (f g : Float) (r : Turn) → AnswerSaid b f g r → Tried b f g r
  -- what meets the rules is no empty program: at the first answer, and in any state that awaits one
  pub first-shut-out : (o : Options) (f0 s0 : Float) (t : Turn) → Starts o f0 s0 (Ok t) → (f g : Float) (r : Turn)
      → Follows t.search f g r → EmptyShutOut (setup_of o f0 s0) o.alpha t.search f g r
  pub empty-shut-out : (b : Backtracking) (x : Float) → awaits (meant b) ≡ Some x → (f g : Float) (r : Turn)
      → Follows b f g r → EmptyShutOut b.setup x b f g r
  -- "Backtracking asks alpha, tests, then alpha*rho": a finite first answer does not meet the condition
  pub second-ask : (o : Options) (f0 s0 : Float) (t : Turn) → Starts o f0 s0 (Ok t) → (f g : Float)
      → answer_finite o.condition f g ≡ true → holds_of o.condition f0 s0 o.alpha f g ≡ false
      → finite (o.alpha ⊗ o.rho) ≡ true → (r : Turn) → Follows t.search f g r
      → told r.outcome ≡ asks (o.alpha ⊗ o.rho)
  pub search-given : (o : Options) (f0 s0 : Float) (t : Turn) → start_of o f0 s0 ≡ value t → Searches o f0 s0 t
