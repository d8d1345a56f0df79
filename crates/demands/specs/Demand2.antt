-- Demand 2: "For finite trials, answers and computed numbers, within our limits and without a U3 stall, steps, bracket,
-- best step and verdict equal the Rust's bit for bit. They are proved equal to rules U0-U3, S1-S4, L1-L3 and the
-- conditions as 01 writes them in computed floats." Of Hager-Zhang; outside those limits 01's rules refuse, and so does
-- the search. Of a start that grows 02, request 3: "demand 2's proof reads the rules written here in place of 01's".
-- Of S2 to S4 request 4: "Demands 2 and 3 read the mended rule."
-- (Backtracking: specs/Backtracking.antt. Equal to the Rust's: run and compared, README; of the start of three answers
-- alone.)
use Rattle.std.specs.Prelude.{ℕ, ◌<◌, ◌≡◌, true, false, List, Float, Some, None, Err, Ok}
use Rattle.std.specs.Float.Ieee.{is_nan}
use Rattle.std.specs.Float.Ieee.Scale.{finite}
use Rattle.floats.specs.Arithmetic.{◌⊗◌, 5ᶠ}
use Rattle.refusals.specs.declared.Refusal.{Refusal}
use Rattle.runs.specs.Outcomes.{refusal, unreachable, asks, told}
use Rattle.runs.specs.Asking.{Rest, end_with, Reply, shown, reported, awaits, outcomes, after}
use Rattle.runs.specs.Outcomes.{refusal_in}
use Rattle.hagerzhang_rules.specs.declared.Bounds.{Bounds}
use Rattle.hagerzhang_rules.specs.declared.Way.TheVariants.{Bounded, Growing}
use Rattle.hagerzhang.specs.Machine.{Turn}
use Rattle.hagerzhang_rules.specs.declared.Options.{Options}
use Rattle.hagerzhang_rules.specs.declared.Setup.{Setup}
use Rattle.hagerzhang_rules.specs.Parameters.{level_of, setup_of}
use Rattle.hagerzhang_rules.specs.Rules.{point, answer_finite, zero_of, grown_of, Report, hager_zhang}
use Rattle.hagerzhang_rules.specs.Iterations.{report_finite}
use Rattle.curves.specs.declared.Curve.{Curve}
use Rattle.jobs.specs.Opening.{BeginSaid}
use Rattle.hagerzhang.specs.declared.state.Search.{Search}
use Rattle.hagerzhang.specs.Machine.{awaited_of, AnswerSaid}
use Rattle.hagerzhang.specs.Meaning.{report, is_over, Starts, Follows}
use Rattle.demands.specs.Runs.{Gave, reached_by, told_by}

-- ---- a search t that `start` gave for the options o, and the cost f0 and slope s0 at step 0

module _ (o : Options) (f0 s0 : Float) (t : Turn) where
  -- the search as 01 writes it, with 02's start that grows and its S2 to S4
  abbrev s : Setup
  s = setup_of o f0 s0

  abbrev rules : Rest Report
  rules = hager_zhang s

  pub record ByRules : Type 0 where
    -- "steps .. and verdict": what is told first, and after each of any answers
    pub first-ask : told t.outcome ≡ shown rules
    pub outcomes-are-rules : (ys : List Reply) → told_by t.search ys ≡ outcomes rules ys
    -- "bracket, best step": what is held after any answers, or none yet; and the step at which it awaits the next
    pub report-is-rules : (ys : List Reply) → report (reached_by t.search ys) ≡ reported (after rules ys)
    pub awaited-is-rules : (ys : List Reply) → awaited_of (reached_by t.search ys) ≡ awaits (after rules ys)
    -- "The Rust's "unreachable point" error cannot occur here."
    pub never-unreachable : (ys : List Reply) (k : Report) → after rules ys ≡ end_with k (refusal unreachable) → ⊥
    -- every number that is ever reported is finite; so one of 01's three tests for the best held
    pub report-finite : (ys : List Reply) → report_finite (report (reached_by t.search ys)) ≡ true
    -- 01's empty programs break this: "One that refuses everything, one that asks the same step each time, and one that
    -- hands the state back untouched", at a start, at the first answer, or at any
    pub refusing-start-shut-out : (k : Refusal) → Starts o f0 s0 (Err k) → ⊥
    pub refusing-shut-out : (e : Bounds) → o.way ≡ Bounded e → (f g : Float) → answer_finite f g ≡ true → (r : Turn)
        → Follows t.search f g r → (n : ℕ) → refusal_in (told r.outcome) ≡ Some n → ⊥
    pub same-step-shut-out : (e : Bounds) → o.way ≡ Bounded e → (f g : Float) → answer_finite f g ≡ true → (r : Turn)
        → Follows t.search f g r → told r.outcome ≡ told t.outcome → ⊥
    -- of a start that grows: a first trial that is too short is followed by another step, 5 times as long
    pub longer-step : (K : ℕ) → o.way ≡ Growing K → (f g : Float) → answer_finite f g ≡ true
        → grown_of (level_of o f0) (zero_of s) (zero_of s) (point o.params.start f g) ≡ None
        → finite (5ᶠ ⊗ o.params.start) ≡ true
        → (r : Turn) → Follows t.search f g r → told r.outcome ≡ asks (5ᶠ ⊗ o.params.start)
    pub another-step : (K : ℕ) → o.way ≡ Growing K → finite (5ᶠ ⊗ o.params.start) ≡ true
        → 5ᶠ ⊗ o.params.start ≡ o.params.start → ⊥
    pub untouched-shut-out : (ys : List Reply) → is_over (reached_by t.search ys).stage ≡ false → (f g : Float)
        → (r : Turn) → Follows (reached_by t.search ys) f g r → r.search ≡ reached_by t.search ys → ⊥

-- a search that some start gave
pub record GivenByStart (t : Turn) : Type 0 where
  pub o : Options
  pub f0 : Float
  pub s0 : Float
  pub given : Gave o f0 s0 t

pub record Demand2 : Type 0 where
  pub search-given : (o : Options) (f0 s0 : Float) (t : Turn) → Gave o f0 s0 t → ByRules o f0 s0 t
  -- a job's search is one
  pub job-given : (bytes : List ℕ) (c : Curve) (t : Turn) → BeginSaid bytes (Ok (c, t)) → GivenByStart t
  -- one answer to any state, made by hand or not, whose limit is a u32 and whose L is no NaN: it is the rules' answer
  pub any-state : (s : Search) (f g : Float) (r : Turn) → AnswerSaid s f g r → s.setup.options.limit < 4294967296
      → is_nan s.setup.level ≡ false → Follows s f g r
