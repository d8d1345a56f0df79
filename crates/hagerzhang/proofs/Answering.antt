-- What any answer to any state leaves and counts: the setup stays, a finite answer to a search that asks is one more
-- evaluation, and what a state holds is what the rules that it stands for report. Assumes nothing.
use mathlib.Core.Path.{◌≡◌, refl, sym, ap, ◌∙◌}
use mathlib.Core.Bool.{Bool, true, false, cond, ◌&&◌}
use Prim.Native.Nat.{ℕ}
use lib.Dec.{eqb}
use lib.Ieee.{Float}
use lib.Ieee.Scale.{finite}
use Rattle.floats.specs.Arithmetic.{◌<ᶠ◌}
use Rattle.refusals.specs.Refusals.{number_of}
use Rattle.refusals.specs.declared.Refusal.{Refusal}
use Rattle.refusals.specs.declared.Refusal.TheVariants.{StepNotFinite, BudgetSpent, StepNotBetween}
use Rattle.runs.specs.Outcomes.{Ending, ends, told, refusal_in}
use Rattle.runs.specs.declared.Outcome.{Outcome}
use Rattle.runs.specs.declared.Outcome.TheVariants.{Ask}
use Rattle.runs.specs.Asking.{reported, awaits}
use Rattle.runs.specs.Counters.{one_more}
use Rattle.floats.proofs.Branches.{by_cases, by-cases₂}
use Rattle.hagerzhang_rules.specs.declared.Setup.{Setup}
use Rattle.hagerzhang_rules.specs.declared.Point.{Point}
use Rattle.hagerzhang_rules.specs.declared.Came.{Came}
use Rattle.hagerzhang_rules.specs.declared.Came.TheVariants.{To, On}
use Rattle.std.specs.Prelude.{Option, Some, None, Ok, Err}
use Rattle.std.specs.Prelude as Rust
use Rattle.hagerzhang.specs.Machine.{Turn}
use Rattle.hagerzhang_rules.specs.Rules.{answer_finite, middle_of, longer_of}
use Rattle.hagerzhang_steps.specs.declared.state.Finished.{Finished}
use Rattle.hagerzhang_steps.specs.declared.moves.Move.{Move}
use Rattle.hagerzhang_steps.specs.declared.moves.Move.TheVariants.{Try, Narrow, ByVerdict, ByLimit}
use Rattle.hagerzhang_steps.specs.declared.opening.Opened.{Opened}
use Rattle.hagerzhang_steps.specs.declared.iteration.Then.{Then}
use Rattle.hagerzhang_steps.specs.declared.iteration.Then.TheVariants.{Go, Close}
use Rattle.hagerzhang_steps.specs.declared.state.Narrowing.{Narrowing}
use Rattle.hagerzhang_steps.specs.declared.state.Waiting.{Waiting}
use Rattle.hagerzhang_steps.specs.declared.state.Opening.{Opening}
use Rattle.hagerzhang_steps.specs.declared.state.Opening.TheVariants.{Low, High, StartStep, First, Later, Inside}
use Rattle.hagerzhang_steps.specs.declared.state.Waiting.TheVariants.{Starting, Running}
use Rattle.hagerzhang_steps.specs.declared.state.Stage.{Stage}
use Rattle.hagerzhang_steps.specs.declared.state.Stage.TheVariants.{Open, Over}
use Rattle.hagerzhang_steps.specs.declared.state.Next.{Next}
use Rattle.hagerzhang.specs.declared.state.Search.{Search}
use Rattle.hagerzhang_steps.specs.Moves.{attempt_of, probe_of, narrow_by, test_of, made_by, made_of}
use Rattle.hagerzhang_steps.specs.Iteration.{went_of}
use Rattle.hagerzhang_steps.specs.Opening.{inside_of, arrived_of, stretch_of, grew_by, opens_of}
use Rattle.hagerzhang_steps.specs.Steps.{starts_of, react_of}
use Rattle.hagerzhang.specs.Machine.{held_at, held_of, awaited_at, awaited_of, taken_of, answer_by}
use Rattle.hagerzhang_steps.specs.Reports.{kept_report}
use Rattle.hagerzhang.specs.Meaning.{OfTheStep, not-refused, six, eleven, five, seven}
use Rattle.hagerzhang.specs.Meaning.{meaning, meant}

pub setup-kept : (b : Search) (f g : Float) (stage : Stage) → (answer_by b f g stage).search.setup ≡ b.setup
unfolding answer_by taken_of
setup-kept b f g (Open waiting) =
    by_cases (λ (r : Turn). r.search.setup ≡ b.setup) (answer_finite f g) (λ e. refl) (λ e. refl)
setup-kept b f g (Over kept) = refl

pub one-more-if-finite : (b : Search) (f g : Float) (waiting : Waiting)
    → (answer_by b f g (Open waiting)).search.evaluations.0
    ≡ cond (answer_finite f g) (one_more b.evaluations.0) b.evaluations.0
unfolding answer_by taken_of
one-more-if-finite b f g waiting =
    by-cases₂ (λ (r : Turn) (n : ℕ). r.search.evaluations.0 ≡ n) (answer_finite f g) (λ e. refl) (λ e. refl)

-- what is held and what is awaited are what the rules report and await
pub reports : (s : Setup) (stage : Stage) → reported (meaning s stage) ≡ kept_report (held_at stage)
unfolding meaning reported held_at
reports s (Open waiting) = refl
reports s (Over kept) = refl

pub awaited : (s : Setup) (stage : Stage) → awaits (meaning s stage) ≡ awaited_at s stage
unfolding meaning awaits awaited_at
awaited s (Open waiting) = refl
awaited s (Over kept) = refl

-- what `held` and `awaited` promise of their results
pub held-promised : (s : Search) (r : Option Finished) → r ≡ held_of s
    → record { exact : r ≡ held_of s; rules : kept_report r ≡ reported (meant s) }
held-promised s r e = record { exact = e; rules = ap kept_report e ∙ sym (reports s.setup s.stage) }

pub awaited-promised : (s : Search) (r : Option Float) → r ≡ awaited_of s
    → record { exact : r ≡ awaited_of s; rules : r ≡ awaits (meant s) }
awaited-promised s r e = record { exact = e; rules = e ∙ sym (awaited s.setup s.stage) }

-- ---- what a finite answer to any state can come to
-- what is told is an ask exactly while the search is not over
pub data Said : Stage → Outcome → Type 0 where
  goes_on : {waiting : Waiting} {x : Float} → Said (Open waiting) (Ask x)
  ended : {kept : Option Finished} {o : Outcome} {e : Ending ℕ} → told o ≡ ends e → OfTheStep (refusal_in (ends e))
      → Said (Over kept) o

abbrev Says : Next → Type 0
Says n = Said n.stage n.outcome

-- U3's next step passes, or its refusal is one of the step
probe-said : (Q : Rust.Result Narrowing Refusal → Type 0) → ((e : Narrowing) → Q (Ok e))
    → ((r : Refusal) → OfTheStep (Some (number_of r)) → Q (Err r))
    → (theta : Float) (h : Point) (k : Float) (left : ℕ) → Q (probe_of theta h k left)
unfolding probe_of
probe-said Q passes refuses theta h k left =
    let d = middle_of theta h k in
    by_cases Q (eqb left 0) (λ e. refuses BudgetSpent six)
    (λ e. by_cases Q (finite d)
    (λ e. by_cases Q (h.x <ᶠ d && d <ᶠ k) (λ e. passes _) (λ e. refuses StepNotBetween seven))
    (λ e. refuses StepNotFinite five))

made-said : (theta : Float) (fin : Finished) (m : Move) → Says (made_of theta fin m)
unfolding test_of attempt_of narrow_by made_by
made-said theta fin (Try u t) =
    by_cases (λ m. Says (made_by fin m)) (finite t.x) (λ e. goes_on) (λ e. ended refl five)
made-said theta fin (Narrow t h k left) =
    probe-said (λ p. Says (made_by fin (narrow_by t p))) (λ e. goes_on) (λ r o. ended refl o) theta h k left
made-said theta fin (ByVerdict v) = ended refl not-refused
made-said theta fin ByLimit = ended refl not-refused

went-said : (s : Setup) (fin : Finished) (t : Then) → Says (went_of s fin t)
unfolding went_of
went-said s fin (Go m) = made-said s.options.params.theta fin m
went-said s fin (Close u) = made-said s.options.params.theta _ _

module _ (s : Setup) where
  abbrev Starts-said : Rust.Result Opened Refusal → Type 0
  Starts-said o = Says (starts_of s o)

  arrived-said : (c : Point) (left : ℕ) (came : Came) → Starts-said (arrived_of s.options.params.theta c left came)
  unfolding arrived_of inside_of starts_of
  arrived-said c left (To w) = made-said s.options.params.theta _ _
  arrived-said c left (On h k) =
      probe-said (λ p. Starts-said (inside_of c p)) (λ e. goes_on) (λ r o. ended refl o) s.options.params.theta h k
      left

  -- with no growth left it is 11, whatever the longer step is
  stretch-said : (c t : Point) (left : ℕ) (spent passes : Bool) → eqb left 0 ≡ spent → finite (longer_of t) ≡ passes
      → Starts-said (stretch_of c t left)
  unfolding stretch_of starts_of
  stretch-said c t left true passes e f = rw e (ended refl eleven)
  stretch-said c t left false true e f = rw (e, f) goes_on
  stretch-said c t left false false e f = rw (e, f) (ended refl five)

  grew-said : (c t : Point) (left : ℕ) (grown : Option Came) → Starts-said (grew_by s c t left grown)
  unfolding grew_by
  grew-said c t left (Some came) = arrived-said c s.options.budget came
  grew-said c t left None = stretch-said c t left _ _ refl refl

  opens-said : (w : Opening) (f g : Float) → Starts-said (opens_of s w f g)
  unfolding opens_of starts_of
  opens-said (Low e) f g = goes_on
  opens-said (High a x) f g = goes_on
  opens-said (StartStep w) f g = made-said s.options.params.theta _ _
  opens-said (First w) f g = grew-said _ _ w.left _
  opens-said (Later w c) f g = grew-said c _ w.left _
  opens-said (Inside e c) f g = arrived-said c e.left _

  pub react-said : (waiting : Waiting) (f g : Float) → Says (react_of s waiting f g)
  unfolding react_of
  react-said (Starting w) f g = opens-said w f g
  react-said (Running t fin asked) f g = went-said s fin _
