-- What a state stands for in 01's rules: the search that is left. And what `start` and `answer` promise in
-- the rules' terms.
use Rattle.std.specs.Prelude.{ℕ, ◌-◌, ◌≡◌, Bool, true, false, Float, Option, Some, None, Ok, Err}
use Rattle.refusals.specs.Results.{Result, value, refused, refuse◌else◌}
use Rattle.runs.specs.Outcomes.{refusal, Told, ends, already_over, told}
use Rattle.refusals.specs.Refusals.{number_of}
use Rattle.runs.specs.Asking.{Rest, end_with, keeping, question, respond, shown, first_of, once_told}
use Rattle.runs.specs.Counters.{one_more}
use Rattle.hagerzhang_rules.specs.declared.Point.{Point}
use Rattle.hagerzhang_rules.specs.declared.Bracket.{Bracket}
use Rattle.hagerzhang_rules.specs.declared.Options.{Options}
use Rattle.hagerzhang_rules.specs.declared.Setup.{Setup}
use Rattle.hagerzhang_steps.specs.declared.state.Finished.{Finished}
use Rattle.hagerzhang_steps.specs.declared.state.Growth.{Growth}
use Rattle.hagerzhang_steps.specs.declared.state.Rule.{Rule}
use Rattle.hagerzhang_steps.specs.declared.state.Rule.TheVariants.{S1 as ByS1, S4 as ByS4, L2 as ByL2}
use Rattle.hagerzhang_steps.specs.declared.state.Trial.{Trial}
use Rattle.hagerzhang_steps.specs.declared.state.Asked.{Asked}
use Rattle.hagerzhang_steps.specs.declared.state.Asked.TheVariants.{Update, Between}
use Rattle.hagerzhang.specs.Machine.{Turn, Started}
use Rattle.hagerzhang_steps.specs.declared.state.Waiting.{Waiting}
use Rattle.hagerzhang_steps.specs.declared.state.Opening.{Opening}
use Rattle.hagerzhang_steps.specs.declared.state.Opening.TheVariants.{Low, High, StartStep, First, Later, Inside}
use Rattle.hagerzhang_steps.specs.declared.state.Waiting.TheVariants.{Starting, Running}
use Rattle.hagerzhang_steps.specs.declared.state.Stage.{Stage}
use Rattle.hagerzhang_steps.specs.declared.state.Stage.TheVariants.{Open, Over}
use Rattle.hagerzhang.specs.declared.state.Search.{Search}
use Rattle.hagerzhang_rules.specs.Parameters.{setup_of, start_rows}
use Rattle.hagerzhang_rules.specs.Rules.{
  point,
  bracket,
  answer_finite,
  narrowed_of,
  zero_of,
  grown_of,
  S4,
  Report,
  nothing_yet,
  U3,
  update,
  further,
  after_s4,
  rounds,
  ask_start,
  ask_high,
  growth,
  hager_zhang,
}
use Rattle.hagerzhang_steps.specs.Reports.{last_of, kept_report}
use Rattle.hagerzhang.specs.Machine.{keeps_of, held_of, step_due}

-- ---- what a state reports

-- bracket, best and finished iterations, or none yet
abbrev pub report : Search → Report
report s = kept_report (held_of s)

abbrev pub is_over : Stage → Bool
is_over (Open waiting) = false
is_over (Over kept) = true

-- no refusal, or one of the step that would be next
pub data OfTheStep : Option ℕ → Type 0 where
  not-refused : OfTheStep None
  six : OfTheStep (Some 6)
  eleven : OfTheStep (Some 11)
  five : OfTheStep (Some 5)
  seven : OfTheStep (Some 7)

-- ---- the search that is left

module _ (s : Setup) (fin : Finished) where
  -- L3, and then the verdict and what follows it
  abbrev pub closed : Bracket → Rest Report
  closed v = rounds s (s.options.limit - one_more fin.iterations.0) v fin.c (one_more fin.iterations.0)

  -- how the iteration goes on from the update of a trial at c
  unfoldable pub after_trial : Rule → Float → Bracket → Rest Report
  after_trial ByS1 c u =
      further s (keeping (last_of fin)) (last_of fin) (S4 fin.bracket c u) u λ v.
      after_s4 s (keeping (last_of fin)) (last_of fin) fin.bracket v closed
  after_trial ByS4 c u = after_s4 s (keeping (last_of fin)) (last_of fin) fin.bracket u closed
  after_trial ByL2 c u = closed u

  -- what a finite answer leads to: to the trial itself, or to U3's step
  unfoldable pub on_asked : Trial → Asked → Float → Float → Rest Report
  on_asked t (Update w) f g =
      update s (keeping (last_of fin)) (last_of fin) w (point t.x f g) (after_trial t.rule t.x)
  on_asked t (Between e) f g =
      U3 s (keeping (last_of fin)) (last_of fin) e.left (narrowed_of s.level e.h e.k (point e.d f g))
      (after_trial t.rule t.x)

-- the same in the start, of which nothing is reported: behind it come the verdict and the iterations
module _ (s : Setup) where
  abbrev pub begins : Point → Bracket → Rest Report
  begins c w = rounds s s.options.limit w c 0

  -- a trial t of a start that grows is answered, and c is the first
  abbrev pub on_trial : Growth → Point → Point → Rest Report
  on_trial w c t =
      growth s (keeping nothing_yet) nothing_yet w.left t (grown_of s.level (zero_of s) w.earlier t) (begins c)

  -- what a finite answer leads to: to 01's three steps, to a trial of a start that grows, or to a step of its U3
  unfoldable pub on_opening : Opening → Float → Float → Rest Report
  on_opening (Low e) f g = ask_high s (keeping nothing_yet) nothing_yet e.max (point e.min f g) begins
  on_opening (High a x) f g = ask_start s (keeping nothing_yet) nothing_yet (bracket a (point x f g)) begins
  on_opening (StartStep w) f g = begins (point s.options.params.start f g) w
  on_opening (First w) f g = on_trial w (point w.x f g) (point w.x f g)
  on_opening (Later w c) f g = on_trial w c (point w.x f g)
  on_opening (Inside e c) f g =
      U3 s (keeping nothing_yet) nothing_yet e.left (narrowed_of s.level e.h e.k (point e.d f g)) (begins c)

unfoldable pub on_answer : Setup → Waiting → Float → Float → Rest Report
on_answer s (Starting w) f g = on_opening s w f g
on_answer s (Running t fin asked) f g = on_asked s fin t asked f g

unfoldable pub meaning : Setup → Stage → Rest Report
meaning s (Open waiting) =
    let kept = kept_report (keeps_of waiting) in
    question answer_finite (keeping kept) kept (step_due s waiting) (on_answer s waiting)
meaning s (Over kept) = end_with (kept_report kept) (refusal already_over)

abbrev pub meant : Search → Rest Report
meant s = meaning s.setup s.stage

-- ---- `start`: the refusal's number, or the search that 01's rules are for the accepted setup

abbrev pub start_told : Started → Result (Rest Report)
start_told (Ok r) = value (meant r.search)
start_told (Err k) = refused (number_of k)

abbrev pub begun : Options → Float → Float → Result (Rest Report)
begun o f0 s0 = refuse (start_rows o f0 s0) else hager_zhang (setup_of o f0 s0)

-- what a start says: the first step, or the refusal
abbrev pub start_says : Started → Told
start_says (Ok r) = told r.outcome
start_says (Err k) = ends (refusal (number_of k))

pub record Starts (o : Options) (f0 s0 : Float) (r : Started) : Type 0 where
  pub stands-for : start_told r ≡ begun o f0 s0
  pub tells_first : start_says r ≡ first_of (begun o f0 s0)

-- ---- `answer`: what is told is what the rules tell at this answer, and what is left is what they leave

pub record Follows (s : Search) (f g : Float) (r : Turn) : Type 0 where
  pub tells : told r.outcome ≡ shown (respond (meant s) f g)
  pub leaves : meant r.search ≡ once_told (respond (meant s) f g)
