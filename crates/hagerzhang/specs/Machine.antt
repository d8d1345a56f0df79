-- The machine's own bookkeeping, which the contracts cite. The demands name what the functions give by it (`start_of`,
-- `answer_of`, `held_of`, `awaited_of`), and nobody needs to read how. specs/Meaning.antt says what a state stands for
-- in 01's rules, proofs/Bridge.antt that every step is the rules' step, and demands/proofs/Along.antt the same for any
-- list of answers.
use Rattle.std.specs.Prelude.{◌≡◌, cond, Float, Option, None, Some}
use Rattle.std.specs.Prelude as Rust
use Rattle.refusals.specs.Results.{Result, refuse◌else◌}
use Rattle.refusals.specs.declared.Refusal.{Refusal}
use Rattle.refusals.specs.Refusals.{by_number}
use Rattle.runs.specs.declared.Turn as Runs
use Rattle.runs.specs.declared.Evaluations.{Evaluations}
use Rattle.runs.specs.declared.Counts.{Counts}
use Rattle.runs.specs.declared.Outcome.TheVariants.{Refused}
use Rattle.refusals.specs.declared.Refusal.TheVariants.{SuppliedNotFinite, AlreadyOver}
use Rattle.runs.specs.Counters.{one_more, evaluations, iterations}
use Rattle.hagerzhang_rules.specs.declared.Options.{Options}
use Rattle.hagerzhang_rules.specs.declared.Setup.{Setup}
use Rattle.hagerzhang_steps.specs.declared.state.Trial.{Trial}
use Rattle.hagerzhang_steps.specs.declared.state.Asked.{Asked}
use Rattle.hagerzhang_steps.specs.declared.state.Asked.TheVariants.{Update, Between}
use Rattle.hagerzhang_steps.specs.declared.state.Waiting.{Waiting}
use Rattle.hagerzhang_steps.specs.declared.state.Opening.{Opening}
use Rattle.hagerzhang_steps.specs.declared.state.Opening.TheVariants.{Low, High, StartStep, First, Later, Inside}
use Rattle.hagerzhang_steps.specs.declared.state.Waiting.TheVariants.{Starting, Running}
use Rattle.hagerzhang_steps.specs.declared.state.Stage.{Stage}
use Rattle.hagerzhang_steps.specs.declared.state.Stage.TheVariants.{Open, Over}
use Rattle.hagerzhang_steps.specs.declared.state.Next.{Next}
use Rattle.hagerzhang.specs.declared.state.Search.{Search}
use Rattle.hagerzhang_rules.specs.Parameters.{setup_of, start_rows}
use Rattle.hagerzhang_rules.specs.Rules.{answer_finite, iterations_in}
use Rattle.hagerzhang_steps.specs.Reports.{kept_report}
use Rattle.hagerzhang_steps.specs.State.{asks_of, ended_of}
use Rattle.hagerzhang_steps.specs.Opening.{first_of}
use Rattle.hagerzhang_steps.specs.Steps.{react_of}
use Rattle.hagerzhang_steps.specs.declared.state.Finished.{Finished}

-- what the code calls a `Turn`, and what a start gives
abbrev pub Turn : Type 0
Turn = Runs.Turn Search

abbrev pub Started : Type 0
Started = Rust.Result Turn Refusal

-- the search with what an answer leads to
abbrev pub turned_of : Setup → Evaluations → Next → Turn
turned_of s n to = record { search = record { setup = s; evaluations = n; stage = to.stage }; outcome = to.outcome }

-- ---- what a state holds: bracket, best and iterations, or none yet; and the step at which an answer is awaited

unfoldable pub keeps_of : Waiting → Option Finished
keeps_of (Starting w) = None
keeps_of (Running t last asked) = Some last

unfoldable pub held_at : Stage → Option Finished
held_at (Open waiting) = keeps_of waiting
held_at (Over kept) = kept

abbrev pub held_of : Search → Option Finished
held_of s = held_at s.stage

unfoldable pub step_asked : Trial → Asked → Float
step_asked t (Update w) = t.x
step_asked t (Between e) = e.d

unfoldable pub opening_step : Float → Opening → Float
opening_step start (Low e) = e.min
opening_step start (High a x) = x
opening_step start (StartStep w) = start
opening_step start (First w) = w.x
opening_step start (Later w c) = w.x
opening_step start (Inside e c) = e.d

unfoldable pub step_due : Setup → Waiting → Float
step_due s (Starting w) = opening_step s.options.params.start w
step_due s (Running t last asked) = step_asked t asked

unfoldable pub awaited_at : Setup → Stage → Option Float
awaited_at s (Open waiting) = Some (step_due s waiting)
awaited_at s (Over kept) = None

abbrev pub awaited_of : Search → Option Float
awaited_of s = awaited_at s.setup s.stage

-- ---- an answer, taken

unfoldable pub taken_of : Setup → Evaluations → Waiting → Float → Float → Turn
taken_of s n waiting f g =
    cond (answer_finite f g) (turned_of s (evaluations (one_more n.0)) (react_of s waiting f g))
    (turned_of s n (ended_of (keeps_of waiting) (Refused SuppliedNotFinite)))

unfoldable pub answer_by : Search → Float → Float → Stage → Turn
answer_by s f g (Open waiting) = taken_of s.setup s.evaluations waiting f g
answer_by s f g (Over kept) = record { search = s; outcome = Refused AlreadyOver }

abbrev pub answer_of : Search → Float → Float → Turn
answer_of s f g = answer_by s f g s.stage

-- what it has counted: no iteration is finished during the start
abbrev pub counted_of : Search → Counts
counted_of s = record {
  evaluations = s.evaluations;
  iterations = iterations (iterations_in (kept_report (held_of s)));
}

-- ---- a start

abbrev pub fresh_of : Setup → Turn
fresh_of s =
    let w = first_of s in
    turned_of s (evaluations 0) (asks_of (Starting w) (opening_step s.options.params.start w))

abbrev pub start_of : Options → Float → Float → Result Turn
start_of o f0 s0 = refuse (start_rows o f0 s0) else fresh_of (setup_of o f0 s0)

-- ---- what the contracts say of a result

abbrev pub StartSaid : Options → Float → Float → Started → Type 0
StartSaid o f0 s0 r = by_number r ≡ start_of o f0 s0

abbrev pub AnswerSaid : Search → Float → Float → Turn → Type 0
AnswerSaid s f g r = r ≡ answer_of s f g
