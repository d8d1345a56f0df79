-- The machine's own bookkeeping, which the contracts cite. The demands name what the functions give by it (`start_of`,
-- `answer_of`), and nobody needs to read how: specs/Meaning.antt says what a state stands for in 01's rules,
-- proofs/Bridge.antt that every step is the rules' step, and demands/proofs/Backtracking.antt the same for any list of
-- answers.
use Rattle.std.specs.Prelude.{◌≡◌, cond, leb, Float}
use Rattle.std.specs.Prelude as Rust
use Rattle.std.specs.Float.Ieee.Scale.{finite}
use Rattle.floats.specs.Arithmetic.{◌⊗◌}
use Rattle.refusals.specs.Results.{Result, refuse◌else◌}
use Rattle.runs.specs.declared.Evaluations.{Evaluations}
use Rattle.runs.specs.declared.Iterations.{Iterations}
use Rattle.runs.specs.declared.Counts.{Counts}
use Rattle.runs.specs.declared.Outcome.{Outcome}
use Rattle.runs.specs.declared.Outcome.TheVariants.{Ask, Stop, Limit, Refused}
use Rattle.refusals.specs.declared.Refusal.TheVariants.{SuppliedNotFinite, StepNotFinite, AlreadyOver}
use Rattle.runs.specs.declared.Verdict.TheVariants.{Met}
use Rattle.refusals.specs.declared.Refusal.{Refusal}
use Rattle.refusals.specs.Refusals.{by_number}
use Rattle.runs.specs.declared.Turn as Runs
use Rattle.runs.specs.Counters.{one_more, evaluations, iterations}
use Rattle.conditions.specs.Conditions.{answer_finite, holds_of}
use Rattle.backtracking.specs.declared.Options.{Options}
use Rattle.backtracking.specs.declared.Setup.{Setup}
use Rattle.backtracking.specs.declared.Stage.{Stage}
use Rattle.backtracking.specs.declared.Stage.TheVariants.{First, Later, Over}
use Rattle.backtracking.specs.declared.Backtracking.{Backtracking}
use Rattle.backtracking.specs.Backtracking.{setup_of, start_rows}

-- what the code calls a `Turn`, and what a start gives
abbrev pub Turn : Type 0
Turn = Runs.Turn Backtracking

abbrev pub Started : Type 0
Started = Rust.Result Turn Refusal

abbrev pub made_of : Setup → Evaluations → Iterations → Stage → Outcome → Turn
made_of s n i stage outcome = record {
  search = record { setup = s; evaluations = n; iterations = i; stage = stage };
  outcome = outcome;
}

-- ---- a start

-- a search that waits for the answer at the first step, and has counted nothing
abbrev pub fresh_of : Setup → Turn
fresh_of s = made_of s (evaluations 0) (iterations 0) First (Ask s.options.alpha)

abbrev pub start_of : Options → Float → Float → Result Turn
start_of o f0 s0 = refuse (start_rows o f0 s0) else fresh_of (setup_of o f0 s0)

-- what `start`'s contract says of its result; proofs/Determined.antt shows that this leaves only one
abbrev pub StartSaid : Options → Float → Float → Started → Type 0
StartSaid o f0 s0 r = by_number r ≡ start_of o f0 s0

-- ---- an answer

-- the answer at t, before which n evaluations and `before` iterations are counted
unfoldable pub tried_of : Setup → Evaluations → Iterations → Iterations → Float → Float → Float → Turn
tried_of s n before now t f g =
    let m = evaluations (one_more n.0) in
    cond (answer_finite s.options.condition f g)
    (cond (holds_of s.options.condition s.f0 s.s0 t f g) (made_of s m now Over (Stop Met t))
    (cond (leb s.options.limit now.0) (made_of s m now Over (Limit t))
    (cond (finite (t ⊗ s.options.rho)) (made_of s m now (Later (t ⊗ s.options.rho)) (Ask (t ⊗ s.options.rho)))
    (made_of s m now Over (Refused StepNotFinite)))))
    (made_of s n before Over (Refused SuppliedNotFinite))

unfoldable pub answer_by : Backtracking → Float → Float → Stage → Turn
answer_by s f g First =
    tried_of s.setup s.evaluations s.iterations s.iterations s.setup.options.alpha f g
answer_by s f g (Later t) =
    tried_of s.setup s.evaluations s.iterations (iterations (one_more s.iterations.0)) t f g
answer_by s f g Over = record { search = s; outcome = Refused AlreadyOver }

abbrev pub answer_of : Backtracking → Float → Float → Turn
answer_of s f g = answer_by s f g s.stage

-- what it has counted
abbrev pub counted_of : Backtracking → Counts
counted_of s = record { evaluations = s.evaluations; iterations = s.iterations }

-- what `answer`'s contract says of its result
abbrev pub AnswerSaid : Backtracking → Float → Float → Turn → Type 0
AnswerSaid s f g r = r ≡ answer_of s f g
