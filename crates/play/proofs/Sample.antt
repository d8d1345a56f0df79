-- 01's sample job: "Job `01 0001 01 02 0010 0000000000000000 4010000000000000` gives exactly" 01's four lines
-- (`sample`). Worked out in parts: what its bytes say, that no row refuses it, what its search tells, and the lines.
-- Assumes nothing.
use mathlib.Core.Path.{◌≡◌, refl, ap, ap₂, ◌∙◌}
use mathlib.Core.Bool.{true}
use mathlib.Core.List.{List, [], ◌∷◌, ◌++◌, append-nil}
use Prim.Native.Nat.{ℕ, ◌+◌}
use native.Mathlib.Omega.{arith}
use lib.Ieee.{Float, binary64, of_bits, of_int, add, sub, mul, neg, le, lt}
use Rattle.refusals.specs.Results.{value}
use Rattle.runs.specs.Outcomes.{wolfe, stop, Told, asks, ends}
use Rattle.runs.specs.Asking.{Rest, keeping, question}
use Rattle.refusals.proofs.Refusals.{Passed, and, all, value-given}
use Rattle.hagerzhang_rules.specs.declared.Point.{Point}
use Rattle.hagerzhang_rules.specs.declared.Bracket.{Bracket}
use Rattle.hagerzhang_rules.specs.declared.Way.TheVariants.{Bounded}
use Rattle.hagerzhang_rules.specs.Parameters.{bounds, default_options, options_with}
use Rattle.hagerzhang_rules.specs.Rules.{point, bracket, answer_finite, Report, nothing_yet, iterations_in, best_over}
use Rattle.hagerzhang_rules.specs.Rules.{judge_of, decided, verdict, rounds, rounds_by, ask_start, ask_high, starting}
use Rattle.hagerzhang_rules.specs.Rules.{hager_zhang, hager_zhang_by}
use Rattle.curves.specs.declared.Curve.{Curve}
use Rattle.curves.specs.Curves.{table, value_of, slope_of}
use Rattle.text.specs.Text.{bytes}
use Rattle.lines.proofs.Samples.{samples}
use Rattle.fields.specs.Fields.{Field}
use Rattle.jobs.specs.declared.Job.{Job}
use Rattle.jobs.specs.Format.{size_of, WellFormed, nothing, field, body_under, options_of, decoded, means_of}
use Rattle.jobs.specs.Reader.{job_of}
use Rattle.jobs.proofs.BothWays.{job_read}
use Rattle.jobs.specs.Opening.{curve_of, setup_for, job_rows}
use Rattle.play.specs.Telling.{Said, telling, text_of}
use Rattle.play.specs.Output.{search_text, or_refused, job_text, output_of}

-- ---- what the bytes say: curve 1, and the bounds 0 and 4

abbrev pub job : List ℕ
job =
    1 ∷ 0 ∷ 1 ∷ 1 ∷
    2 ∷ 0 ∷ 16 ∷ 0 ∷ 0 ∷ 0 ∷ 0 ∷ 0 ∷ 0 ∷ 0 ∷ 0 ∷ 64 ∷ 16 ∷ 0 ∷ 0 ∷ 0 ∷ 0 ∷ 0 ∷ 0 ∷ []

abbrev curve : Field
curve = record { tag = 1; body = 1 ∷ [] }

abbrev bounds-field : Field
bounds-field = record { tag = 2; body = 0 ∷ 0 ∷ 0 ∷ 0 ∷ 0 ∷ 0 ∷ 0 ∷ 0 ∷ 64 ∷ 16 ∷ 0 ∷ 0 ∷ 0 ∷ 0 ∷ 0 ∷ 0 ∷ [] }

holds : WellFormed 0 (curve ∷ bounds-field ∷ []) job
unfolding size_of
holds = field {t = 0} {f = curve} (omega arith) refl (field {t = 1} {f = bounds-field} (omega arith) refl nothing)

abbrev zero : Float
zero = of_bits binary64 0

abbrev one : Float
one = of_bits binary64 0x3ff0_0000_0000_0000

abbrev four : Float
four = of_bits binary64 0x4010_0000_0000_0000

abbrev j : Job
j = let q = default_options.params in record {
  curve = 1;
  options =
      options_with default_options q.epsilon (Bounded (bounds zero four)) q.start default_options.budget
      default_options.limit;
}

says : means_of (curve ∷ bounds-field ∷ []) ≡ value j
unfolding body_under options_of decoded
says = refl

is-job : job_of job ≡ value j
is-job = job_read job (curve ∷ bounds-field ∷ []) j holds says

-- ---- no row refuses it
no_row : Passed (job_rows j)
unfolding table add mul of_int of_bits le lt
no_row = and refl (and refl (and refl (and refl (and refl all))))

-- ---- what its search tells. Of an answer: cost and slope of the curve there, and that they are finite
asked : (c : Curve) (e : ℕ) (k : Report) (x : Float) (then : Float → Float → Rest Report) (f g : Float)
    → value_of c x ≡ f → slope_of c x ≡ g → answer_finite f g ≡ true
    → telling c e (question answer_finite (keeping k) k x then)
    ≡ record { told = asks x; evaluations = e; iterations = iterations_in k } ∷ telling c (e + 1) (then f g)
unfolding telling
asked c e k x then f g cost slope fine = rw (cost, slope, fine)

abbrev six : Float
six = of_bits binary64 0x4018_0000_0000_0000

abbrev nine : Float
nine = of_bits binary64 0x4022_0000_0000_0000

abbrev -two : Float
-two = of_bits binary64 0xc000_0000_0000_0000

-- a, b and c
abbrev low : Point
low = point zero one -two

abbrev high : Point
high = point four nine six

abbrev start : Point
start = point one zero zero

abbrev over : Curve
over = curve_of j

abbrev says_at : Told → ℕ → Said
says_at t e = record { told = t; evaluations = e; iterations = 0 }

-- behind the start
abbrev goes_on : Point → Bracket → Rest Report
goes_on c w = rounds (setup_for j) 100 w c 0

abbrev from-high : Rest Report
from-high = ask_high (setup_for j) (keeping nothing_yet) nothing_yet four low goes_on

abbrev from_start : Rest Report
from_start = ask_start (setup_for j) (keeping nothing_yet) nothing_yet (bracket low high) goes_on

at_low : telling over 0 (hager_zhang (setup_for j)) ≡ says_at (asks zero) 0 ∷ telling over 1 from-high
unfolding hager_zhang_by starting table add mul of_int of_bits
at_low = asked over 0 nothing_yet zero _ one -two refl refl refl

at_high : telling over 1 from-high ≡ says_at (asks four) 1 ∷ telling over 2 from_start
unfolding ask_high table add mul of_int of_bits
at_high = asked over 1 nothing_yet four _ nine six refl refl refl

at-start : telling over 2 from_start ≡ says_at (asks one) 2 ∷ telling over 3 (goes_on start (bracket low high))
unfolding ask_start table add mul of_int of_bits
at-start = asked over 2 nothing_yet one _ zero zero refl refl refl

at-end : telling over 3 (goes_on start (bracket low high)) ≡ says_at (ends (stop wolfe one)) 3 ∷ []
unfolding telling rounds_by verdict decided judge_of best_over table add sub mul neg le lt of_int of_bits
at-end = refl

abbrev four_said : List Said
four_said =
    says_at (asks zero) 0 ∷ says_at (asks four) 1 ∷ says_at (asks one) 2 ∷ says_at (ends (stop wolfe one)) 3 ∷ []

tells : telling over 0 (hager_zhang (setup_for j)) ≡ four_said
tells =
    at_low
    ∙ ap (λ (l : List Said). says_at (asks zero) 0 ∷ l)
    (at_high
    ∙ ap (λ (l : List Said). says_at (asks four) 1 ∷ l)
    (at-start
    ∙ ap (λ (l : List Said). says_at (asks one) 2 ∷ l) at-end))

-- ---- the lines, one after the other
abbrev pub text : List ℕ
text =
    bytes "ASK 0000000000000000\n"
    ++ bytes "ASK 4010000000000000\n"
    ++ bytes "ASK 3FF0000000000000\n"
    ++ bytes "STOP wolfe 3FF0000000000000 evaluations 3 iterations 0\n"

lines : text_of four_said ≡ text
unfolding text_of
lines =
    ap₂ ◌++◌ samples.0
    (ap₂ ◌++◌ samples.1
    (ap₂ ◌++◌ samples.2
    (append-nil _ ∙ samples.3)))

pub sample : output_of job ≡ text
sample =
    ap job_text is-job ∙ ap or_refused (value-given (job_rows j) (search_text j) no_row) ∙ ap text_of tells ∙ lines
