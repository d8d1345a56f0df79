-- A Hager-Zhang search of the machine, along any answers: the state that is reached, what is told, what was asked in
-- the start or the iteration under way, and what is counted. `answer_of` is what `answer` gives, by its contract.
use Rattle.std.specs.Prelude.{ℕ, ◌+◌, ◌≡◌, cond, not, List, [], ◌∷◌, ◌++◌, ltb, Float, Option, Some, None}
use Rattle.refusals.specs.Results.{value}
use Rattle.runs.specs.Outcomes.{Told, told}
use Rattle.runs.specs.Asking.{Reply, Machine, reached, played, told_next, tallied}
use Rattle.hagerzhang_rules.specs.declared.Point.{Point}
use Rattle.hagerzhang_rules.specs.declared.Options.{Options}
use Rattle.hagerzhang_rules.specs.Rules.{point, answer_finite, iterations_in}
use Rattle.hagerzhang_rules.specs.Iterations.{progress, F64s}
use Rattle.hagerzhang.specs.declared.state.Search.{Search}
use Rattle.hagerzhang.specs.Machine.{Turn}
use Rattle.hagerzhang.specs.Machine.{start_of, awaited_of, answer_of}
use Rattle.hagerzhang.specs.Meaning.{report, is_over}

-- t is what `start` gave for the options o, and the cost f0 and slope s0 at step 0. Of a start that grows, f0 and the
-- start step are f64s, as all that is handed to `start` is
pub record Gave (o : Options) (f0 s0 : Float) (t : Turn) : Type 0 where
  pub given : start_of o f0 s0 ≡ value t
  pub f64s : F64s o f0

-- one answer
abbrev pub next : Search → Float → Float → Search
next s f g = (answer_of s f g).search

abbrev pub machine : Machine Search
machine = record { next = next; says = λ s f g. told (answer_of s f g).outcome; over = λ s. is_over s.stage }

-- any answers: the state then, all that was told on the way, and what is told at one more
abbrev pub reached_by : Search → List Reply → Search
reached_by s ys = reached machine s ys

abbrev pub told_by : Search → List Reply → List Told
told_by s ys = played machine s ys

abbrev pub told_after : Search → List Reply → Reply → Told
told_after s ys y = told_next machine s ys y

abbrev pub and_then : List Reply → Reply → List Reply
and_then ys y = ys ++ (y ∷ [])

-- "the finite answers accepted", and those that were given while it asked and were not finite
abbrev pub finite_by : Search → List Reply → ℕ
finite_by s ys = tallied machine answer_finite s ys

abbrev pub not_finite_by : Search → List Reply → ℕ
not_finite_by s ys = tallied machine (λ f g. not (answer_finite f g)) s ys

-- the points asked in the start or the iteration under way, with their answers, newest first: an answer that brings the
-- report further finishes it, and the next begins with nothing asked
abbrev pub note : Option Float → Reply → List Point → List Point
note (Some x) y asked = point x y.0 y.1 ∷ asked
note None y asked = asked

abbrev pub note_by : Search → Reply → List Point → List Point
note_by s y asked = note (awaited_of s) y asked

unfoldable pub asked_from : List Point → Search → List Reply → List Point
asked_from asked s [] = asked
asked_from asked s (y ∷ ys) =
    let s' = next s y.0 y.1 in
    asked_from (cond (ltb (progress (report s)) (progress (report s'))) [] (note_by s y asked)) s' ys

abbrev pub points_asked : Search → List Reply → List Point
points_asked s ys = asked_from [] s ys

-- and with the answer that may finish it
abbrev pub asked_at : Search → List Reply → Reply → List Point
asked_at s ys y = note_by (reached_by s ys) y (points_asked s ys)

-- how many of the answers finish an iteration: then one more is reported
unfoldable pub finished_by : Search → List Reply → ℕ
finished_by s [] = 0
finished_by s (y ∷ ys) =
    let s' = next s y.0 y.1 in
    cond (ltb (iterations_in (report s)) (iterations_in (report s'))) 1 0 + finished_by s' ys
