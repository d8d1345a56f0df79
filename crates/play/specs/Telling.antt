-- What a search over a curve tells, by 01's rules alone: each step that it asks is answered with the curve's cost and
-- slope there, until it ends.
use Rattle.std.specs.Prelude.{ℕ, ◌+◌, cond, List, [], ◌∷◌, ◌++◌}
use Rattle.runs.specs.Outcomes.{Told, asks, ends, numbered}
use Rattle.runs.specs.Asking.{Rest, ask, end}
use Rattle.hagerzhang_rules.specs.Rules.{answer_finite, Report, iterations_in}
use Rattle.curves.specs.declared.Curve.{Curve}
use Rattle.curves.specs.Curves.{value_of, slope_of}
use Rattle.lines.specs.Lines.{outcome_line}

-- an outcome, with "best step and both counts as above"
pub record Said : Type 0 where
  pub told : Told
  pub evaluations : ℕ
  pub iterations : ℕ

-- from e evaluations on. 01: "Evaluations count every finite answer accepted"
unfoldable pub telling : Curve → ℕ → Rest Report → List Said
telling c e (ask k x then) =
    record { told = asks x; evaluations = e; iterations = iterations_in k }
    ∷ telling c (e + cond (answer_finite (value_of c x) (slope_of c x)) 1 0) (then (value_of c x) (slope_of c x))
telling c e (end o) =
    record { told = ends (numbered o.by); evaluations = e; iterations = iterations_in o.keeps } ∷ []

-- the lines
abbrev pub said_line : Said → List ℕ
said_line s = outcome_line s.told s.evaluations s.iterations

unfoldable pub text_of : List Said → List ℕ
text_of [] = []
text_of (s ∷ more) = said_line s ++ text_of more
