-- The way of an answer in an iteration: what it comes to, and what follows. Bookkeeping.
use Rattle.std.specs.Prelude.{ℕ, Float, Option, None, Some}
use Rattle.runs.specs.Counters.{one_more, iterations}
use Rattle.hagerzhang_rules.specs.declared.Bracket.{Bracket}
use Rattle.hagerzhang_rules.specs.declared.Setup.{Setup}
use Rattle.hagerzhang_rules.specs.declared.Came.{Came}
use Rattle.hagerzhang_rules.specs.declared.Came.TheVariants.{To, On}
use Rattle.hagerzhang_steps.specs.declared.state.Finished.{Finished}
use Rattle.hagerzhang_steps.specs.declared.state.Rule.{Rule}
use Rattle.hagerzhang_steps.specs.declared.state.Rule.TheVariants.{S1 as ByS1, S4 as ByS4, L2 as ByL2}
use Rattle.hagerzhang_steps.specs.declared.state.Trial.{Trial}
use Rattle.hagerzhang_steps.specs.declared.state.Asked.{Asked}
use Rattle.hagerzhang_steps.specs.declared.state.Asked.TheVariants.{Update, Between}
use Rattle.hagerzhang_steps.specs.declared.moves.Move.TheVariants.{Narrow}
use Rattle.hagerzhang_steps.specs.declared.iteration.Then.{Then}
use Rattle.hagerzhang_steps.specs.declared.iteration.Then.TheVariants.{Go, Close}
use Rattle.hagerzhang_steps.specs.declared.state.Next.{Next}
use Rattle.hagerzhang_rules.specs.Rules.{point, narrowed_of, S4, L2}
use Rattle.hagerzhang_decisions.specs.Decisions.{updated_of}
use Rattle.hagerzhang_steps.specs.Moves.{tries_of, made_of, settled_of}

unfoldable pub comes_of : Float → Trial → Asked → Float → Float → Came
comes_of L t (Update w) f g = updated_of L w (point t.x f g)
comes_of L t (Between e) f g = narrowed_of L e.h e.k (point e.d f g)

unfoldable pub left_of : ℕ → Asked → ℕ
left_of budget (Update w) = budget
left_of budget (Between e) = e.left

unfoldable pub tried_by : Bracket → Rule → Then → Option Float → Then
tried_by u rule otherwise (Some x) = Go (tries_of u rule x)
tried_by u rule otherwise None = otherwise

abbrev pub after_s4_of : Float → Bracket → Bracket → Then
after_s4_of gamma w v = tried_by v ByL2 (Close v) (L2 gamma w v)

abbrev pub after_s1_of : Float → Bracket → Float → Bracket → Then
after_s1_of gamma w c u = tried_by u ByS4 (after_s4_of gamma w u) (S4 w c u)

unfoldable pub follow_by : Float → Bracket → Float → Bracket → Rule → Then
follow_by gamma w c u ByS1 = after_s1_of gamma w c u
follow_by gamma w c u ByS4 = after_s4_of gamma w u
follow_by gamma w c u ByL2 = Close u

abbrev pub follow_of : Float → Bracket → Trial → Bracket → Then
follow_of gamma w t u = follow_by gamma w t.x u t.rule

unfoldable pub onward_of : Float → Bracket → Trial → ℕ → Came → Then
onward_of gamma w t left (To u) = follow_of gamma w t u
onward_of gamma w t left (On h k) = Go (Narrow t h k left)

unfoldable pub went_of : Setup → Finished → Then → Next
went_of s last (Go m) = made_of s.options.params.theta last m
went_of s last (Close u) = settled_of s u last.c (iterations (one_more last.iterations.0))

-- what an answer in an iteration leads to
abbrev pub then_of : Setup → Finished → Trial → Asked → Float → Float → Then
then_of s last t asked f g =
    onward_of s.options.params.gamma last.bracket t (left_of s.options.budget asked)
    (comes_of s.level t asked f g)

abbrev pub running_of : Setup → Finished → Trial → Asked → Float → Float → Next
running_of s last t asked f g = went_of s last (then_of s last t asked f g)
