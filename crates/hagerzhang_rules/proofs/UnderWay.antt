-- What a run has asked in the iteration under way, and how many iterations it has finished, for proofs. (The machine's
-- are `points_asked` and `finished_by`, demands/specs/Runs.antt; demands/proofs/Along.antt says that they are the
-- same.)
use Prim.Native.Nat.{ℕ, ◌+◌}
use mathlib.Core.Bool.{Bool, cond}
use mathlib.Core.List.{List, [], ◌∷◌}
use lib.Dec.{ltb}
use Rattle.runs.specs.Asking.{ask, end, Rest, Reply, respond, reported}
use Rattle.hagerzhang_rules.specs.declared.Point.{Point}
use Rattle.hagerzhang_rules.specs.Rules.{point, Report, iterations_in}
use Rattle.hagerzhang_rules.specs.Iterations.{progress}

-- the points asked, with their answers, newest first
abbrev pub noted : Rest Report → Reply → List Point → List Point
noted (ask k x then) y asked = point x y.0 y.1 ∷ asked
noted (end o) y asked = asked

-- an answer that brings the report further, from k to l, finishes what was under way, and the next iteration begins
-- with nothing asked
abbrev pub since : Report → List Point → Report → List Point
since k asked l = cond (ltb (progress k) (progress l)) [] asked

abbrev pub kept : Rest Report → Reply → List Point → List Point
kept r y asked = since (reported r) (noted r y asked) (reported (respond r y.0 y.1))

-- those of the start or the iteration under way, after the answers
unfoldable pub under-way : List Point → Rest Report → List Reply → List Point
under-way asked r [] = asked
under-way asked r (y ∷ ys) = under-way (kept r y asked) (respond r y.0 y.1) ys

-- how many of the answers finish an iteration: then the report counts it
abbrev pub finishes : Rest Report → Reply → Bool
finishes r y = ltb (iterations_in (reported r)) (iterations_in (reported (respond r y.0 y.1)))

unfoldable pub finished-by : Rest Report → List Reply → ℕ
finished-by r [] = 0
finished-by r (y ∷ ys) = cond (finishes r y) 1 0 + finished-by (respond r y.0 y.1) ys
