-- 02, request 14, "How fast the bracket closes", of every search that `start` gave, of either way, and every list of
-- answers: where the answer y after ys counts one more iteration, it finishes one. p is reported before it, and q
-- after. The words and the claim over the rules stand in hagerzhang_rules/specs, Closing.antt and HowFast.antt, with
-- sums in HowFastSums.antt. No slope premise.
use Rattle.std.specs.Prelude.{◌+◌, ◌≡◌, List, Float}
use Rattle.runs.specs.Asking.{Reply}
use Rattle.hagerzhang_rules.specs.declared.Options.{Options}
use Rattle.hagerzhang_rules.specs.Parameters.{setup_of}
use Rattle.hagerzhang_rules.specs.Rules.{Summary, last}
use Rattle.hagerzhang_rules.specs.HowFast.{Guarantees}
use Rattle.hagerzhang.specs.Machine.{Turn}
use Rattle.hagerzhang.specs.Meaning.{report}
use Rattle.demands.specs.Runs.{Gave, reached_by, and_then, asked_at}

pub record HowFast : Type 0 where
  pub each-iteration : (o : Options) (f0 s0 : Float) (t : Turn) → Gave o f0 s0 t
      → (ys : List Reply) (y : Reply) (p q : Summary)
      → report (reached_by t.search ys) ≡ last p
      → report (reached_by t.search (and_then ys y)) ≡ last q
      → q.iterations ≡ p.iterations + 1
      → Guarantees (setup_of o f0 s0) p (asked_at t.search ys y) q
