-- 02, request 4, of the machine (specs/ZeroSlope.antt): it follows the rules at any answers (demand 2), and they go as
-- the former ones do, or part from them (hagerzhang_rules/proofs/ZeroSlope.antt). Assumes nothing.
use mathlib.Core.Path.{◌∙◌}
use mathlib.Core.List.{List}
use mathlib.Core.Logic.{inl, inr}
use lib.Ieee.{Float}
use Rattle.runs.specs.Asking.{Reply}
use Rattle.hagerzhang_rules.specs.declared.Options.{Options}
use Rattle.hagerzhang_rules.specs.Parameters.{setup_of}
use Rattle.hagerzhang_rules.specs.Rules.{hager_zhang}
use Rattle.hagerzhang_rules.specs.ZeroSlope.{formerly, Alike}
use Rattle.hagerzhang_rules.proofs.ZeroSlope.{zero-slope as of-rules}
use Rattle.hagerzhang.specs.Machine.{Turn}
use Rattle.demands.specs.Runs.{Gave}
use Rattle.demands.specs.ZeroSlope.{AsBefore, ZeroSlope}
use Rattle.demands.proofs.Demand2.{demand2}

as_before : (o : Options) (f0 s0 : Float) (t : Turn) → Gave o f0 s0 t → (ys : List Reply)
    → Alike (hager_zhang (setup_of o f0 s0)) (formerly (setup_of o f0 s0)) ys → AsBefore (setup_of o f0 s0) t ys
as_before o f0 s0 t gave ys same =
    let rules = demand2.search-given o f0 s0 t gave in
    record {
      tells = rules.outcomes-are-rules ys ∙ same.tells;
      holds = rules.report-is-rules ys ∙ same.reports;
      expects = rules.awaited-is-rules ys ∙ same.expects;
    }

pub zero-slope : ZeroSlope
zero-slope = record {
  served-as-before = λ o f0 s0 t gave ys.
      elim (of-rules.served-as-before (setup_of o f0 s0) ys)
      [ inl same ↦ inl (as_before o f0 s0 t gave ys same) | inr parts ↦ inr parts ];
}
