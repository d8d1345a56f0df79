-- 02, request 14, of the machine (specs/HowFast.antt): each finished iteration is the rules' own (demand 3), of which
-- it is shown (hagerzhang_rules/proofs/HowFast.antt). Assumes nothing.
use Rattle.hagerzhang_rules.proofs.HowFast.{guaranteed}
use Rattle.demands.specs.HowFast.{HowFast}
use Rattle.demands.proofs.Demand3.{bounded}

pub how-fast : HowFast
how-fast = record {
  each-iteration = λ o f0 s0 t gave ys y p q e e' n.
      guaranteed ((bounded o f0 s0 t gave).each-iteration ys y p q e e' n);
}
