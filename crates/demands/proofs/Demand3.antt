-- Demand 3 of every Hager-Zhang search that `start` gave: its bracket, its bounds and its counts (`demand3`). From the
-- rules (hagerzhang_rules/proofs/Demand3.antt), which the machine tells, holds and counts. Assumes nothing.
use mathlib.Core.Path.{◌≡◌, refl, sym, ap, ◌∙◌, subst}
use mathlib.Core.List.{List, ◌∷◌}
use native.Mathlib.Omega.{arith}
use lib.Ieee.{Float}
use Rattle.runs.specs.Outcomes.{Ending, stop, limit, refusal, Why, numbered}
use Rattle.runs.proofs.Tied.{ends-in-time, finite-bounded, finite-counted, not-finite-once}
use Rattle.hagerzhang_rules.specs.declared.Point.{Point}
use Rattle.hagerzhang_rules.specs.declared.Options.{Options}
use Rattle.hagerzhang_rules.specs.declared.Setup.{Setup}
use Rattle.hagerzhang_rules.specs.Parameters.{setup_of}
use Rattle.hagerzhang_rules.specs.Rules.{Report, iterations_in}
use Rattle.hagerzhang_rules.specs.Iterations.{EndedBecause, by-limit}
use Rattle.hagerzhang_rules.proofs.Ranges.{Accepted, most-answers}
use Rattle.hagerzhang_rules.proofs.Demand3 as rules
use Rattle.hagerzhang.specs.declared.state.Search.{Search}
use Rattle.hagerzhang.specs.Machine.{Turn}
use Rattle.hagerzhang.specs.Machine.{fresh_of}
use Rattle.demands.specs.Runs.{Gave}
use Rattle.demands.specs.Demand1.{Reason}
use Rattle.demands.specs.Demand3.{AtLimit, Bounded, Demand3}
use Rattle.demands.proofs.Refused.{fresh-refused}
use Rattle.demands.proofs.Along.{accepted, tied, report-at, report-next, asked_by, asked-at, finished-at}

-- ---- an ending by the limit is at the N-th iteration
told-limit : (e : Ending Why) (x : Float) → numbered e ≡ limit x → e ≡ limit x
told-limit (stop w y) x q = cc
told-limit (limit y) x q = cc
told-limit (refusal why) x q = cc

reached : {s : Setup} {k : Report} {asked : List Point} {x : Float} → EndedBecause s k asked (limit x)
    → AtLimit s.options.limit x k
reached (by-limit {p = p} fails n) = record { p = p; holds = refl; iterations = n; best = refl }

limit-reached : {s : Setup} {k : Report} {asked : List Point} {x : Float} → Reason s k asked (limit x)
    → AtLimit s.options.limit x k
limit-reached {s} {k} {asked} {x} r =
    reached (subst (EndedBecause s k asked) (told-limit r.reason x r.told-as) r.true_of)

-- ---- a start that no row refuses
module _ (o : Options) (f0 s0 : Float) (ok : Accepted o f0 s0) where
  abbrev s : Setup
  s = setup_of o f0 s0

  abbrev t : Turn
  t = fresh_of s

  abbrev b : Search
  b = t.search

  of-fresh : Bounded o f0 s0 t
  of-fresh = record {
    bracket-ordered = λ ys p e. rules.bracket-ordered o f0 s0 ok ys p (sym (report-at o f0 s0 ok ys) ∙ e);
    bracket-stays = λ ends is ya yb yc ys three p e.
        rules.bracket-stays o f0 s0 ok ends is ya yb yc three ys p
        (sym (report-at o f0 s0 ok (ya ∷ yb ∷ yc ∷ ys)) ∙ e);
    bracket-holds = λ K is ys p e. rules.bracket-holds o f0 s0 ok K is ys p (sym (report-at o f0 s0 ok ys) ∙ e);
    each-iteration = λ ys y p q e e' n.
        rw (asked-at o f0 s0 ok ys y)
        (rules.each-iteration o f0 s0 ok ys y p q (sym (report-at o f0 s0 ok ys) ∙ e)
        (sym (report-next o f0 s0 ok ys y) ∙ e') n);
    iteration-bounded = λ ys p e.
        rw (asked_by o f0 s0 ok ys) (rw (sym (report-at o f0 s0 ok ys) ∙ e) at (rules.part-bounded o f0 s0 ok ys));
    start-bounded = λ ys e.
        rw (asked_by o f0 s0 ok ys) (rw (sym (report-at o f0 s0 ok ys) ∙ e) at (rules.part-bounded o f0 s0 ok ys));
    search-ends = λ ys many. ends-in-time (tied o f0 s0 ok) ys (omega arith);
    evaluations-counted = finite-counted (tied o f0 s0 ok);
    evaluations-bounded = λ ys. let few = finite-bounded (tied o f0 s0 ok) ys in omega arith;
    always-bounded = let most = most-answers o f0 s0 ok in omega arith;
    each-answer = λ ys y.
        rw (asked-at o f0 s0 ok ys y, report-at o f0 s0 ok ys, report-next o f0 s0 ok ys y)
        (rules.each-answer o f0 s0 ok ys y);
    iterations-counted = λ ys.
        ap iterations_in (report-at o f0 s0 ok ys) ∙ rules.iterations-counted o f0 s0 ok ys
        ∙ sym (finished-at o f0 s0 ok ys);
    iterations-bounded = λ ys. rw (report-at o f0 s0 ok ys) (rules.iterations-bounded o f0 s0 ok ys);
    at-limit = λ ys y x e. limit-reached ((fresh-refused o f0 s0 ok).ended ys y (limit x) e);
    non-finite-once = not-finite-once (tied o f0 s0 ok);
  }

-- ---- every search that `start` gave
pub bounded : (o : Options) (f0 s0 : Float) (t : Turn) → Gave o f0 s0 t → Bounded o f0 s0 t
bounded o f0 s0 t gave =
    let is = accepted o f0 s0 t gave in
    subst (Bounded o f0 s0) is.1 (of-fresh o f0 s0 is.0)

pub demand3 : Demand3
demand3 = record { search-given = bounded }
