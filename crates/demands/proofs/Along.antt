-- Hager-Zhang's machine along any answers is the rules' search, for a start that no row refuses (`tied`): what it
-- tells, holds and awaits, what was asked in the iteration under way, and what is counted. From one answer
-- (hagerzhang/proofs/Bridge.antt) to any list (runs/proofs/Tied.antt). Assumes nothing.
use mathlib.Core.Path.{◌≡◌, refl, sym, ap, ap₂, ◌∙◌}
use mathlib.Core.Bool.{cond}
use mathlib.Core.List.{List, [], ◌∷◌}
use Rattle.std.specs.Prelude.{Option}
use Prim.Native.Nat.{ℕ, ◌+◌, ◌*◌, ◌≤◌}
use native.Mathlib.Omega.{arith}
use lib.Dec.{ltb}
use lib.Ieee.{Float}
use Rattle.floats.proofs.Order.{finite→real}
use Rattle.refusals.proofs.Refusals.{passed}
use Rattle.runs.specs.Asking.{Rest, ask, end, Reply, respond, shown, reported, awaits, is_over as over, after}
use Rattle.runs.proofs.Tied.{Tied, Stands, after-one-more, begins, stands_at}
use Rattle.runs.proofs.Tied as machines
use Rattle.hagerzhang_rules.specs.declared.Point.{Point}
use Rattle.hagerzhang_rules.specs.declared.Options.{Options}
use Rattle.hagerzhang_rules.specs.declared.Setup.{Setup}
use Rattle.hagerzhang_rules.specs.Parameters.{setup_of, start_rows}
use Rattle.hagerzhang_rules.specs.Rules.{answer_finite, Report, hager_zhang}
use Rattle.hagerzhang_rules.specs.Iterations.{progress, most_in_start, most_in_iteration}
use Rattle.hagerzhang_rules.proofs.UnderWay.{noted, kept, under-way, finished-by}
use Rattle.hagerzhang_rules.proofs.Ranges.{Accepted, ever, limit-fits, level-finite, most-answers}
use Rattle.hagerzhang_rules.proofs.EndsInTime.{search-within}
use Rattle.hagerzhang_steps.specs.declared.state.Stage.{Stage}
use Rattle.hagerzhang_steps.specs.declared.state.Stage.TheVariants.{Open, Over}
use Rattle.hagerzhang.specs.declared.state.Search.{Search}
use Rattle.hagerzhang.specs.Machine.{Turn}
use Rattle.hagerzhang.specs.Machine.{awaited_of, answer_of, fresh_of}
use Rattle.hagerzhang.specs.Meaning.{report, is_over, meaning, meant, Follows}
use Rattle.hagerzhang.proofs.Bridge.{follows, begins-whole}
use Rattle.hagerzhang.proofs.Answering.{setup-kept, reports, awaited}
use Rattle.demands.specs.Runs.{Gave, next, machine, reached_by, told_after, and_then}
use Rattle.demands.specs.Runs.{note, note_by, asked_from, points_asked, asked_at, finished_by}
use Rattle.demands.proofs.Answered.{answered}

pub over-is : (s : Setup) (stage : Stage) → over (meaning s stage) ≡ is_over stage
unfolding meaning over
over-is s (Open waiting) = refl
over-is s (Over kept) = refl

noted-awaits : (r : Rest Report) (y : Reply) (asked : List Point) → noted r y asked ≡ note (awaits r) y asked
unfolding awaits
noted-awaits (ask k x then) y asked = refl
noted-awaits (end o) y asked = refl

-- ---- a start that no row refuses
module _ (o : Options) (f0 s0 : Float) (ok : Accepted o f0 s0) where
  abbrev s : Setup
  s = setup_of o f0 s0

  abbrev b : Search
  b = (fresh_of s).search

  pub step : (c : Search) → c.setup ≡ s → (f g : Float) → Follows c f g (answer_of c f g)
  step c e f g =
      let l : o.limit ≤ 10000 = limit-fits o f0 s0 ok in
      follows c (rw e (omega arith)) (rw e (finite→real s.level (level-finite o f0 s0 ok))) f g _ refl

  abbrev pub tied : Tied machine Report
  tied = record {
    meant = meant;
    Fit = λ c. c.setup ≡ s;
    fit_next = λ c e f g. setup-kept c f g c.stage ∙ e;
    leaves = λ c e f g. (step c e f g).leaves;
    tells = λ c e f g. (step c e f g).tells;
    over-is = λ c. sym (over-is c.setup c.stage);
    finite = answer_finite;
    counted = λ c. c.evaluations.0;
    counts = λ c e f g. (answered c f g (answer_of c f g) refl).counts;
    first = b;
    first_fits = refl;
    none-counted = refl;
    rules = hager_zhang s;
    whole = begins-whole s;
    most = most_in_start o + o.limit * most_in_iteration o;
    within = search-within o f0 s0 ok;
    countable = let most = most-answers o f0 s0 ok in let all = ever o.way in omega arith;
  }

  pub told_at : (ys : List Reply) (y : Reply) → told_after b ys y ≡ shown (respond (after (hager_zhang s) ys) y.0 y.1)
  told_at = machines.told_at tied

  -- what a state that has come as far as r holds, and awaits
  holds : (c : Search) (r : Rest Report) → Stands tied c r → report c ≡ reported r
  holds c r w = sym (reports c.setup c.stage) ∙ machines.reports tied c r w

  due : (c : Search) (r : Rest Report) → Stands tied c r → awaited_of c ≡ awaits r
  due c r w = sym (awaited c.setup c.stage) ∙ machines.awaiting tied c r w

  pub report-at : (ys : List Reply) → report (reached_by b ys) ≡ reported (after (hager_zhang s) ys)
  report-at ys = holds _ _ (stands_at tied ys)

  pub awaited-at : (ys : List Reply) → awaited_of (reached_by b ys) ≡ awaits (after (hager_zhang s) ys)
  awaited-at ys = due _ _ (stands_at tied ys)

  pub report-next : (ys : List Reply) (y : Reply)
      → report (reached_by b (and_then ys y)) ≡ reported (respond (after (hager_zhang s) ys) y.0 y.1)
  report-next ys y = report-at (and_then ys y) ∙ ap reported (after-one-more (hager_zhang s) ys y)

  -- what was asked in the iteration under way
  asked_is : (asked : List Point) (c : Search) (r : Rest Report) → Stands tied c r → (ys : List Reply)
      → asked_from asked c ys ≡ under-way asked r ys
  unfolding asked_from under-way
  asked_is asked c r w [] = refl
  asked_is asked c r w (y ∷ ys) =
      let c' = next c y.0 y.1 in
      let w' = machines.goes tied c r w y.0 y.1 in
      let same : cond (ltb (progress (report c)) (progress (report c'))) [] (note_by c y asked) ≡ kept r y asked =
      rw (holds c r w, holds c' _ w', due c r w, ← noted-awaits r y asked) in
      rw same (asked_is (kept r y asked) c' _ w' ys)

  pub asked_by : (ys : List Reply) → points_asked b ys ≡ under-way [] (hager_zhang s) ys
  asked_by ys = asked_is [] b (hager_zhang s) (begins tied) ys

  pub asked-at : (ys : List Reply) (y : Reply)
      → asked_at b ys y ≡ noted (after (hager_zhang s) ys) y (under-way [] (hager_zhang s) ys)
  asked-at ys y =
      ap₂ (λ (d : Option Float) (asked : List Point). note d y asked) (awaited-at ys) (asked_by ys)
      ∙ sym (noted-awaits (after (hager_zhang s) ys) y (under-way [] (hager_zhang s) ys))

  -- and how many of the answers finished one
  finished-is : (c : Search) (r : Rest Report) → Stands tied c r → (ys : List Reply)
      → finished_by c ys ≡ finished-by r ys
  unfolding finished_by finished-by
  finished-is c r w [] = refl
  finished-is c r w (y ∷ ys) =
      let c' = next c y.0 y.1 in
      let w' = machines.goes tied c r w y.0 y.1 in
      ap₂ (λ (k l : ℕ). k + l) (rw (holds c r w, holds c' _ w')) (finished-is c' _ w' ys)

  pub finished-at : (ys : List Reply) → finished_by b ys ≡ finished-by (hager_zhang s) ys
  finished-at ys = finished-is b (hager_zhang s) (begins tied) ys

-- what `start` gave is a fresh search of a start that is accepted
pub accepted : (o : Options) (f0 s0 : Float) (t : Turn) → Gave o f0 s0 t
    → Accepted o f0 s0 × (fresh_of (setup_of o f0 s0) ≡ t)
accepted o f0 s0 t gave =
    let is = passed (start_rows o f0 s0) (fresh_of (setup_of o f0 s0)) t gave.given in
    (record { passed = is.0; f64s = gave.f64s }, is.1)
