-- 02, request 3: "The best's c is the first trial": behind a start that grows every best that is reported is 01's best
-- of the reported bracket and the first trial (`best-of-first`), by one pass through the flow that looks at reports
-- alone. Assumes nothing.
use mathlib.Core.Path.{◌≡◌, refl, sym, subst}
use mathlib.Core.List.{List, [], ◌∷◌}
use Prim.Native.Nat.{ℕ, zero, suc, ◌+◌}
use lib.Ieee.{Float}
use Rattle.floats.proofs.Branches.{by_cases}
use Rattle.runs.specs.Asking.{ask, end, Rest, Ended, keeping, Reply, respond, reported, after}
use Rattle.hagerzhang_rules.specs.declared.Point.{Point}
use Rattle.hagerzhang_rules.specs.declared.Bracket.{Bracket}
use Rattle.hagerzhang_rules.specs.declared.Way.{Way}
use Rattle.hagerzhang_rules.specs.declared.Way.TheVariants.{Growing}
use Rattle.hagerzhang_rules.specs.declared.Setup.{Setup}
use Rattle.std.specs.Prelude.{Option, Some, None}
use Rattle.hagerzhang_rules.proofs.Passes as passes
use Rattle.hagerzhang_rules.specs.Rules.{point, answer_finite, zero_of, grown_of, S4, L2, best_of, judge_of, further}
use Rattle.hagerzhang_rules.specs.Rules.{after_s4, iteration, iteration_by, growth, starting, Summary, Report}
use Rattle.hagerzhang_rules.specs.Rules.{nothing_yet, last, report_of, decided, verdict, rounds, rounds_by, hager_zhang}
use Rattle.hagerzhang_rules.specs.Rules.{hager_zhang_by}
use Rattle.runs.specs.declared.Verdict.{Verdict}
use Rattle.hagerzhang_rules.specs.declared.Came.{Came}

-- ---- whatever a run reports is P
data Reports (P : Report → Type 0) : Rest Report → Type 0 where
  waits : {k : Report} {x : Float} {then : Float → Float → Rest Report} → P k
      → ((f g : Float) → Reports P (then f g)) → Reports P (ask k x then)
  over : {o : Ended Report} → P o.keeps → Reports P (end o)

reports-along : (P : Report → Type 0) (ys : List Reply) (r : Rest Report) → Reports P r → P (reported (after r ys))
unfolding after respond reported
reports-along P [] r (waits p go) = p
reports-along P [] r (over p) = p
reports-along P (y ∷ ys) r (waits p go) = reports-along P ys _ (go y.0 y.1)
reports-along P (y ∷ ys) r (over p) = reports-along P ys _ (over p)

-- ---- through the flow, where k is reported meanwhile, and whatever comes behind reports P
module _ (P : Report → Type 0) (s : Setup) (k : Report) (here : P k) where
  -- of one run
  abbrev Q : (Unit {0} → Rest Report) → Type 0
  Q r = Reports P (r tt)

  iterates : (w : Bracket) (then : Bracket → Bracket → Rest Report) → ((z v : Bracket) → Reports P (then z v))
      → Reports P (iteration s (keeping k) k w then)
  unfolding iteration_by after_s4
  iterates w then go =
      passes.through-S1 s (keeping k) k Q (λ why. over here) (λ x then go. waits here go) w
      (λ i c u. further s (keeping k) k (S4 w c.x u) u (λ v. after_s4 s (keeping k) k w v (then v))) (λ c u kept.
      passes.goes-on-further s (keeping k) k Q (λ why. over here) (λ x then go. waits here go) (S4 w c.x u) u
      (L2 s.options.params.gamma w) (λ i. then) go)

  grows : (n : ℕ) (t : Point) (grown : Option Came) (then : Bracket → Rest Report)
      → ((u : Bracket) → Reports P (then u)) → Reports P (growth s (keeping k) k n t grown then)
  grows n t grown then go =
      passes.grows s (keeping k) k Q (λ why. over here) (λ x then go. waits here go) n t grown (λ i. then) go

-- ---- the best is that of the bracket and c
abbrev OfC : Point → Report → Type 0
OfC c nothing_yet = Unit {0}
OfC c (last p) = p.best ≡ best_of p.bracket.a p.bracket.b c

decided-of : {P : Report → Type 0} (k : Report) (x : Float) (go : Rest Report) (j : Option Verdict) → P k → Reports P go
    → Reports P (decided k x go j)
unfolding decided
decided-of k x go (Some v) here more = over here
decided-of k x go None here more = more

module _ (s : Setup) where
  rounds-of : (n : ℕ) (w : Bracket) (c : Point) (i : ℕ) → Reports (OfC c) (rounds s n w c i)
  unfolding rounds_by verdict
  rounds-of zero w c i = decided-of (report_of s w c i) _ _ (judge_of s (best_of w.a w.b c)) refl (over refl)
  rounds-of (suc n) w c i =
      decided-of (report_of s w c i) _ _ (judge_of s (best_of w.a w.b c)) refl
      (iterates (OfC c) s (report_of s w c i) refl w _ (λ z v. rounds-of n v c (i + 1)))

  first-answered : (K : ℕ) (y : Reply)
      → Reports (OfC (point s.options.params.start y.0 y.1))
      (respond (starting s (keeping nothing_yet) nothing_yet (Growing K) (λ c w. rounds s s.options.limit w c 0))
      y.0 y.1)
  unfolding starting respond
  first-answered K y =
      let c = point s.options.params.start y.0 y.1 in
      by_cases (Reports (OfC c)) (answer_finite y.0 y.1)
      (λ e. grows (OfC c) s nothing_yet tt K c (grown_of s.level (zero_of s) (zero_of s) c) _
      (λ w. rounds-of s.options.limit w c 0))
      (λ e. over tt)

  pub best-of-first : (K : ℕ) → s.options.way ≡ Growing K → (y : Reply) (ys : List Reply) (p : Summary)
      → reported (after (hager_zhang s) (y ∷ ys)) ≡ last p
      → p.best ≡ best_of p.bracket.a p.bracket.b (point s.options.params.start y.0 y.1)
  unfolding after hager_zhang_by
  best-of-first K is y ys p e =
      let c = point s.options.params.start y.0 y.1 in
      let from : Way → Rest Report =
      λ w. respond (starting s (keeping nothing_yet) nothing_yet w (λ c w. rounds s s.options.limit w c 0)) y.0 y.1 in
      subst (OfC c) e
      (reports-along (OfC c) ys (from s.options.way)
      (subst (λ (w : Way). Reports (OfC c) (from w)) (sym is) (first-answered K y)))
