-- Every Hager-Zhang search that `start` gave ends for a reason that is true of its numbers; where U3 goes on it tells
-- 6, 5, 7 or its next step exactly when 01 says so; where a start goes on growing it tells 11, 5 or its next step
-- exactly when 02 says so; and every step that it asks is finite, in U3 strictly between its ends (`refused-rightly`).
-- From the rules (hagerzhang_rules/proofs/Demand3.antt). Assumes nothing.
use mathlib.Core.Path.{◌≡◌, refl, sym, ap, ◌∙◌, subst}
use mathlib.Core.Bool.{true, false, ◌&&◌}
use mathlib.Core.List.{List, [], ◌∷◌}
use Rattle.std.specs.Prelude.{Option, Some, None}
use Rattle.std.proofs.lemmas.Option.{none-some}
use Prim.Native.Nat.{ℕ}
use native.Mathlib.Omega.{arith}
use lib.Dec.{eqb}
use lib.ListN.{length}
use lib.Ieee.{Float}
use lib.Ieee.Scale.{finite}
use borrow.Author.Tests.{eq-eqb, ne_eqb}
use Rattle.floats.specs.Arithmetic.{◌<ᶠ◌}
use Rattle.runs.specs.Outcomes.{Ending, refusal, Why, numbered, Told, asks, ends}
use Rattle.runs.specs.Asking.{Rest, ask, end, Reply, shown, reported, after}
use Rattle.refusals.specs.Refusals.{given}
use Rattle.runs.specs.Outcomes.{refusal_in}
use Rattle.runs.proofs.Apart.{asks-not-ends, same_end}
use Rattle.hagerzhang_rules.specs.declared.Point.{Point}
use Rattle.hagerzhang_rules.specs.declared.Bounds.{Bounds}
use Rattle.hagerzhang_rules.specs.declared.Way.{Way}
use Rattle.hagerzhang_rules.specs.declared.Way.TheVariants.{Bounded, Growing}
use Rattle.hagerzhang_rules.specs.declared.Came.{Came}
use Rattle.hagerzhang_rules.specs.declared.Came.TheVariants.{On}
use Rattle.hagerzhang_rules.specs.declared.Options.{Options}
use Rattle.hagerzhang_rules.specs.declared.Setup.{Setup}
use Rattle.hagerzhang_rules.specs.Parameters.{setup_of}
use Rattle.hagerzhang_rules.specs.Rules.{answer_finite, Report, nothing_yet, hager_zhang}
use Rattle.hagerzhang_rules.specs.Iterations.{earlier_of, tried, led, standing, had, InU3, AskedBecause, of-bounds}
use Rattle.hagerzhang_rules.specs.Iterations.{as_first, as-longer}
use Rattle.hagerzhang_rules.specs.Iterations.{as-trial, inside, EndedBecause, by-verdict, by-limit, not_finite}
use Rattle.hagerzhang_rules.specs.Iterations.{trial-not-finite, growth-not-finite, U3-not-finite, budget-spent}
use Rattle.hagerzhang_rules.specs.Iterations.{not-between, growths-spent, already}
use Rattle.hagerzhang_rules.proofs.Apart.{to-not-on, not-both}
use Rattle.hagerzhang_rules.proofs.Ranges.{Accepted}
use Rattle.hagerzhang_rules.proofs.UnderWay.{under-way}
use Rattle.hagerzhang_rules.proofs.EndsInTime.{search-reports}
use Rattle.hagerzhang_rules.proofs.Demand3 as rules
use Rattle.hagerzhang.specs.Machine.{Turn}
use Rattle.hagerzhang.specs.Machine.{answer_of, fresh_of}
use Rattle.hagerzhang.specs.Meaning.{is_over, OfTheStep}
use Rattle.hagerzhang.proofs.Bridge.{first-asked}
use Rattle.demands.specs.Runs.{Gave, reached_by, told_after, and_then}
use Rattle.demands.specs.Demand1.{Reason, told_in_u3, told_too_short, RefusedRightly}
use Rattle.runs.proofs.Tied.{after-one-more}
use Rattle.demands.proofs.Along.{accepted, report-at, told_at, asked_by}
use Rattle.demands.proofs.Answered.{answered}

-- ---- in U3, from its reasons
-- U3 stands between one pair of ends
same_ends : {A : Type 0} (F : Point → Float → A) (h h' : Point) (k k' : Float) → Some (On h k) ≡ Some (On h' k')
    → F h k ≡ F h' k'
same_ends F h h' k k' e = cc

module _ (s : Setup) (r : Report) (asked : List Point) where
  abbrev n : ℕ
  n = had s r asked

  -- what is told there: the next step, 5 or 7
  module _ {h : Point} {k x : Float} (i : InU3 s r asked h k x) where
    some_left : eqb n s.options.budget ≡ false
    some_left = let few = i.answered in ne_eqb n s.options.budget (λ (e : n ≡ s.options.budget). omega arith)

    tells-step : finite x ≡ true → (h.x <ᶠ x && x <ᶠ k) ≡ true → asks x ≡ told_in_u3 s n h k
    tells-step f strictly = rw (some_left, ← i.steps-to, f, strictly)

    tells-5 : finite x ≡ false → ends (refusal 5) ≡ told_in_u3 s n h k
    tells-5 f = rw (some_left, ← i.steps-to, f)

    tells-7 : finite x ≡ true → (h.x <ᶠ x && x <ᶠ k) ≡ false → ends (refusal 7) ≡ told_in_u3 s n h k
    tells-7 f outside = rw (some_left, ← i.steps-to, f, outside)

  module _ (h : Point) (k : Float) (in-U3 : standing s r asked ≡ Some (On h k)) where
    between-them : {h' : Point} {k' : Float} {t : Told} → standing s r asked ≡ Some (On h' k')
        → t ≡ told_in_u3 s n h' k' → t ≡ told_in_u3 s n h k
    between-them {h'} {k'} e told = told ∙ same_ends (told_in_u3 s n) h' h k' k (sym e ∙ in-U3)

-- the start's three answers of 01 lead to no U3
none-of-bounds : (s : Setup) (e : Bounds) → s.options.way ≡ Bounded e → (asked : List Point)
    → standing s nothing_yet asked ≡ None
unfolding standing
none-of-bounds s e is [] = refl
none-of-bounds s e is (d ∷ asked) =
    ap (λ (o : Option Came). led s o nothing_yet (earlier_of s asked) d) (none-of-bounds s e is asked)
    ∙ ap (λ (w : Way). tried s w (earlier_of s asked) d) is

tells-asked : (s : Setup) (r : Report) (asked : List Point) (h : Point) (k x : Float)
    → standing s r asked ≡ Some (On h k) → AskedBecause s r asked x → asks x ≡ told_in_u3 s (had s r asked) h k
unfolding standing
tells-asked s r asked h k x in-U3 (of-bounds {e = e} is at f) =
    absurd (none-some (On h k) (sym (none-of-bounds s e is asked) ∙ in-U3))
tells-asked s r asked h k x in-U3 (as_first is f) = absurd (none-some (On h k) in-U3)
tells-asked s r asked h k x in-U3 (as-longer is stands few f) =
    absurd (none-some (On h k) (sym stands ∙ in-U3))
tells-asked s r asked h k x in-U3 (as-trial {u = u} e a f) = absurd (to-not-on u h k (sym e ∙ in-U3))
tells-asked s r asked h k x in-U3 (inside i f strictly) =
    between-them s r asked h k in-U3 i.stands (tells-step s r asked i f strictly)

tells-ended : (s : Setup) (r : Report) (asked : List Point) (h : Point) (k : Float) (e : Ending Why)
    → EndedBecause s r asked e
    → standing s r asked ≡ Some (On h k)
    → OfTheStep (refusal_in (ends (numbered e)))
    → ends (numbered e) ≡ told_in_u3 s (had s r asked) h k
unfolding standing
tells-ended s r asked h k e (by-verdict {p = p} j) in-U3 o = absurd (to-not-on p.bracket h k in-U3)
tells-ended s r asked h k e (by-limit {p = p} j i) in-U3 o = absurd (to-not-on p.bracket h k in-U3)
tells-ended s r asked h k e (not_finite u) in-U3 o = elim o [ ]
tells-ended s r asked h k e (trial-not-finite {u = u} t a x) in-U3 o = absurd (to-not-on u h k (sym t ∙ in-U3))
tells-ended s r asked h k e (growth-not-finite is fine stands few f) in-U3 o =
    absurd (none-some (On h k) (sym stands ∙ in-U3))
tells-ended s r asked h k e (U3-not-finite i f) in-U3 o =
    between-them s r asked h k in-U3 i.stands (tells-5 s r asked i f)
tells-ended s r asked h k e (budget-spent t all) in-U3 o =
    rw (eq-eqb (had s r asked) s.options.budget all)
tells-ended s r asked h k e (not-between i f outside) in-U3 o =
    between-them s r asked h k in-U3 i.stands (tells-7 s r asked i f outside)
tells-ended s r asked h k e (growths-spent is fine stands all) in-U3 o =
    absurd (none-some (On h k) (sym stands ∙ in-U3))
tells-ended s r asked h k e already in-U3 o = elim o [ ]

-- ---- in a start that grows, from its reasons
same-growths : (K K' : ℕ) → Growing K ≡ Growing K' → K ≡ K'
same-growths K K' e = cc

module _ (s : Setup) (K : ℕ) (grows : s.options.way ≡ Growing K) (d : Point) (asked : List Point)
    (stands : standing s nothing_yet (d ∷ asked) ≡ None) where
  tells-longer : (x : Float) → AskedBecause s nothing_yet (d ∷ asked) x → asks x ≡ told_too_short K (length asked) d
  tells-longer x (of-bounds {e = e} is at f) = absurd (not-both e K (sym is ∙ grows))
  tells-longer x (as-longer {K = K'} is at few f) =
      let same = same-growths K K' (sym grows ∙ is) in
      rw (ne_eqb (length asked) K (λ (e : length asked ≡ K). omega arith), f)
  tells-longer x (inside i f strictly) = absurd (none-some _ (sym stands ∙ i.stands))

  tells-no-longer : (e : Ending Why) → EndedBecause s nothing_yet (d ∷ asked) e
      → OfTheStep (refusal_in (ends (numbered e))) → ends (numbered e) ≡ told_too_short K (length asked) d
  tells-no-longer e (not_finite u) o = elim o [ ]
  tells-no-longer e (growth-not-finite {K = K'} is fine at few f) o =
      let same = same-growths K K' (sym grows ∙ is) in
      rw (ne_eqb (length asked) K (λ (e : length asked ≡ K). omega arith), f)
  tells-no-longer e (U3-not-finite i f) o = absurd (none-some _ (sym stands ∙ i.stands))
  tells-no-longer e (budget-spent t all) o = absurd (none-some _ (sym stands ∙ t))
  tells-no-longer e (not-between i f outside) o = absurd (none-some _ (sym stands ∙ i.stands))
  tells-no-longer e (growths-spent {K = K'} is fine at all) o =
      let same = same-growths K K' (sym grows ∙ is) in
      rw (eq-eqb (length asked) K (omega arith))
  tells-no-longer e already o = elim o [ ]

-- ---- a start that no row refuses
module _ (o : Options) (f0 s0 : Float) (ok : Accepted o f0 s0) where
  abbrev s : Setup
  s = setup_of o f0 s0

  abbrev here : List Reply → Rest Report
  here ys = after (hager_zhang s) ys

  abbrev asked : List Reply → List Point
  asked ys = under-way [] (hager_zhang s) ys

  because : (ys : List Reply) (e : Ending ℕ) (r : Rest Report) → here ys ≡ r → shown r ≡ ends e
      → Reason s (reported r) (asked ys) e
  unfolding shown reported
  because ys e (ask k z then) is shows = absurd (asks-not-ends z e (sym shows))
  because ys e (end o') is shows = record {
    reason = o'.by;
    told-as = same_end (numbered o'.by) e shows;
    true_of = rules.ends o f0 s0 ok ys o'.keeps o'.by is;
  }

  -- where a search has come to r, its reasons say what it tells
  told-by : (ys : List Reply) (T : Told) (r : Rest Report) → here ys ≡ r
      → ((x : Float) → AskedBecause s (reported r) (asked ys) x → asks x ≡ T)
      → ((e : Ending Why) → EndedBecause s (reported r) (asked ys) e → OfTheStep (refusal_in (ends (numbered e)))
      → ends (numbered e) ≡ T)
      → OfTheStep (refusal_in (shown r)) → shown r ≡ T
  unfolding shown reported
  told-by ys T (ask k x then) is asking ending step =
      asking x (subst (λ (q : Report). AskedBecause s q (asked ys) x) (ap reported is)
      (rules.asks o f0 s0 ok ys x (ap shown is)))
  told-by ys T (end o') is asking ending step =
      ending o'.by (rules.ends o f0 s0 ok ys o'.keeps o'.by is) step

  told-so : (ys : List Reply) (y : Reply) → told_after (fresh_of s).search ys y ≡ shown (here (and_then ys y))
  told-so ys y = told_at o f0 s0 ok ys y ∙ ap shown (sym (after-one-more (hager_zhang s) ys y))

  -- after one more finite answer
  module _ (ys : List Reply) (y : Reply) (runs : is_over (reached_by (fresh_of s).search ys).stage ≡ false)
      (fine : answer_finite y.0 y.1 ≡ true) where
    abbrev zs : List Reply
    zs = and_then ys y

    step : OfTheStep (refusal_in (shown (here zs)))
    unfolding given
    step =
        let c = reached_by (fresh_of s).search ys in
        subst (λ (q : Told). OfTheStep (refusal_in q)) (told-so ys y)
        ((answered c y.0 y.1 (answer_of c y.0 y.1) refl).otherwise (rw (runs, fine)))

    tells-in-U3 : (h : Point) (k : Float) → standing s (reported (here zs)) (asked zs) ≡ Some (On h k)
        → shown (here zs) ≡ told_in_u3 s (had s (reported (here zs)) (asked zs)) h k
    tells-in-U3 h k in-U3 =
        let r = reported (here zs) in
        told-by zs (told_in_u3 s (had s r (asked zs)) h k) (here zs) refl
        (λ x why. tells-asked s r (asked zs) h k x in-U3 why)
        (λ e why o'. tells-ended s r (asked zs) h k e why in-U3 o') step

    tells-in-growth : (K : ℕ) → o.way ≡ Growing K → (d : Point) (before : List Point) → reported (here zs) ≡ nothing_yet
        → asked zs ≡ d ∷ before → standing s nothing_yet (d ∷ before) ≡ None
        → shown (here zs) ≡ told_too_short K (length before) d
    tells-in-growth K is d before none_yet list stands =
        told-by zs (told_too_short K (length before) d) (here zs) refl
        (λ x why. tells-longer s K is d before stands x (rw (none_yet, list) at why))
        (λ e why o'. tells-no-longer s K is d before stands e (rw (none_yet, list) at why) o') step

  pub fresh-refused : RefusedRightly o f0 s0 (fresh_of s)
  fresh-refused = record {
    ended = λ ys y e q.
        let zs = and_then ys y in
        rw (report-at o f0 s0 ok zs, asked_by o f0 s0 ok zs)
        (because zs e (here zs) refl (sym (told-so ys y) ∙ q));
    in-U3 = λ ys y runs fine h k stands.
        let zs = and_then ys y in
        rw (report-at o f0 s0 ok zs, asked_by o f0 s0 ok zs)
        (told-so ys y
        ∙ tells-in-U3 ys y runs fine h k (rw (report-at o f0 s0 ok zs, asked_by o f0 s0 ok zs) at stands));
    in-growth = λ K is ys y runs fine none_yet d before list stands.
        let zs = and_then ys y in
        told-so ys y
        ∙ tells-in-growth ys y runs fine K is d before (sym (report-at o f0 s0 ok zs) ∙ none_yet)
        (sym (asked_by o f0 s0 ok zs) ∙ list) stands;
    asks-first = λ x e.
        subst (λ (r : Report). AskedBecause s r [] x) (search-reports s)
        (unfold after under-way in rules.asks o f0 s0 ok [] x (sym (first-asked s) ∙ e));
    asks-finite = λ ys y x e. rules.asks-finite o f0 s0 ok (and_then ys y) x (sym (told-so ys y) ∙ e);
    asks-rightly = λ ys y x e.
        let zs = and_then ys y in
        rw (report-at o f0 s0 ok zs, asked_by o f0 s0 ok zs)
        (rules.asks o f0 s0 ok zs x (sym (told-so ys y) ∙ e));
  }

pub refused-rightly : (o : Options) (f0 s0 : Float) (t : Turn) → Gave o f0 s0 t → RefusedRightly o f0 s0 t
refused-rightly o f0 s0 t gave =
    let is = accepted o f0 s0 t gave in
    subst (RefusedRightly o f0 s0) is.1 (fresh-refused o f0 s0 is.0)
