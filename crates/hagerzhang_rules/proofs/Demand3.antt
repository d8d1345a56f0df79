-- Demand 3, and the refusals of a running search, for every list of answers to a start that no row refuses:
-- `bracket-ordered` of every bracket that is reported, and `each-iteration` (where its ends lie and came from, and how
-- many answers it took), whatever the slopes are; `bracket-stays` under demand 3's premise on the answered ends of 01's
-- start, and `bracket-holds` under none behind a start that grows; the counts; why each step is asked and each search
-- ended (`asks`, `ends`); that all reported numbers are finite. About 01's rules; the machine reports what they report.
-- Assumes nothing.
use mathlib.Core.Path.{◌≡◌, refl, sym, ap, ◌∙◌, subst}
use mathlib.Core.Bool.{true}
use mathlib.Core.List.{List, [], ◌∷◌}
use mathlib.Core.Logic.{◌⊎◌, inl, inr}
use Prim.Native.Nat.{ℕ, ◌+◌, ◌≤◌}
use native.Mathlib.Omega.{arith}
use lib.ListN.{length}
use lib.Ieee.{Float}
use lib.Ieee.Scale.{finite}
use borrow.Author.Tests.{lt-ltb}
use Rattle.floats.proofs.Branches.{by_cases}
use Rattle.runs.specs.Outcomes.{Ending, refusal, Why, already_over, unreachable, number_for, asks as asking}
use Rattle.runs.specs.Asking.{Rest, end, Ended, end_with, keeping, Reply, respond, shown, reported, after}
use Rattle.hagerzhang_rules.specs.declared.Point.{Point}
use Rattle.hagerzhang_rules.specs.declared.Bounds.{Bounds}
use Rattle.hagerzhang_rules.specs.declared.Way.{Way}
use Rattle.hagerzhang_rules.specs.declared.Way.TheVariants.{Bounded, Growing}
use Rattle.hagerzhang_rules.specs.declared.Options.{Options}
use Rattle.hagerzhang_rules.specs.declared.Setup.{Setup}
use Rattle.hagerzhang_rules.specs.Parameters.{setup_of}
use Rattle.hagerzhang_rules.specs.Rules.{point, bracket, answer_finite, Summary, Report, nothing_yet, last}
use Rattle.hagerzhang_rules.specs.Rules.{iterations_in, rounds, ask_start, ask_high, starting, hager_zhang}
use Rattle.hagerzhang_rules.specs.Rules.{hager_zhang_by}
use Rattle.hagerzhang_rules.specs.Brackets.{premise, Ordered}
use Rattle.hagerzhang_rules.specs.Iterations.{progress, Whole, Brings, AskedBecause, of-bounds, as_first}
use Rattle.hagerzhang_rules.specs.Iterations.{as-longer, as-trial, inside, standing, EndedBecause, not_finite}
use Rattle.hagerzhang_rules.specs.Iterations.{trial-not-finite, U3-not-finite, budget-spent, not-between, already}
use Rattle.hagerzhang_rules.specs.Iterations.{report_finite}
use Rattle.hagerzhang_rules.proofs.Apart.{none-not-last, to-not-on, cons-not-nil}
use Rattle.hagerzhang_rules.proofs.Ranges.{Accepted, low-below-high}
use Rattle.hagerzhang_rules.proofs.UnderWay.{noted, since, under-way, finished-by}
use Rattle.hagerzhang_rules.proofs.Iterations.{In-order, most_at, Stands}
use Rattle.hagerzhang_rules.proofs.Along.{report-fine, few-asked, asks_at, ended_at, stands_after, answer-moves}
use Rattle.hagerzhang_rules.proofs.Along.{stands-along, each-finished, finished-counted, Holds, holds-along}
use Rattle.hagerzhang_rules.proofs.Along.{Premised, premised-along}
use Rattle.hagerzhang_rules.proofs.EachIteration.{rounds-report}
use Rattle.hagerzhang_rules.proofs.EachStart.{search-stands}
use Rattle.hagerzhang_rules.proofs.EndsInTime.{search-reports}

finite-step : {s : Setup} {k : Report} {asked : List Point} {x : Float} → AskedBecause s k asked x → finite x ≡ true
finite-step (of-bounds is at fx) = fx
finite-step (as_first is fx) = fx
finite-step (as-longer is stands few fx) = fx
finite-step (as-trial stands at fx) = fx
finite-step (inside at fx strictly) = fx

-- with the first bracket nothing is under way
begun-anew : (asked : List Point) (q : Summary) → since nothing_yet asked (last q) ≡ []
begun-anew asked q = rw (lt-ltb 0 (progress (last q)) (omega arith))

-- where nothing is asked since a bracket was reported, a refusal is 5, of S1, or of a call after the end
at-S1 : {s : Setup} {q : Summary} (asked : List Point) (why : Why) → asked ≡ []
    → EndedBecause s (last q) asked (refusal why) → (number_for why ≡ 8 → ⊥) → number_for why ≡ 5
unfolding standing
at-S1 asked why none (not_finite u) running = absurd (cons-not-nil none)
at-S1 asked why none (trial-not-finite t a x) running = refl
at-S1 {s} {q} asked why none (U3-not-finite {h = h} {k' = k} i f) running = refl
at-S1 {s} {q} asked why none (budget-spent {h = h} {k' = k} t all) running =
    absurd (to-not-on q.bracket h k (rw none at t))
at-S1 {s} {q} asked why none (not-between {h = h} {k' = k} i f outside) running =
    absurd (to-not-on q.bracket h k (rw none at i.stands))
at-S1 asked why none already running = absurd (running refl)

impossible : {s : Setup} {k : Report} {asked : List Point} → EndedBecause s k asked (refusal unreachable) → ⊥
impossible e = elim e [ ]

-- a search that is over goes on reporting what it did
over-reports : (o : Ended Report) (ys : List Reply) → reported (after (end o) ys) ≡ o.keeps
unfolding reported after respond
over-reports o [] = refl
over-reports o (y ∷ ys) = over-reports _ ys

-- ---- a start that no row refuses
module _ (o : Options) (f0 s0 : Float) (ok : Accepted o f0 s0) where
  abbrev s : Setup
  s = setup_of o f0 s0

  -- for any answers: what was asked in the iteration under way, with them
  module _ (ys : List Reply) where
    abbrev asked : List Point
    asked = under-way [] (hager_zhang s) ys

    abbrev here : Rest Report
    here = after (hager_zhang s) ys

    stands : Stands s asked here
    stands = stands-along ys (search-stands o f0 s0 ok)

    -- "low step < high step": of whatever bracket is reported
    pub bracket-ordered : (p : Summary) → reported here ≡ last p → Ordered p.bracket
    bracket-ordered p e = subst In-order e (report-fine stands).in_order

    -- "each finished iteration": where the next answer y brings the count from p's to one more, q's
    pub each-iteration : (y : Reply) (p q : Summary) → reported here ≡ last p
        → reported (respond here y.0 y.1) ≡ last q
        → q.iterations ≡ p.iterations + 1 → Whole s p (noted here y asked) q
    each-iteration y p q = each-finished y p q stands

    -- every answer leaves the report as it was, or is the start's last, or finishes the iteration under way, which is
    -- counted
    pub each-answer : (y : Reply)
        → Brings s (noted here y asked) (reported here) (reported (respond here y.0 y.1))
    each-answer y = answer-moves y stands

    -- "an iteration takes at most 3+3B answers": also one that is not finished, and whether its last answer is finite
    -- or not; and so a start as many as it may
    pub part-bounded : length asked ≤ most_at s (reported here)
    part-bounded = few-asked stands

    -- the iterations that are reported are those that the answers finished, N at most
    pub iterations-counted : iterations_in (reported here) ≡ finished-by (hager_zhang s) ys
    iterations-counted =
        let z = finished-counted ys (search-stands o f0 s0 ok) in
        let none_yet : iterations_in (reported (hager_zhang s)) ≡ 0 = ap iterations_in (search-reports s) in
        omega arith

    pub iterations-bounded : iterations_in (reported here) ≤ o.limit
    iterations-bounded = (report-fine stands).counted

    -- ---- why a step is asked, and why it ended

    pub asks : (x : Float) → shown here ≡ asking x → AskedBecause s (reported here) asked x
    asks x shows = (asks_at x stands shows).why

    pub asks-finite : (x : Float) → shown here ≡ asking x → finite x ≡ true
    asks-finite x shows = finite-step (asks x shows)

    pub ends : (k : Report) (e : Ending Why) → here ≡ end_with k e → EndedBecause s k asked e
    ends k e is = ended_at (subst (Stands s asked) is stands)

    -- 02, request 3: "A search ended within this start has no bracket and no best." Whatever the way is: a refusal at
    -- an answer of the start leaves none, but for 5 of S1, where that answer has finished the start
    pub ended-within : (y : Reply) (k : Report) (why : Why) → reported here ≡ nothing_yet
        → respond here y.0 y.1 ≡ end_with k (refusal why) → (number_for why ≡ 8 → ⊥)
        → (k ≡ nothing_yet) ⊎ (number_for why ≡ 5)
    unfolding reported
    ended-within y nothing_yet why e is running = inl refl
    ended-within y (last q) why e is running =
        let at : Stands s (since nothing_yet (noted here y asked) (last q)) (end_with (last q) (refusal why)) =
        rw (e, is) at (stands_after y stands) in
        inr (at-S1 (since nothing_yet (noted here y asked) (last q)) why (begun-anew (noted here y asked) q)
        (ended_at at) running)

    pub report-finite : report_finite (reported here) ≡ true
    report-finite = (report-fine stands).numbers

    pub never-unreachable : (k : Report) → here ≡ end_with k (refusal unreachable) → ⊥
    never-unreachable k e = impossible (ends k (refusal unreachable) e)

  -- ---- 02, request 3: "demand 3's premise then holds without being assumed whenever this start succeeds"
  pub bracket-holds : (K : ℕ) → o.way ≡ Growing K → (ys : List Reply) (p : Summary)
      → reported (after (hager_zhang s) ys) ≡ last p → premise s.level p.bracket.a p.bracket.b ≡ true
  bracket-holds K is ys p e =
      subst (Premised s.level) e
      (premised-along K is ys (search-stands o f0 s0 ok) (rw (search-reports s) tt))

  -- ---- 01's start: the answers at min, max and the start step, whatever they are
  module _ (b : Bounds) (is : o.way ≡ Bounded b) (ya yb yc : Reply) where
    abbrev low_end : Point
    low_end = point b.min ya.0 ya.1

    abbrev high_end : Point
    high_end = point b.max yb.0 yb.1

    abbrev on : Rest Report
    on = rounds s o.limit (bracket low_end high_end) (point o.params.start yc.0 yc.1) 0

    -- either all three are finite, or it is refused
    begun : (Q : Rest Report → Type 0) → Q on → ((why : Why) → Q (end_with nothing_yet (refusal why)))
        → Q (after (hager_zhang s) (ya ∷ yb ∷ yc ∷ []))
    unfolding after respond hager_zhang_by starting ask_high ask_start
    begun Q go refuses =
        subst (λ (w : Way). Q (after (starting s (keeping nothing_yet) nothing_yet w (λ c u. rounds s o.limit u c 0))
        (ya ∷ yb ∷ yc ∷ [])))
        (sym is)
        (by_cases (λ r. Q (respond (respond r yb.0 yb.1) yc.0 yc.1)) (answer_finite ya.0 ya.1)
        (λ e. by_cases (λ r. Q (respond r yc.0 yc.1)) (answer_finite yb.0 yb.1)
        (λ e. by_cases Q (answer_finite yc.0 yc.1) (λ e. go) (λ e. refuses _))
        (λ e. refuses already_over))
        (λ e. refuses already_over))

    -- "Let the answered starting ends have ..": whatever bracket is reported meets the same three
    pub bracket-stays : premise s.level low_end high_end ≡ true → (ys : List Reply) (p : Summary)
        → reported (after (hager_zhang s) (ya ∷ yb ∷ yc ∷ ys)) ≡ last p
        → premise s.level p.bracket.a p.bracket.b ≡ true
    unfolding after
    bracket-stays three ys p =
        begun
        (λ r. (asked : List Point) → Stands s asked r → reported (after r ys) ≡ last p
        → premise s.level p.bracket.a p.bracket.b ≡ true)
        (λ asked a e.
        let first : Holds s.level (reported on) =
        rw (rounds-report s o.limit _ _ 0) (three, low-below-high o f0 s0 ok b is) in
        (subst (Holds s.level) e (holds-along ys a first)).0)
        (λ why asked a e. absurd (none-not-last p (sym (over-reports _ ys) ∙ e)))
        (under-way [] (hager_zhang s) (ya ∷ yb ∷ yc ∷ [])) (stands (ya ∷ yb ∷ yc ∷ []))
