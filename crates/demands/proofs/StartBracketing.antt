-- 02, request 3, of every search that `start` gave for a way that grows (`start-bracketing`): from demand 3, and from
-- what a finished start leaves. Assumes nothing.
use mathlib.Core.Path.{◌≡◌, refl, sym, ap, ◌∙◌, subst}
use mathlib.Core.Bool.{false}
use mathlib.Core.List.{List, ◌∷◌}
use mathlib.Core.Logic.{◌⊎◌, inl, inr}
use Rattle.std.specs.Prelude.{Some}
use Rattle.std.proofs.lemmas.Option.{same_Some}
use Prim.Native.Nat.{ℕ, ◌+◌}
use native.Mathlib.Omega.{arith}
use lib.Ieee.{Float}
use Rattle.floats.proofs.Branches.{by_cases}
use Rattle.refusals.specs.Refusals.{given}
use Rattle.runs.specs.Outcomes.{Word, Ending, stop, limit, refusal, asks, ends, Why, number_for, numbered, told}
use Rattle.runs.specs.Outcomes.{refusal_in}
use Rattle.runs.specs.Asking.{Rest, ask, end, end_with, Reply, keeping, respond, shown, reported, after}
use Rattle.runs.proofs.Apart.{asks-not-ends, same_end}
use Rattle.hagerzhang_rules.specs.declared.Point.{Point}
use Rattle.hagerzhang_rules.specs.declared.Bracket.{Bracket}
use Rattle.hagerzhang_rules.specs.declared.Way.{Way}
use Rattle.hagerzhang_rules.specs.declared.Way.TheVariants.{Growing}
use Rattle.hagerzhang_rules.specs.declared.Options.{Options}
use Rattle.hagerzhang_rules.specs.declared.Setup.{Setup}
use Rattle.hagerzhang_rules.specs.Parameters.{setup_of}
use Rattle.hagerzhang_rules.specs.Rules.{answer_finite, starting, Summary, Report, nothing_yet, last, rounds}
use Rattle.hagerzhang_rules.specs.Rules.{hager_zhang}
use Rattle.hagerzhang_rules.specs.Rules.{hager_zhang_by}
use Rattle.hagerzhang_rules.specs.Iterations.{most_by, most_in_start, Opens, Brings, first}
use Rattle.hagerzhang_rules.proofs.Ranges.{Accepted}
use Rattle.hagerzhang_rules.proofs.FirstTrial.{best-of-first}
use Rattle.hagerzhang_rules.proofs.Demand3 as rules
use Rattle.hagerzhang.specs.declared.state.Search.{Search}
use Rattle.hagerzhang.specs.Machine.{Turn}
use Rattle.hagerzhang.specs.Machine.{answer_of, fresh_of}
use Rattle.hagerzhang.specs.Meaning.{report, is_over, OfTheStep}
use Rattle.hagerzhang.proofs.Bridge.{first-asked}
use Rattle.demands.specs.Runs.{Gave, reached_by, told_after, and_then}
use Rattle.demands.specs.Demand3.{Bounded}
use Rattle.demands.specs.StartBracketing.{Starts-growing, StartBracketing}
use Rattle.demands.proofs.Along.{accepted, report-at, report-next, told_at}
use Rattle.demands.proofs.Answered.{answered}
use Rattle.demands.proofs.Demand3.{bounded}

first_step : (s : Setup) (K : ℕ) (then : Point → Bracket → Rest Report)
    → shown (starting s (keeping nothing_yet) nothing_yet (Growing K) then) ≡ asks s.options.params.start
unfolding starting shown
first_step s K then = refl

none-of-8 : OfTheStep (Some 8) → ⊥
none-of-8 o = elim o [ ]

stop-not-refusal : {w : Word} {x : Float} {n : ℕ} → stop w x ≡ refusal n → ⊥
stop-not-refusal e = let z : ◌≡◌ {A = ℕ} 0 1 = cc in omega arith

limit-not-refusal : {x : Float} {n : ℕ} → limit x ≡ refusal n → ⊥
limit-not-refusal e = let z : ◌≡◌ {A = ℕ} 0 1 = cc in omega arith

same_number : {m n : ℕ} → ◌≡◌ {A = Ending ℕ} (refusal m) (refusal n) → m ≡ n
same_number e = cc

-- an answer after which the first bracket is held has finished the start
opened : {s : Setup} {asked : List Point} {q : Summary} → Brings s asked nothing_yet (last q) → Opens s asked q
opened (first new) = new

-- ---- a search that is ended in its start
-- a call that is not after the end is not refused by 8
not-8 : (c : Search) (f g : Float) → is_over c.stage ≡ false
    → told (answer_of c f g).outcome ≡ ends (refusal 8) → ⊥
unfolding given
not-8 c f g runs tells =
    let said = answered c f g (answer_of c f g) refl in
    by_cases (λ (u : Unit {0}). ⊥) (answer_finite f g) {x = tt} {y = tt}
    (λ fine. none-of-8 (subst OfTheStep (ap refusal_in tells) (said.otherwise (rw (runs, fine)))))
    (λ bad.
    let two : 2 ≡ 8 = same_Some 2 8 (sym (said.early 2 (rw (runs, bad))) ∙ ap refusal_in tells) in
    omega arith)

module _ (o : Options) (f0 s0 : Float) (ok : Accepted o f0 s0) (ys : List Reply) (y : Reply) (n : ℕ) where
  abbrev s : Setup
  s = setup_of o f0 s0

  abbrev b : Search
  b = (fresh_of s).search

  abbrev next : Rest Report
  next = respond (after (hager_zhang s) ys) y.0 y.1

  by-reason : (k : Report) (e : Ending Why) → next ≡ end_with k e → reported (after (hager_zhang s) ys) ≡ nothing_yet
      → numbered e ≡ refusal n → (n ≡ 8 → ⊥) → (k ≡ nothing_yet) ⊎ (n ≡ 5)
  by-reason k (stop w x) is none_yet tells running = absurd (stop-not-refusal tells)
  by-reason k (limit x) is none_yet tells running = absurd (limit-not-refusal tells)
  by-reason k (refusal why) is none_yet tells running =
      let same : number_for why ≡ n = same_number tells in
      elim (rules.ended-within o f0 s0 ok ys y k why none_yet is (λ e. running (sym same ∙ e))) [
        | inl none-held ↦ inl none-held
        | inr five ↦ inr (sym same ∙ five)
      ]

  by-run : (r : Rest Report) → next ≡ r → reported (after (hager_zhang s) ys) ≡ nothing_yet → shown r ≡ ends (refusal n)
      → (n ≡ 8 → ⊥) → (reported r ≡ nothing_yet) ⊎ (n ≡ 5)
  unfolding shown reported
  by-run (ask k x then) is none_yet tells running = absurd (asks-not-ends x (refusal n) (sym tells))
  by-run (end o') is none_yet tells running =
      by-reason o'.keeps o'.by is none_yet (same_end (numbered o'.by) (refusal n) tells) running

  ended-within : is_over (reached_by b ys).stage ≡ false → report (reached_by b ys) ≡ nothing_yet
      → told_after b ys y ≡ ends (refusal n) → (report (reached_by b (and_then ys y)) ≡ nothing_yet) ⊎ (n ≡ 5)
  ended-within runs none_yet tells =
      subst (λ (k : Report). (k ≡ nothing_yet) ⊎ (n ≡ 5)) (sym (report-next o f0 s0 ok ys y))
      (by-run next refl (sym (report-at o f0 s0 ok ys) ∙ none_yet) (sym (told_at o f0 s0 ok ys y) ∙ tells)
      (λ e. not-8 (reached_by b ys) y.0 y.1 runs (rw e at tells)))

module _ (K : ℕ) (o : Options) (f0 s0 : Float) (t : Turn) (is : o.way ≡ Growing K) (gave : Gave o f0 s0 t) where
  abbrev st : Setup
  st = setup_of o f0 s0

  held : Bounded o f0 s0 t
  held = bounded o f0 s0 t gave

  most : most_in_start o ≡ 1 + K + o.budget
  most = ap (λ (w : Way). most_by w o.budget) is

  asks-start : told t.outcome ≡ asks o.params.start
  unfolding hager_zhang_by
  asks-start =
      ap (λ (u : Turn). told u.outcome) (sym (accepted o f0 s0 t gave).1) ∙ first-asked st
      ∙ ap (λ (w : Way). shown (starting st (keeping nothing_yet) nothing_yet w (λ c u. rounds st o.limit u c 0))) is
      ∙ first_step st K (λ c u. rounds st o.limit u c 0)

  ok : Accepted o f0 s0
  ok = (accepted o f0 s0 t gave).0

  same : fresh_of st ≡ t
  same = (accepted o f0 s0 t gave).1

  starts-growing : Starts-growing K o f0 s0 t
  starts-growing = record {
    first-trial = asks-start;
    start-few = λ ys none_yet. let few = held.start-bounded ys none_yet in omega (arith, most);
    search-ends = λ ys many. held.search-ends ys (omega (arith, most));
    succeeds = λ ys y q none_yet e.
        let new = opened (rw (none_yet, e) at (held.each-answer ys y)) in
        (new, ((new.grew K is).premise_holds, new.ordered));
    best-of-first = λ y ys p e.
        best-of-first st K is y ys p
        (sym (report-at o f0 s0 ok (y ∷ ys)) ∙ ap (λ (u : Turn). report (reached_by u.search (y ∷ ys))) same ∙ e);
    ended-within = λ ys y n.
        subst (λ (u : Turn). is_over (reached_by u.search ys).stage ≡ false
        → report (reached_by u.search ys) ≡ nothing_yet
        → told_after u.search ys y ≡ ends (refusal n)
        → (report (reached_by u.search (and_then ys y)) ≡ nothing_yet) ⊎ (n ≡ 5))
        same (ended-within o f0 s0 ok ys y n);
    bracket-stays = λ ys p e. (held.bracket-holds K is ys p e, held.bracket-ordered ys p e);
    bracket-narrows = λ ys y p q e e' one. (held.each-iteration ys y p q e e' one).narrows;
  }

pub start-bracketing : StartBracketing
start-bracketing = record { search-given = starts-growing }
