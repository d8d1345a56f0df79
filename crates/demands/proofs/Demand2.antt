-- Demand 2 of every Hager-Zhang search that `start` gave: what it tells and holds is what 01's rules tell and report,
-- which never come to the Rust's error; and 01's empty programs break it (`demand2`). Assumes nothing.
use mathlib.Core.Path.{◌≡◌, refl, sym, ap, ◌∙◌, subst}
use mathlib.Core.Bool.{true, false, false≢true}
use mathlib.Core.List.{List}
use Rattle.std.specs.Prelude.{Some, None}
use Rattle.std.proofs.lemmas.Option.{none-some}
use Prim.Native.Nat.{ℕ, zero, suc}
use lib.Ieee.{Float}
use lib.Ieee.Scale.{finite}
use Rattle.floats.specs.Arithmetic.{◌⊗◌, ◌<ᶠ◌, 5ᶠ}
use Rattle.floats.proofs.Growth.{five-grows}
use Rattle.floats.proofs.Order.{lt_irrefl}
use Rattle.refusals.proofs.Refusals.{never-refused}
use Rattle.runs.specs.Outcomes.{asks, told, refusal_in}
use Rattle.runs.specs.Asking.{Rest, Reply, keeping, respond, shown}
use Rattle.runs.proofs.Apart.{same_step}
use Rattle.runs.proofs.Tied.{outcomes-are, never-untouched}
use Rattle.hagerzhang_rules.specs.declared.Point.{Point}
use Rattle.hagerzhang_rules.specs.declared.Bracket.{Bracket}
use Rattle.hagerzhang_rules.specs.declared.Bounds.{Bounds}
use Rattle.hagerzhang_rules.specs.declared.Way.{Way}
use Rattle.hagerzhang_rules.specs.declared.Way.TheVariants.{Bounded, Growing}
use Rattle.hagerzhang.specs.Machine.{Turn}
use Rattle.hagerzhang_rules.specs.declared.Options.{Options}
use Rattle.hagerzhang_rules.specs.declared.Setup.{Setup}
use Rattle.hagerzhang_rules.specs.Parameters.{level_of, setup_of, start_rows}
use Rattle.hagerzhang_rules.specs.Rules.{point, answer_finite, zero_of, grown_of, trial, ask_high, enough, growth}
use Rattle.hagerzhang_rules.specs.Rules.{starting}
use Rattle.hagerzhang_rules.specs.Rules.{Report, nothing_yet, rounds, hager_zhang, hager_zhang_by}
use Rattle.hagerzhang_rules.specs.Iterations.{report_finite}
use Rattle.hagerzhang_rules.proofs.Ranges.{Accepted, low-below-high, start-finite, start-above, start_fits, some-growth}
use Rattle.hagerzhang_rules.proofs.Demand3 as rules
use Rattle.hagerzhang.specs.declared.state.Search.{Search}
use Rattle.hagerzhang.specs.Machine.{fresh_of}
use Rattle.hagerzhang.specs.Meaning.{meant, is_over, Follows}
use Rattle.hagerzhang.proofs.Bridge.{follows, starts-whole, first-asked}
use Rattle.curves.specs.declared.Curve.{Curve}
use Rattle.jobs.specs.Opening.{f0_of, s0_of}
use Rattle.jobs.proofs.Begins.{Begins, begun}
use Rattle.demands.specs.Runs.{Gave, reached_by}
use Rattle.demands.specs.Demand2.{ByRules, GivenByStart, Demand2}
use Rattle.demands.proofs.Along.{accepted, tied, report-at, awaited-at}

-- ---- the first answer, by the rules: max is asked, or a step 5 times as long
second-step : (s : Setup) (e : Bounds) (then : Point → Bracket → Rest Report) (f g : Float) → answer_finite f g ≡ true
    → shown (respond (starting s (keeping nothing_yet) nothing_yet (Bounded e) then) f g) ≡ asks e.max
unfolding starting shown respond ask_high
second-step s e then f g fine = rw fine

first_step : (s : Setup) (e : Bounds) (then : Point → Bracket → Rest Report)
    → shown (starting s (keeping nothing_yet) nothing_yet (Bounded e) then) ≡ asks e.min
unfolding starting shown
first_step s e then = refl

second-trial : (s : Setup) (K : ℕ) (then : Point → Bracket → Rest Report) (f g : Float) → answer_finite f g ≡ true
    → grown_of s.level (zero_of s) (zero_of s) (point s.options.params.start f g) ≡ None
    → finite (5ᶠ ⊗ s.options.params.start) ≡ true
    → shown (respond (starting s (keeping nothing_yet) nothing_yet (Growing (suc K)) then) f g)
    ≡ asks (5ᶠ ⊗ s.options.params.start)
unfolding starting growth enough trial shown respond
second-trial s K then f g fine short longer = rw (fine, short, longer)

module _ (o : Options) (f0 s0 : Float) (ok : Accepted o f0 s0) where
  abbrev s : Setup
  s = setup_of o f0 s0

  abbrev b : Search
  b = (fresh_of s).search

  abbrev then : Point → Bracket → Rest Report
  then c w = rounds s o.limit w c 0

  -- what is told first, and what follows the rules tells at the first answer
  asks-first : (w : Way) → o.way ≡ w
      → told (fresh_of s).outcome ≡ shown (starting s (keeping nothing_yet) nothing_yet w then)
  unfolding hager_zhang_by
  asks-first w is =
      first-asked s ∙ ap (λ (v : Way). shown (starting s (keeping nothing_yet) nothing_yet v then)) is

  tells-second : (w : Way) → o.way ≡ w → (f g : Float) (r : Turn) → Follows b f g r
      → told r.outcome ≡ shown (respond (starting s (keeping nothing_yet) nothing_yet w then) f g)
  unfolding hager_zhang_by
  tells-second w is f g r by =
      by.tells ∙ ap (λ (q : Rest Report). shown (respond q f g)) (starts-whole s)
      ∙ ap (λ (v : Way). shown (respond (starting s (keeping nothing_yet) nothing_yet v then) f g)) is

  module _ (e : Bounds) (is : o.way ≡ Bounded e) (f g : Float) (fine : answer_finite f g ≡ true) (r : Turn)
      (by : Follows b f g r) where
    asks-max : told r.outcome ≡ asks e.max
    asks-max = tells-second (Bounded e) is f g r by ∙ second-step s e then f g fine

    no-refusal : (n : ℕ) → refusal_in (told r.outcome) ≡ Some n → ⊥
    no-refusal n q = none-some n (sym (ap refusal_in asks-max) ∙ q)

    other_step : told r.outcome ≡ told (fresh_of s).outcome → ⊥
    other_step q =
        let same = same_step e.max e.min (sym asks-max ∙ q ∙ asks-first (Bounded e) is ∙ first_step s e then) in
        false≢true (sym (lt_irrefl e.max)
        ∙ subst (λ (x : Float). x <ᶠ e.max ≡ true) (sym same) (low-below-high o f0 s0 ok e is))

  longer-step : (K : ℕ) → o.way ≡ Growing K → (f g : Float) → answer_finite f g ≡ true
      → grown_of (level_of o f0) (zero_of s) (zero_of s) (point o.params.start f g) ≡ None
      → finite (5ᶠ ⊗ o.params.start) ≡ true
      → (r : Turn) → Follows b f g r → told r.outcome ≡ asks (5ᶠ ⊗ o.params.start)
  longer-step zero is f g fine short longer r by = absurd (some-growth o f0 s0 ok 0 is refl)
  longer-step (suc K) is f g fine short longer r by =
      tells-second (Growing (suc K)) is f g r by ∙ second-trial s K then f g fine short longer

  another-step : (K : ℕ) → o.way ≡ Growing K → finite (5ᶠ ⊗ o.params.start) ≡ true
      → 5ᶠ ⊗ o.params.start ≡ o.params.start → ⊥
  another-step K is fine same =
      let x = o.params.start in
      false≢true (sym (lt_irrefl x)
      ∙ subst (λ (y : Float). x <ᶠ y ≡ true) same
      (five-grows x (start_fits o f0 s0 ok K is) (start-finite o f0 s0 ok) (start-above o f0 s0 ok K is) fine))

  -- a state handed back untouched would stand for the same search
  other-state : (ys : List Reply) → is_over (reached_by b ys).stage ≡ false → (f g : Float) (r : Turn)
      → Follows (reached_by b ys) f g r → r.search ≡ reached_by b ys → ⊥
  other-state ys runs f g r by same =
      never-untouched (tied o f0 s0 ok) ys runs f g (sym (ap meant same) ∙ by.leaves)

  of-fresh : ByRules o f0 s0 (fresh_of s)
  of-fresh = record {
    first-ask = first-asked s;
    outcomes-are-rules = outcomes-are (tied o f0 s0 ok);
    report-is-rules = report-at o f0 s0 ok;
    awaited-is-rules = awaited-at o f0 s0 ok;
    never-unreachable = rules.never-unreachable o f0 s0 ok;
    report-finite = λ ys. ap report_finite (report-at o f0 s0 ok ys) ∙ rules.report-finite o f0 s0 ok ys;
    refusing-start-shut-out = λ k starts.
        never-refused (start_rows o f0 s0) (hager_zhang s) ok.passed _ starts.stands-for;
    refusing-shut-out = no-refusal;
    same-step-shut-out = other_step;
    longer-step = longer-step;
    another-step = another-step;
    untouched-shut-out = other-state;
  }

by-rules : (o : Options) (f0 s0 : Float) (t : Turn) → Gave o f0 s0 t → ByRules o f0 s0 t
by-rules o f0 s0 t gave =
    let is = accepted o f0 s0 t gave in
    subst (ByRules o f0 s0) is.1 (of-fresh o f0 s0 is.0)

-- a job's search is the start's, with the job's options and its curve's cost and slope at 0
given_by : (bytes : List ℕ) (c : Curve) (t : Turn) → Begins bytes c t → GivenByStart t
given_by bytes c t b = record {
  o = b.job.options;
  f0 = f0_of b.job;
  s0 = s0_of b.job;
  given = record { given = b.started; f64s = b.accepted.f64s };
}

pub demand2 : Demand2
demand2 = record {
  search-given = by-rules;
  job-given = λ bytes c t said. given_by bytes c t (begun bytes c t (sym said));
  any-state = λ s f g r said limit real. follows s limit real f g r said;
}
