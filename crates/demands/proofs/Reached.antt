-- The bounds of the demands are reached (`bounds-reached`, `growth-reached`, `trials-reached`; specs/Reached.antt), by
-- computing one search of each kind: Hager-Zhang's by the rules' text, which the machine follows (proofs/Along.antt),
-- and backtracking's by the machine itself. Assumes nothing.
use mathlib.Core.Path.{◌≡◌, refl, ap, ◌∙◌}
use mathlib.Core.Bool.{false, not}
use mathlib.Core.List.{[], ◌∷◌}
use lib.ListN.{length}
use lib.Ieee.{add, sub, mul, div, neg, le, lt, fits, of_bits, of_int}
use Rattle.floats.specs.Arithmetic.{◌⊗◌, 0ᶠ, 1ᶠ, 5ᶠ}
use Rattle.refusals.proofs.Refusals.{and, all as none_left, value-given}
use Rattle.runs.specs.Outcomes.{limit, refusal, asks, ends}
use Rattle.runs.specs.Asking.{Rest, respond, shown, reported, is_over, after, reached, tallied}
use Rattle.runs.specs.Counters.{one_more}
use Rattle.runs.proofs.Accepted.{accepted, is_not_finite}
use Rattle.runs.proofs.Tied.{over-at, tallied-is}
use Rattle.backtracking.specs.Backtracking.{setup_of as trials_setup}
use Rattle.backtracking.specs.Machine.{fresh_of as trials_fresh, answer_by, tried_of}
use Rattle.hagerzhang_rules.specs.declared.Setup.{Setup}
use Rattle.hagerzhang_rules.specs.Parameters.{setup_of, start_rows}
use Rattle.hagerzhang_rules.specs.Rules.{answer_finite, update_of, narrowed_of, S2, S3, L2, best_over, judge_of, trial}
use Rattle.hagerzhang_rules.specs.Rules.{between, U3, updating, further, after_s4, iteration_by, EPS, grown_of}
use Rattle.hagerzhang_rules.specs.Rules.{ask_start}
use Rattle.hagerzhang_rules.specs.Rules.{ask_high, enough, growth, starting, Report, iterations_in, decided, verdict}
use Rattle.hagerzhang_rules.specs.Rules.{rounds_by, hager_zhang, hager_zhang_by}
use Rattle.hagerzhang_rules.proofs.Ranges.{Accepted}
use Rattle.hagerzhang_rules.proofs.UnderWay.{noted, under-way}
use Rattle.hagerzhang.specs.Machine.{fresh_of}
use Rattle.demands.specs.Runs.{and_then}
use Rattle.demands.specs.Reached.{f0, s0, down, up, bad, o, all_but_last, all, trial_options, growing, short}
use Rattle.demands.specs.Reached.{four_of_start, last_of_start, all_growing_but_last, BoundsReached, GrowthReached}
use Rattle.demands.specs.Reached.{TrialsReached}
use Rattle.demands.proofs.Along.{tied, told_at, report-at, asked_by, asked-at}

-- ---- Hager-Zhang: no row refuses the start
ok : Accepted o f0 s0
unfolding add mul neg le lt of_bits of_int
ok = record { passed = and refl (and refl (and refl (and refl none_left))); f64s = tt }

-- its search by the rules
abbrev s : Setup
s = setup_of o f0 s0

abbrev search : Rest Report
search = hager_zhang s

record Computed : Type 0 where
  finished : length (noted (after search all_but_last) (up 1ᶠ) (under-way [] search all_but_last)) ≡ 9
  unfinished : length (under-way [] search (and_then all_but_last down)) ≡ 9
  spent : shown (respond (after search all_but_last) down.0 down.1) ≡ ends (refusal 6)
  still-asks : is_over (after search all_but_last) ≡ false
  then-over : shown (respond (after search all_but_last) (up 1ᶠ).0 (up 1ᶠ).1) ≡ ends (limit 0ᶠ)
  evaluations : accepted answer_finite search all ≡ 21
  before : iterations_in (reported (after search all_but_last)) ≡ 1
  iterations : iterations_in (reported (after search all)) ≡ 2
  non-finite : is_not_finite answer_finite search (bad ∷ bad ∷ []) ≡ 1

computed : Computed
unfolding under-way accepted after respond shown reported is_over hager_zhang_by starting ask_high ask_start rounds_by
    verdict decided judge_of best_over iteration_by after_s4 further updating U3 between trial L2 S3 S2 narrowed_of
    update_of add sub mul div neg le lt of_bits of_int
computed = record {
  finished = refl;
  unfinished = refl;
  spent = refl;
  still-asks = refl;
  then-over = refl;
  evaluations = refl;
  before = refl;
  iterations = refl;
  non-finite = refl;
}

pub bounds-reached : BoundsReached
unfolding le lt of_bits
bounds-reached = record {
  t = fresh_of s;
  given = value-given (start_rows o f0 s0) (fresh_of s) ok.passed;
  few-reached = ap length (asked-at o f0 s0 ok all_but_last (up 1ᶠ)) ∙ computed.finished;
  iteration-reached = ap length (asked_by o f0 s0 ok (and_then all_but_last down)) ∙ computed.unfinished;
  budget-spent = told_at o f0 s0 ok all_but_last down ∙ computed.spent;
  search-reached = refl;
  still-asks = over-at (tied o f0 s0 ok) all_but_last ∙ computed.still-asks;
  then-over = told_at o f0 s0 ok all_but_last (up 1ᶠ) ∙ computed.then-over;
  evaluations-reached = tallied-is (tied o f0 s0 ok) answer_finite all ∙ computed.evaluations;
  iterations-before = rw (report-at o f0 s0 ok all_but_last, computed.before);
  iterations-reached = ap iterations_in (report-at o f0 s0 ok all) ∙ computed.iterations;
  ever-reached = refl;
  largest = refl;
  none-larger = (refl, refl);
  non-finite-reached =
      tallied-is (tied o f0 s0 ok) (λ f g. not (answer_finite f g)) (bad ∷ bad ∷ []) ∙ computed.non-finite;
}

-- ---- a start that grows
growing-ok : Accepted growing f0 s0
unfolding add mul neg le lt fits of_bits of_int
growing-ok = record { passed = and refl (and refl (and refl (and refl none_left))); f64s = (refl, refl) }

abbrev g : Setup
g = setup_of growing f0 s0

abbrev grown : Rest Report
grown = hager_zhang g

record Grew : Type 0 where
  finished : length (noted (after grown four_of_start) last_of_start (under-way [] grown four_of_start)) ≡ 5
  unfinished : length (under-way [] grown (and_then four_of_start down)) ≡ 5
  spent : shown (respond (after grown four_of_start) down.0 down.1) ≡ ends (refusal 6)
  twice : shown (respond (after grown (short ∷ [])) short.0 short.1) ≡ asks (5ᶠ ⊗ (5ᶠ ⊗ EPS))
  no_more : shown (respond (after grown (short ∷ short ∷ [])) short.0 short.1) ≡ ends (refusal 11)
  still-asks : is_over (after grown all_growing_but_last) ≡ false
  then-over : shown (respond (after grown all_growing_but_last) (up 1ᶠ).0 (up 1ᶠ).1) ≡ ends (limit EPS)

grew : Grew
unfolding under-way after respond shown reported is_over hager_zhang_by starting growth enough grown_of rounds_by
    verdict decided judge_of best_over iteration_by after_s4 further updating U3 between trial L2 S3 S2 narrowed_of
    update_of add sub mul div neg le lt of_bits of_int
grew = record {
  finished = refl;
  unfinished = refl;
  spent = refl;
  twice = refl;
  no_more = refl;
  still-asks = refl;
  then-over = refl;
}

pub growth-reached : GrowthReached
unfolding le lt of_bits
growth-reached = record {
  t = fresh_of g;
  gave = record {
    given = value-given (start_rows growing f0 s0) (fresh_of g) growing-ok.passed;
    f64s = growing-ok.f64s;
  };
  start-reached = ap length (asked-at growing f0 s0 growing-ok four_of_start last_of_start) ∙ grew.finished;
  unfinished-reached = ap length (asked_by growing f0 s0 growing-ok (and_then four_of_start down)) ∙ grew.unfinished;
  budget-spent = told_at growing f0 s0 growing-ok four_of_start down ∙ grew.spent;
  grows-twice = told_at growing f0 s0 growing-ok (short ∷ []) short ∙ grew.twice;
  growths-spent = told_at growing f0 s0 growing-ok (short ∷ short ∷ []) short ∙ grew.no_more;
  search-reached = refl;
  still-asks = over-at (tied growing f0 s0 growing-ok) all_growing_but_last ∙ grew.still-asks;
  then-over = told_at growing f0 s0 growing-ok all_growing_but_last (up 1ᶠ) ∙ grew.then-over;
  ever-reached = refl;
  largest = refl;
  none-larger = refl;
}

-- ---- backtracking
pub trials-reached : TrialsReached
unfolding reached tallied answer_by tried_of one_more add mul neg le lt of_bits of_int
trials-reached = record {
  t = trials_fresh (trials_setup trial_options f0 s0);
  given = refl;
  search-reached = refl;
  still-asks = refl;
  then-over = refl;
  evaluations-reached = refl;
  non-finite-reached = refl;
}
