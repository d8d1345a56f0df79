-- One answer to the machine is one answer to 01's rules: what the next state stands for is what the rules leave, and
-- what is told is what they tell (`answers`). Of the state only: its limit is a u32, and its L is no NaN.
use mathlib.Core.Path.{◌≡◌, refl, ap, ◌∙◌}
use mathlib.Core.Bool.{true, false, ◌&&◌}
use Prim.Native.Nat.{ℕ, zero, suc, ◌+◌, ◌-◌, ◌≤◌, ◌<◌}
use native.Mathlib.Nat.{suc-ne-zero}
use native.Mathlib.Omega.{arith}
use lib.Dec.{leb, eqb}
use lib.Ieee.{Float, is_nan}
use lib.Ieee.Scale.{finite}
use borrow.Author.Tests.{leb-true, leb-false, ne_eqb}
use Rattle.floats.specs.Arithmetic.{◌<ᶠ◌}
use Rattle.refusals.specs.Results.{Result}
use Rattle.refusals.specs.Refusals.{number_of}
use Rattle.refusals.specs.declared.Refusal.{Refusal}
use Rattle.refusals.specs.declared.Refusal.TheVariants.{StepNotFinite, BudgetSpent, StepNotBetween}
use Rattle.runs.specs.Outcomes.{limit, refusal, Told, told, Why, budget_spent, step_not_finite, step_not_between}
use Rattle.runs.specs.Outcomes.{number_for}
use Rattle.runs.specs.Asking.{Rest, end_with, keeping, respond, shown, first_of, once_told}
use Rattle.runs.specs.Counters.{one_more, iterations}
use Rattle.runs.proofs.Machines.{Seen, seen, counts-on}
use Rattle.runs.proofs.Begins as starting
use Rattle.runs.specs.declared.Evaluations.{Evaluations}
use Rattle.floats.proofs.Branches.{by_cases, by-cases₂, and_first, and_second}
use Rattle.hagerzhang_steps.specs.declared.state.Asked.{Asked}
use Rattle.hagerzhang_steps.specs.declared.state.Asked.TheVariants.{Update, Between}
use Rattle.hagerzhang_rules.specs.declared.Point.{Point}
use Rattle.hagerzhang_rules.specs.declared.Bracket.{Bracket}
use Rattle.hagerzhang_rules.specs.declared.Way.{Way}
use Rattle.hagerzhang_rules.specs.declared.Way.TheVariants.{Bounded, Growing}
use Rattle.hagerzhang_rules.specs.declared.Options.{Options}
use Rattle.hagerzhang_rules.specs.declared.Setup.{Setup}
use Rattle.hagerzhang_rules.specs.declared.Came.{Came}
use Rattle.hagerzhang_rules.specs.declared.Came.TheVariants.{To, On}
use Rattle.std.specs.Prelude.{Option, Some, None, Ok, Err}
use Rattle.std.specs.Prelude as Rust
use Rattle.hagerzhang.specs.Machine.{Turn, Started}
use Rattle.hagerzhang_steps.specs.declared.state.Finished.{Finished}
use Rattle.hagerzhang_steps.specs.declared.state.Rule.{Rule}
use Rattle.hagerzhang_steps.specs.declared.state.Rule.TheVariants.{S1 as ByS1, S4 as ByS4, L2 as ByL2}
use Rattle.hagerzhang_steps.specs.declared.state.Trial.{Trial}
use Rattle.hagerzhang_steps.specs.declared.state.Waiting.{Waiting}
use Rattle.hagerzhang_steps.specs.declared.state.Opening.{Opening}
use Rattle.hagerzhang_steps.specs.declared.state.Opening.TheVariants.{Low, High, StartStep, First, Later, Inside}
use Rattle.hagerzhang_steps.specs.declared.state.Waiting.TheVariants.{Starting, Running}
use Rattle.hagerzhang_steps.specs.declared.state.Stage.{Stage}
use Rattle.hagerzhang_steps.specs.declared.state.Stage.TheVariants.{Open, Over}
use Rattle.hagerzhang_steps.specs.declared.moves.Move.{Move}
use Rattle.hagerzhang_steps.specs.declared.moves.Move.TheVariants.{ByLimit}
use Rattle.hagerzhang_steps.specs.declared.moves.Tested.{Tested}
use Rattle.hagerzhang_steps.specs.declared.iteration.Then.{Then}
use Rattle.hagerzhang_steps.specs.declared.iteration.Then.TheVariants.{Close}
use Rattle.hagerzhang_steps.specs.declared.state.Next.{Next}
use Rattle.hagerzhang.specs.declared.state.Search.{Search}
use Rattle.hagerzhang_rules.specs.Parameters.{setup_of, start_rows}
use Rattle.hagerzhang_rules.specs.Rules.{point, answer_finite, middle_of, narrowed_of, longer_of, secant_of, S4, L2}
use Rattle.hagerzhang_rules.specs.Rules.{best_of}
use Rattle.hagerzhang_rules.specs.Rules.{judge_of, asking, trial, between, U3, updating, update, further, after_s4}
use Rattle.hagerzhang_rules.specs.Rules.{iteration, iteration_by, ask_start, ask_high, enough, growth}
use Rattle.hagerzhang_rules.specs.Rules.{starting as Starts-by, Report, nothing_yet, report_of, decided, verdict}
use Rattle.hagerzhang_rules.specs.Rules.{rounds, rounds_by, hager_zhang, hager_zhang_by}
use Rattle.hagerzhang_decisions.proofs.Decides.{decides}
use Rattle.hagerzhang_steps.specs.State.{narrowing}
use Rattle.hagerzhang_steps.specs.Moves.{tries_of, finished_of, attempt_of, probe_of, narrow_by, test_of, made_by}
use Rattle.hagerzhang_steps.specs.Moves.{outlook_by, made_of, settled_of}
use Rattle.hagerzhang_steps.specs.Opening.{first_by, first_of as opening_of, inside_of, arrived_of, stretch_of, grew_by}
use Rattle.hagerzhang_steps.specs.Opening.{opens_of}
use Rattle.hagerzhang_steps.specs.Iteration.{comes_of, left_of, tried_by, after_s4_of, after_s1_of, follow_by}
use Rattle.hagerzhang_steps.specs.Iteration.{onward_of, went_of, running_of}
use Rattle.hagerzhang_steps.specs.Steps.{starts_of, react_of}
use Rattle.hagerzhang.specs.Machine.{keeps_of, step_asked, opening_step, step_due, taken_of, answer_by, answer_of}
use Rattle.hagerzhang.specs.Machine.{fresh_of, start_of, StartSaid, AnswerSaid}
use Rattle.hagerzhang_steps.specs.Reports.{last_of, kept_report}
use Rattle.hagerzhang.specs.Meaning.{closed, after_trial, on_asked, begins as begins-with, on_opening, on_answer}
use Rattle.hagerzhang.specs.Meaning.{meaning, meant, begun, Starts, Follows}
use Rattle.runs.specs.declared.Verdict.{Verdict}
use Rattle.hagerzhang_steps.specs.declared.state.Narrowing.{Narrowing}

denote : Setup → Next → Seen Report
denote s n = (meaning s n.stage, told n.outcome)

denote_step : Turn → Seen Report
denote_step t = (meant t.search, told t.outcome)

-- ---- U3's next step, in an iteration and in the start, while n answers may come: 6, 5, 7. Whatever is `built` of the
-- test's result, it is the rules' U3, where each refusal is the rules' and a step that passes is asked
module _ (s : Setup) (k : Report) (built : Rust.Result Narrowing Refusal → Next) (h : Point) (k' : Float)
    (then : Bracket → Rest Report)
    (refuses : (r : Refusal) (why : Why) → number_of r ≡ number_for why
    → denote s (built (Err r)) ≡ seen (end_with k (refusal why)))
    (passes : (d : Float) (n : ℕ)
    → denote s (built (Ok (narrowing h k' d n)))
    ≡ seen (asking s (keeping k) k d (λ p. U3 s (keeping k) k n (narrowed_of s.level h k' p) then))) where
  probes : (n : ℕ)
      → denote s (built (probe_of s.options.params.theta h k' n)) ≡ seen (U3 s (keeping k) k n (On h k') then)
  unfolding probe_of U3 between
  probes zero = refuses BudgetSpent (budget_spent h.x k') refl
  probes (suc n) =
      let x = middle_of s.options.params.theta h k' in
      let Means : Rust.Result Narrowing Refusal → Rest Report → Type 0 = λ p r. denote s (built p) ≡ seen r in
      let e : suc n - 1 ≡ n = omega arith in
      let z : eqb (suc n) 0 ≡ false = ne_eqb (suc n) 0 (λ (p : suc n ≡ 0). suc-ne-zero n p) in
      rw (e, z)
      (by-cases₂ Means (finite x)
      (λ e. by-cases₂ Means (h.x <ᶠ x && x <ᶠ k') (λ e. passes x n)
      (λ e. refuses StepNotBetween (step_not_between h.x k' x) refl))
      (λ e. refuses StepNotFinite (step_not_finite x) refl))

-- ---- in an iteration: `fin` is what the last finished one left
module _ (s : Setup) (fin : Finished) where
  abbrev k : Report
  k = last_of fin

  -- what a move means, and what follows in the iteration
  abbrev moved : Move → Seen Report
  moved m = denote s (made_of s.options.params.theta fin m)

  abbrev went : Then → Seen Report
  went t = denote s (went_of s fin t)

  abbrev Means : Tested → Rest Report → Type 0
  Means t r = denote s (made_by fin t) ≡ seen r

  -- a trial (5)
  tries : (rule : Rule) (w : Bracket) (x : Float)
      → moved (tries_of w rule x)
      ≡ seen (trial s (keeping k) k x (λ c. update s (keeping k) k w c (after_trial s fin rule x)))
  unfolding attempt_of test_of made_by trial on_answer on_asked keeps_of step_due step_asked kept_report denote seen
      once_told shown meaning
  tries rule w x = by-cases₂ Means (finite x) (λ e. refl) (λ e. refl)

-- ---- the start or an iteration is finished: the verdict, the limit, and S1 of the next iteration
module _ (s : Setup) (h : s.options.limit < 4294967296) (w : Bracket) (c : Point) (i : ℕ) where
  abbrev done : Finished
  done = finished_of w c (iterations i)

  abbrev N : ℕ
  N = s.options.limit

  -- what follows the verdict, while n iterations may be begun
  onwards : ℕ → Rest Report
  onwards zero = end_with (report_of s w c i) (limit (best_of w.a w.b c).x)
  onwards (suc n) = iteration s (keeping (report_of s w c i)) (report_of s w c i) w (λ z v. rounds s n v c (i + 1))

  round_is : (n : ℕ) → verdict s w c i (onwards n) ≡ rounds s n w c i
  unfolding onwards rounds_by
  round_is zero = refl
  round_is (suc n) = refl

  limits : (n : ℕ) → n ≡ 0 → moved s done ByLimit ≡ seen (onwards n)
  unfolding onwards test_of made_by denote seen once_told shown kept_report meaning
  limits n e = rw e

  begins : (n : ℕ) → one_more i ≡ i + 1 → n ≡ suc (N - one_more i)
      → moved s done (tries_of w ByS1 (secant_of w.a w.b)) ≡ seen (onwards n)
  unfolding onwards iteration_by after_trial trial
  begins n p e = rw (e, ← p) (tries s done ByS1 w (secant_of w.a w.b))

  unjudged : moved s done (outlook_by s done None) ≡ seen (onwards (N - i))
  unfolding outlook_by
  unjudged =
      by_cases (λ m. moved s done m ≡ seen (onwards (N - i))) (leb N i)
      (λ e. limits (N - i) (let l : N ≤ i = leb-true N i e in omega arith))
      (λ e.
      let l : i < N = leb-false N i e in
      let p : one_more i ≡ i + 1 = counts-on i N h l in
      begins (N - i) p (rw p (omega arith)))

  judges : (go : Rest Report) → moved s done (outlook_by s done None) ≡ seen go → (j : Option Verdict)
      → moved s done (outlook_by s done j) ≡ seen (decided (report_of s w c i) done.best.x go j)
  unfolding outlook_by decided test_of made_by denote seen once_told shown kept_report meaning
  judges go e (Some v) = refl
  judges go e None = e

  settles : denote s (settled_of s w c (iterations i)) ≡ seen (rounds s (N - i) w c i)
  unfolding verdict
  settles = judges (onwards (N - i)) unjudged (judge_of s done.best) ∙ ap seen (round_is (N - i))

-- ---- the way of an answer in an iteration
module _ (s : Setup) (h : s.options.limit < 4294967296) (fin : Finished) where
  abbrev gamma : Float
  gamma = s.options.params.gamma

  closes : (v : Bracket) → went s fin (Close v) ≡ seen (closed s fin v)
  unfolding went_of
  closes v = settles s h v fin.c (one_more fin.iterations.0)

  -- a further trial, or otherwise what follows
  tried : (u : Bracket) (rule : Rule) (otherwise : Then) (then : Bracket → Rest Report) (f : Option Float)
      → went s fin otherwise ≡ seen (then u)
      → ((x : Float) → then ≡ after_trial s fin rule x)
      → went s fin (tried_by u rule otherwise f) ≡ seen (further s (keeping (last_of fin)) (last_of fin) f u then)
  unfolding tried_by further went_of
  tried u rule otherwise then (Some x) e same = rw (same x) (tries s fin rule u x)
  tried u rule otherwise then None e same = e

  after-S4 : (v : Bracket)
      → went s fin (after_s4_of gamma fin.bracket v)
      ≡ seen (after_s4 s (keeping (last_of fin)) (last_of fin) fin.bracket v (closed s fin))
  unfolding after_s4 after_trial
  after-S4 v = tried v ByL2 (Close v) (closed s fin) (L2 gamma fin.bracket v) (closes v) (λ x. refl)

  after-S1 : (c : Float) (u : Bracket)
      → went s fin (after_s1_of gamma fin.bracket c u)
      ≡ seen (after_trial s fin ByS1 c u)
  unfolding after_trial
  after-S1 c u =
      tried u ByS4 (after_s4_of gamma fin.bracket u)
      (λ v. after_s4 s (keeping (last_of fin)) (last_of fin) fin.bracket v (closed s fin))
      (S4 fin.bracket c u) (after-S4 u) (λ x. refl)

  follows_on : (rule : Rule) (c : Float) (u : Bracket)
      → went s fin (follow_by gamma fin.bracket c u rule) ≡ seen (after_trial s fin rule c u)
  unfolding follow_by after_trial
  follows_on ByS1 c u = after-S1 c u
  follows_on ByS4 c u = after-S4 u
  follows_on ByL2 c u = closes u

  module _ (t : Trial) where
    abbrev goes_on : Bracket → Rest Report
    goes_on = after_trial s fin t.rule t.x

    -- U3 while n answers may come
    narrows : (n : ℕ) (came : Came)
        → went s fin (onward_of gamma fin.bracket t n came)
        ≡ seen (U3 s (keeping (last_of fin)) (last_of fin) n came goes_on)
    unfolding onward_of went_of test_of narrow_by made_by U3 meaning on_answer on_asked keeps_of step_due step_asked
        kept_report denote seen once_told shown
    narrows zero (To u) = follows_on t.rule t.x u
    narrows (suc n) (To u) = follows_on t.rule t.x u
    narrows n (On h k') =
        probes s (last_of fin) (λ p. made_by fin (narrow_by t p)) h k' goes_on (λ r why e. rw e) (λ d m. refl) n

  -- an answer to a trial, and to U3's step
  runs : is_nan s.level ≡ false → (t : Trial) (asked : Asked) (f g : Float) → finite f ≡ true → finite g ≡ true
      → denote s (running_of s fin t asked f g) ≡ seen (on_asked s fin t asked f g)
  unfolding on_asked comes_of left_of updating
  runs real t (Update w) f g ff fg =
      rw (decides s.level w (point t.x f g) real ff fg) (narrows t s.options.budget _)
  runs real t (Between e) f g ff fg = narrows t e.left _

module _ (s : Setup) (h : s.options.limit < 4294967296) (real : is_nan s.level ≡ false) where
  starts-rounds : (w : Bracket) (c : Point)
      → denote s (settled_of s w c (iterations 0)) ≡ seen (rounds s s.options.limit w c 0)
  starts-rounds w c = let e : s.options.limit - 0 ≡ s.options.limit = omega arith in rw e at (settles s h w c 0)

  -- a bracket is come to, or U3 goes on while n answers may come; c is the first trial
  arrives : (c : Point) (n : ℕ) (came : Came)
      → denote s (starts_of s (arrived_of s.options.params.theta c n came))
      ≡ seen (U3 s (keeping nothing_yet) nothing_yet n came (begins-with s c))
  unfolding arrived_of inside_of starts_of U3 meaning on_answer on_opening keeps_of step_due opening_step kept_report
      denote seen once_told shown
  arrives c zero (To w) = starts-rounds w c
  arrives c (suc n) (To w) = starts-rounds w c
  arrives c n (On h k) =
      probes s nothing_yet (λ p. starts_of s (inside_of c p)) h k (begins-with s c) (λ r why e. rw e) (λ d m. refl) n

  -- after a trial t, while the step may grow n times more (11, then 5)
  grows : (c t : Point) (n : ℕ) (grown : Option Came)
      → denote s (starts_of s (grew_by s c t n grown))
      ≡ seen (growth s (keeping nothing_yet) nothing_yet n t grown (begins-with s c))
  unfolding grew_by stretch_of starts_of growth enough trial meaning on_answer on_opening keeps_of step_due opening_step
      kept_report denote seen once_told shown
  grows c t zero (Some came) = arrives c s.options.budget came
  grows c t (suc n) (Some came) = arrives c s.options.budget came
  grows c t zero None = refl
  grows c t (suc n) None =
      let e : suc n - 1 ≡ n = omega arith in
      let z : eqb (suc n) 0 ≡ false = ne_eqb (suc n) 0 (λ (p : suc n ≡ 0). suc-ne-zero n p) in
      rw (e, z) (by-cases₂ (λ o r. denote s (starts_of s o) ≡ seen r) (finite (longer_of t)) (λ e. refl) (λ e. refl))

  -- a finite answer in the start
  opens : (w : Opening) (f g : Float) → denote s (starts_of s (opens_of s w f g)) ≡ seen (on_opening s w f g)
  unfolding opens_of on_opening
  opens (Low e) f g =
      unfold ask_high starts_of keeps_of step_due opening_step kept_report denote seen once_told shown meaning
      on_answer in
      refl
  opens (High a x) f g =
      unfold ask_start starts_of keeps_of step_due opening_step kept_report denote seen once_told shown meaning
      on_answer in
      refl
  opens (StartStep w) f g = unfold starts_of in starts-rounds w (point s.options.params.start f g)
  opens (First w) f g = grows (point w.x f g) (point w.x f g) w.left _
  opens (Later w c) f g = grows c (point w.x f g) w.left _
  opens (Inside e c) f g = arrives c e.left _

  -- every finite answer
  reacts : (waiting : Waiting) (f g : Float) → finite f ≡ true → finite g ≡ true
      → denote s (react_of s waiting f g) ≡ seen (on_answer s waiting f g)
  unfolding react_of on_answer
  reacts (Starting w) f g ff fg = opens w f g
  reacts (Running t fin asked) f g ff fg = runs s h fin real t asked f g ff fg

  answered : (n : Evaluations) (waiting : Waiting) (f g : Float)
      → denote_step (taken_of s n waiting f g) ≡ seen (respond (meaning s (Open waiting)) f g)
  unfolding taken_of respond denote denote_step seen once_told shown meaning
  answered n waiting f g =
      by-cases₂ (λ t r. denote_step t ≡ seen r) (answer_finite f g)
      (λ e. reacts waiting f g (and_first (finite f) (finite g) e) (and_second (finite f) (finite g) e)) (λ e. refl)

-- every answer to every state
module _ (s : Search) (h : s.setup.options.limit < 4294967296) (real : is_nan s.setup.level ≡ false)
    (f g : Float) where
  answers_by : (stage : Stage) → s.stage ≡ stage
      → denote_step (answer_by s f g stage) ≡ seen (respond (meaning s.setup stage) f g)
  unfolding answer_by
  answers_by (Open waiting) e = answered s.setup h real s.evaluations waiting f g
  answers_by (Over kept) e = unfold denote_step seen respond once_told shown meaning in rw e

  answers : denote_step (answer_of s f g) ≡ seen (respond (meant s) f g)
  answers = answers_by s.stage refl

  pub follows : (r : Turn) → AnswerSaid s f g r → Follows s f g r
  unfolding denote_step seen
  follows r e =
      let z = ap denote_step e ∙ answers in
      record { tells = ap (λ (p : Seen Report). p.1) z; leaves = ap (λ (p : Seen Report). p.0) z }

-- what `answer` promises of its result
pub promised : (s : Search) (f g : Float) → s.setup.options.limit < 4294967296 → (r : Turn) → AnswerSaid s f g r
    → record { exact : AnswerSaid s f g r; rules : is_nan s.setup.level ≡ false → Follows s f g r }
promised s f g h r e = record { exact = e; rules = λ real. follows s h real f g r e }

-- ---- `start`, in either way
begins-by : (s : Setup) (way : Way)
    → meaning s (Open (Starting (first_by s way))) ≡ Starts-by s (keeping nothing_yet) nothing_yet way (begins-with s)
unfolding first_by meaning keeps_of step_due opening_step kept_report on_answer on_opening Starts-by
begins-by s (Bounded e) = refl
begins-by s (Growing K) = refl

pub starts-whole : (s : Setup) → meaning s (Open (Starting (opening_of s))) ≡ hager_zhang s
unfolding hager_zhang_by
starts-whole s = begins-by s s.options.way

-- it asks a step, so that it is what is left once that is told
once-asked : (s : Setup) (w : Opening) → meaning s (Open (Starting w)) ≡ once_told (meaning s (Open (Starting w)))
unfolding meaning once_told
once-asked s w = refl

pub begins-whole : (s : Setup) → meant (fresh_of s).search ≡ once_told (hager_zhang s)
begins-whole s = once-asked s (opening_of s) ∙ ap once_told (starts-whole s)

pub first-asked : (s : Setup) → told (fresh_of s).outcome ≡ shown (hager_zhang s)
first-asked s = unfold shown meaning step_due in ap shown (starts-whole s)

-- what a result of a start stands for, and what it says, are the rules'
abbrev stands : Result Turn → Result (Rest Report)
stands = starting.stands (λ (t : Turn). meant t.search) (λ (t : Turn). told t.outcome)

abbrev says : Result Turn → Told
says = starting.says (λ (t : Turn). meant t.search) (λ (t : Turn). told t.outcome)

module _ (o : Options) (f0 s0 : Float) where
  start-stands : stands (start_of o f0 s0) ≡ begun o f0 s0
  start-stands =
      let s = setup_of o f0 s0 in
      starting.stands-so _ _ (start_rows o f0 s0) (fresh_of s) (hager_zhang s) (starts-whole s)

  start-says : says (start_of o f0 s0) ≡ first_of (begun o f0 s0)
  start-says =
      let s = setup_of o f0 s0 in
      starting.says_so _ _ (start_rows o f0 s0) (fresh_of s) (hager_zhang s) (first-asked s)

  pub starts : (r : Started) → StartSaid o f0 s0 r → Starts o f0 s0 r
  unfolding starting.stands starting.says
  starts (Ok t) e = record { stands-for = ap stands e ∙ start-stands; tells_first = ap says e ∙ start-says }
  starts (Err k) e = record { stands-for = ap stands e ∙ start-stands; tells_first = ap says e ∙ start-says }

  -- what `start` promises of its result
  pub start-promised : (r : Started) → StartSaid o f0 s0 r
      → record { exact : StartSaid o f0 s0 r; rules : Starts o f0 s0 r }
  start-promised r e = record { exact = e; rules = starts r e }
