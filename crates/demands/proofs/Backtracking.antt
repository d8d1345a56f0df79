-- Demands 1 to 3 of backtracking (`backtracking-demands`). Of every search that `start` gave (`searches`): its outcomes
-- and its count of iterations are those of 01's rules; it is over after 1 + N answers; its evaluations are the finite
-- answers accepted; and 5 never comes. Assumes nothing.
use mathlib.Core.Path.{◌≡◌, refl, sym, ap, ◌∙◌, subst}
use mathlib.Core.Bool.{true, cond}
use mathlib.Core.List.{List, [], ◌∷◌, ◌++◌}
use Rattle.std.specs.Prelude.{Some}
use Prim.Native.Nat.{ℕ, ◌+◌, ◌-◌, ◌≤◌, ◌<◌}
use native.Mathlib.Omega.{arith}
use lib.Ieee.{Float, binary64, fits}
use borrow.Author.Tests.{leb-false}
use Rattle.refusals.specs.Results.{value}
use Rattle.refusals.specs.Refusals.{is_in_order, refused_by}
use Rattle.refusals.proofs.Refusals.{Passed, passed, never-refused, by_rows}
use Rattle.runs.specs.Outcomes.{refusal_in}
use Rattle.runs.specs.Asking.{Reply, shown, reported, is_over as over, once_told, after, told_next, reached}
use Rattle.runs.specs.Counters.{one_more}
use Rattle.runs.specs.declared.Evaluations.{Evaluations}
use Rattle.runs.specs.declared.Iterations.{Iterations}
use Rattle.runs.proofs.Ends.{EndsWithin, by_after}
use Rattle.runs.proofs.Machines.{counts-on}
use Rattle.runs.proofs.Tied.{Tied, after-one-more, stands_at, told_at, outcomes-are, ends-in-time}
use Rattle.runs.proofs.Tied.{finite-bounded, finite-counted, not-finite-once}
use Rattle.runs.proofs.Tied as machines
use Rattle.conditions.specs.Conditions.{answer_finite}
use Rattle.backtracking.specs.declared.Options.{Options}
use Rattle.backtracking.specs.declared.Setup.{Setup}
use Rattle.backtracking.specs.declared.Stage.{Stage}
use Rattle.backtracking.specs.declared.Stage.TheVariants.{First, Later, Over}
use Rattle.backtracking.specs.declared.Backtracking.{Backtracking}
use Rattle.backtracking.specs.Machine.{Turn}
use Rattle.backtracking.specs.Backtracking.{start_rows, setup_of, backtracking}
use Rattle.backtracking.specs.Machine.{tried_of, answer_by, answer_of, fresh_of, start_of}
use Rattle.backtracking.specs.Meaning.{meaning, meant, is_over, Follows}
use Rattle.backtracking.proofs.Bridge.{follows, starts-whole, first-asked}
use Rattle.demands.specs.Backtracking.{machine, Searches, BacktrackingDemands}
use Rattle.demands.proofs.Trials.{supplied, ranges, limit-fits, alpha-finite, trials-end}
use Rattle.demands.proofs.Trials.{NotFive, other-number, not_five, five-untold}
use Rattle.demands.proofs.Tried.{by_tests, answered}
use Rattle.demands.proofs.EmptyPrograms.{first-shut-out, empty-shut-out, second-ask}

-- ---- any state: the rules report what it counts, and are over where it is
reports : (s : Setup) (i : ℕ) (stage : Stage) → reported (meaning s i stage) ≡ i
unfolding meaning reported
reports s i First = refl
reports s i (Later t) = refl
reports s i Over = refl

over-is : (s : Setup) (i : ℕ) (stage : Stage) → is_over stage ≡ over (meaning s i stage)
unfolding meaning over
over-is s i First = refl
over-is s i (Later t) = refl
over-is s i Over = refl

whole : (s : Setup) → meant (fresh_of s).search ≡ once_told (backtracking s)
unfolding once_told
whole s = starts-whole s

-- ---- what every state of such a search counts: "each later trial is one iteration", so one fewer than the answers
-- accepted, and none before the first
abbrev Counted : ℕ → Stage → ℕ → ℕ → Type 0
Counted N First e i = (e ≡ 0) × (i ≡ 0)
Counted N (Later t) e i = (e ≡ i + 1) × (i < N)
Counted N Over e i = i ≡ e - 1

one_fewer : (N e i : ℕ) (stage : Stage) → Counted N stage e i → i ≡ e - 1
one_fewer N e i First c = let n = c.0 in let z = c.1 in omega arith
one_fewer N e i (Later t) c = let n = c.0 in omega arith
one_fewer N e i Over c = c

record Fit (s : Setup) (c : Backtracking) : Type 0 where
  same : c.setup ≡ s
  counts : Counted s.options.limit c.stage c.evaluations.0 c.iterations.0

tried-fits : (s : Setup) (n : Evaluations) (before now : Iterations) (t f g : Float) → before.0 ≡ n.0 - 1
    → one_more n.0 ≡ now.0 + 1 → Fit s (tried_of s n before now t f g).search
tried-fits s n before now t f g fewer more =
    by_tests (λ r. Fit s r.search) s n before now t f g
    (λ a. record { same = refl; counts = fewer })
    (λ a h. record { same = refl; counts = omega arith })
    (λ a h l. record { same = refl; counts = omega arith })
    (λ a h l x. record { same = refl; counts = (more, leb-false _ _ l) })
    (λ a h l x. record { same = refl; counts = omega arith })

fits_next : (c : Backtracking) (f g : Float) (stage : Stage) → c.stage ≡ stage → c.setup.options.limit ≤ 10000
    → Counted c.setup.options.limit stage c.evaluations.0 c.iterations.0
    → Fit c.setup (answer_by c f g stage).search
unfolding answer_by
fits_next c f g First w small counted =
    let n = counted.0 in
    let i = counted.1 in
    let one = counts-on c.evaluations.0 1 (omega arith) (omega arith) in
    tried-fits c.setup c.evaluations c.iterations c.iterations _ f g (omega arith) (omega arith)
fits_next c f g (Later t) w small counted =
    let n = counted.0 in
    let i = counted.1 in
    let one = counts-on c.evaluations.0 10001 (omega arith) (omega arith) in
    let now = counts-on c.iterations.0 10001 (omega arith) (omega arith) in
    tried-fits c.setup c.evaluations c.iterations _ t f g (omega arith) (omega arith)
fits_next c f g Over w small counted = record { same = refl; counts = rw w counted }

-- ---- a start that no row refuses: the search that it gives, and every list of answers
module _ (o : Options) (f0 s0 : Float) (ok : Passed (start_rows o f0 s0)) where
  abbrev s : Setup
  s = setup_of o f0 s0

  small : o.limit ≤ 10000
  small = limit-fits o (ranges o f0 s0 ok)

  step : (c : Backtracking) → Fit s c → (f g : Float) → Follows c f g (answer_of c f g)
  step c v f g = let l = small in follows c (rw v.same (omega arith)) f g _ refl

  fit_next : (c : Backtracking) → Fit s c → (f g : Float) → Fit s (answer_of c f g).search
  fit_next c v f g =
      subst (λ (u : Setup). Fit u (answer_of c f g).search) v.same
      (fits_next c f g c.stage refl (rw v.same small) (rw v.same v.counts))

  abbrev tied : Tied machine ℕ
  tied = record {
    meant = meant;
    Fit = Fit s;
    fit_next = fit_next;
    leaves = λ c v f g. (step c v f g).leaves;
    tells = λ c v f g. (step c v f g).tells;
    over-is = λ c. over-is c.setup c.iterations.0 c.stage;
    finite = answer_finite o.condition;
    counted = λ c. c.evaluations.0;
    counts = λ c v f g.
        subst (λ (u : Setup). (answer_of c f g).search.evaluations.0
        ≡ cond (is_over c.stage) c.evaluations.0
        (cond (answer_finite u.options.condition f g) (one_more c.evaluations.0) c.evaluations.0)) v.same
        (answered c f g (answer_of c f g) refl).counts;
    first = (fresh_of s).search;
    first_fits = record { same = refl; counts = (refl, refl) };
    none-counted = refl;
    rules = backtracking s;
    whole = whole s;
    most = 1 + o.limit;
    within = subst (λ (n : ℕ). EndsWithin (answer_finite o.condition) n (backtracking s)) (omega arith)
        (trials-end s o.limit 0 0 o.alpha);
    countable = let l = small in omega arith;
  }

  abbrev reached_by : List Reply → Backtracking
  reached_by ys = reached machine (fresh_of s).search ys

  never-five : fits binary64 o.alpha ≡ true → (ys : List Reply) (y : Reply)
      → refusal_in (told_next machine (fresh_of s).search ys y) ≡ Some 5 → ⊥
  unfolding NotFive
  never-five F ys y e =
      five-untold (after (backtracking s) (ys ++ (y ∷ [])))
      (by_after (other-number 8 (λ q. omega arith)) (backtracking s)
      (not_five s (ranges o f0 s0 ok) o.limit 0 0 o.alpha F (alpha-finite o f0 s0 (supplied o f0 s0 ok)))
      (ys ++ (y ∷ [])))
      (ap refusal_in (ap shown (after-one-more (backtracking s) ys y) ∙ sym (told_at tied ys y)) ∙ e)

  of-fresh : Searches o f0 s0 (fresh_of s)
  of-fresh = record {
    never-five = never-five;
    first-ask = first-asked s;
    outcomes-are-rules = outcomes-are tied;
    iterations-are-rules = λ ys.
        let c = reached_by ys in
        sym (reports c.setup c.iterations.0 c.stage) ∙ machines.reports tied _ _ (stands_at tied ys);
    iterations-counted = λ ys.
        let c = reached_by ys in
        one_fewer _ _ _ c.stage (stands_at tied ys).fits.counts
        ∙ ap (λ (n : ℕ). n - 1) (finite-counted tied ys);
    refusing-start-shut-out = λ k starts. never-refused (start_rows o f0 s0) (backtracking s) ok _ starts.stands-for;
    search-ends = λ ys many. ends-in-time tied ys (omega arith);
    evaluations-counted = finite-counted tied;
    evaluations-bounded = λ ys. let few = finite-bounded tied ys in omega arith;
    non-finite-once = not-finite-once tied;
  }

pub searches : (o : Options) (f0 s0 : Float) (t : Turn) → start_of o f0 s0 ≡ value t → Searches o f0 s0 t
searches o f0 s0 t began =
    let given = passed (start_rows o f0 s0) (fresh_of (setup_of o f0 s0)) t began in
    subst (Searches o f0 s0) given.1 (of-fresh o f0 s0 given.0)

pub backtracking-demands : BacktrackingDemands
unfolding is_in_order
backtracking-demands = record {
  start = λ o f0 s0 r said. record { exactly = ap refused_by said ∙ by_rows (start_rows o f0 s0) _; ordered = refl };
  answer = answered;
  first-shut-out = first-shut-out;
  empty-shut-out = empty-shut-out;
  second-ask = second-ask;
  search-given = searches;
}
