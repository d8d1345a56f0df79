-- Demand 3: the bracket, the bounds and the counts, of every Hager-Zhang search that `start` gave and every list of
-- answers. Its words stand in hagerzhang_rules/specs, Brackets.antt and Iterations.antt. (Backtracking:
-- specs/Backtracking.antt.)
use Rattle.std.specs.Prelude.{ℕ, ◌+◌, ◌*◌, ◌≤◌, ◌≡◌, true, List, ◌∷◌, length, Float}
use Rattle.runs.specs.Outcomes.{limit, ends}
use Rattle.runs.specs.Asking.{Reply}
use Rattle.hagerzhang_rules.specs.declared.Point.{Point}
use Rattle.hagerzhang_rules.specs.declared.Bounds.{Bounds}
use Rattle.hagerzhang_rules.specs.declared.Way.TheVariants.{Bounded as ByBounds, Growing}
use Rattle.hagerzhang_rules.specs.declared.Options.{Options}
use Rattle.hagerzhang_rules.specs.declared.Setup.{Setup}
use Rattle.hagerzhang_rules.specs.Parameters.{setup_of}
use Rattle.hagerzhang_rules.specs.Rules.{point, Summary, Report, nothing_yet, last, iterations_in}
use Rattle.hagerzhang_rules.specs.Brackets.{premise, Ordered}
use Rattle.hagerzhang_rules.specs.Iterations.{most_in_start, most_in_iteration, most_ever, Whole, Brings}
use Rattle.hagerzhang.specs.declared.state.Search.{Search}
use Rattle.hagerzhang.specs.Machine.{Turn}
use Rattle.hagerzhang.specs.Meaning.{report, is_over}
use Rattle.demands.specs.Runs.{Gave, reached_by, told_after, and_then, finite_by, not_finite_by, points_asked, asked_at}
use Rattle.demands.specs.Runs.{finished_by}

-- ---- the bounds; specs/Reached.antt has a search that reaches each

-- "3+N(3+3B)", and 1+K+B+N(3+3B) behind a start that grows: `most_in_start`, `most_in_iteration` and, at the largest B,
-- N and K, `most_ever` are those of hagerzhang_rules/specs/Iterations.antt
abbrev pub most_in_search : Options → ℕ
most_in_search o = most_in_start o + o.limit * most_in_iteration o

-- ---- a search ended at its n-th iteration, with the best step x
pub record AtLimit (n : ℕ) (x : Float) (held : Report) : Type 0 where
  pub p : Summary
  pub holds : held ≡ last p
  pub iterations : p.iterations ≡ n
  pub best : p.best.x ≡ x

-- ---- a search t that `start` gave for the options o, and the cost f0 and slope s0 at step 0

module _ (o : Options) (f0 s0 : Float) (t : Turn) where
  abbrev s : Setup
  s = setup_of o f0 s0

  abbrev b : Search
  b = t.search

  -- "the answered starting ends"
  abbrev low_end : Bounds → Reply → Point
  low_end e y = point e.min y.0 y.1

  abbrev high_end : Bounds → Reply → Point
  high_end e y = point e.max y.0 y.1

  pub record Bounded : Type 0 where
    -- "low step < high step": of whatever bracket is held, whatever the slopes are
    pub bracket-ordered : (ys : List Reply) (p : Summary) → report (reached_by b ys) ≡ last p → Ordered p.bracket
    -- "Let the answered starting ends have low slope < 0, low cost <= L .. and high slope >= 0. Then after each
    -- finished iteration the bracket meets the same three": whatever bracket is held
    pub bracket-stays : (e : Bounds) → o.way ≡ ByBounds e → (ya yb yc : Reply) (ys : List Reply)
        → premise s.level (low_end e ya) (high_end e yb) ≡ true
        → (p : Summary) → report (reached_by b (ya ∷ yb ∷ yc ∷ ys)) ≡ last p
        → premise s.level p.bracket.a p.bracket.b ≡ true
    -- 02, request 3: behind a start that grows there is nothing to let (specs/StartBracketing.antt)
    pub bracket-holds : (K : ℕ) → o.way ≡ Growing K → (ys : List Reply)
        → (p : Summary) → report (reached_by b ys) ≡ last p
        → premise s.level p.bracket.a p.bracket.b ≡ true
    -- "and it lies within the former bracket. Each end is, bit for bit, a former end or a step asked in that iteration
    -- with its answer": `narrows`, `low-from` and `high-from` of `Whole`, where one more answer counts one more
    -- iteration. No premise, whatever the slopes are: with those above demand 3's own sentence follows
    pub each-iteration : (ys : List Reply) (y : Reply) (p q : Summary)
        → report (reached_by b ys) ≡ last p
        → report (reached_by b (and_then ys y)) ≡ last q
        → q.iterations ≡ p.iterations + 1
        → Whole s p (asked_at b ys y) q
    -- "an iteration takes at most 3+3B answers": also one that is not finished
    pub iteration-bounded : (ys : List Reply) (p : Summary) → report (reached_by b ys) ≡ last p
        → length (points_asked b ys) ≤ most_in_iteration o
    -- three answers of 01's start; 02, request 3: "at most 1+K+B"
    pub start-bounded : (ys : List Reply) → report (reached_by b ys) ≡ nothing_yet
        → length (points_asked b ys) ≤ most_in_start o
    -- "any search ends within 3+N(3+3B)", or 1+K+B+N(3+3B)
    pub search-ends : (ys : List Reply) → most_in_search o ≤ length ys → is_over (reached_by b ys).stage ≡ true
    -- "The reported evaluations equal the finite answers accepted": no counter stops
    pub evaluations-counted : (ys : List Reply) → (reached_by b ys).evaluations.0 ≡ finite_by b ys
    pub evaluations-bounded : (ys : List Reply) → finite_by b ys ≤ most_in_search o
    pub always-bounded : most_in_search o ≤ most_ever o.way
    -- 01 on the counts: each answer leaves the report as it was, or gives the first, or finishes an iteration, which is
    -- counted; so the iterations are those that the answers finished, N at most
    pub each-answer : (ys : List Reply) (y : Reply)
        → Brings s (asked_at b ys y) (report (reached_by b ys)) (report (reached_by b (and_then ys y)))
    pub iterations-counted : (ys : List Reply) → iterations_in (report (reached_by b ys)) ≡ finished_by b ys
    pub iterations-bounded : (ys : List Reply) → iterations_in (report (reached_by b ys)) ≤ o.limit
    -- ""limit", with bracket and best of the N-th iteration"
    pub at-limit : (ys : List Reply) (y : Reply) (x : Float) → told_after b ys y ≡ ends (limit x)
        → AtLimit o.limit x (report (reached_by b (and_then ys y)))
    -- an answer that is not finite is at most one
    pub non-finite-once : (ys : List Reply) → not_finite_by b ys ≤ 1

pub record Demand3 : Type 0 where
  pub search-given : (o : Options) (f0 s0 : Float) (t : Turn) → Gave o f0 s0 t → Bounded o f0 s0 t
