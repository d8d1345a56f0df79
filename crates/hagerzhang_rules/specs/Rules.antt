-- 01, "Hager-Zhang rules", with 02's requests 3, "Start bracketing", and 4, "Zero slope at an end", line by line: each
-- rule once, as a decision; then the flow over them as a run of questions and answers. A point is (x, f, g): step, cost
-- and slope. A bracket is (a, b). L is the setup's level. The types are declared in src/lib.rt, with their cases: what
-- an answer comes to is `To` a bracket, or `On` in U3 with its ends h and k. What a trial of a start that grows comes
-- to is `None` where it was too short; so are a further trial's step, and a verdict, where there is none. The marked
-- sums M1 to M12 are said of this text in specs/MarkedSums.antt. specs/Brackets.antt and specs/Iterations.antt have the
-- words for what is proved of it along any answers.
use Rattle.std.specs.Prelude.{ℕ, zero, suc, ◌+◌, Bool, cond, not, ◌&&◌, ◌||◌, Float, Option, Some, None}
use Rattle.std.specs.Float.{binary64}
use Rattle.std.specs.Float.Ieee.{of_bits}
use Rattle.std.specs.Float.Ieee.Scale.{finite}
use Rattle.floats.specs.Arithmetic.{◌⊕◌, ◌⊖◌, ◌⊗◌, ◌⊘◌, ◌<ᶠ◌, ◌≤ᶠ◌, ◌>ᶠ◌, ◌≥ᶠ◌, ◌=ᶠ◌, 0ᶠ, 1ᶠ, 2ᶠ, 5ᶠ}
use Rattle.numbers.specs.Numbers.{abs_of}
use Rattle.runs.specs.Outcomes.{verdict_word, stop, limit, Why, step_not_finite, budget_spent, step_not_between}
use Rattle.runs.specs.Outcomes.{growths_spent}
use Rattle.runs.specs.Outcomes.{unreachable}
use Rattle.runs.specs.Asking.{Run, end, Rest, end_with, keeping, question}
use Rattle.runs.specs.declared.Verdict.TheVariants.{Wolfe, Approximate}
use Rattle.hagerzhang_rules.specs.declared.Point.{Point}
use Rattle.hagerzhang_rules.specs.declared.Bracket.{Bracket}
use Rattle.hagerzhang_rules.specs.declared.Way.{Way}
use Rattle.hagerzhang_rules.specs.declared.Way.TheVariants.{Bounded, Growing}
use Rattle.hagerzhang_rules.specs.declared.Setup.{Setup}
use Rattle.hagerzhang_rules.specs.declared.Came.{Came}
use Rattle.hagerzhang_rules.specs.declared.Came.TheVariants.{To, On}
use Rattle.runs.specs.declared.Verdict.{Verdict}

abbrev pub point : Float → Float → Float → Point
point x f g = record { x = x; f = f; g = g }

abbrev pub bracket : Point → Point → Bracket
bracket a b = record { a = a; b = b }

-- "EPS = 2^-52"
abbrev pub EPS : Float
EPS = of_bits binary64 0x3cb0_0000_0000_0000

abbrev pub answer_finite : Float → Float → Bool
answer_finite f g = finite f && finite g

-- ---- "Update of (a, b) with c"

-- U0: "c.x <= a.x or c.x >= b.x: unchanged"
abbrev pub outside : Bracket → Point → Bool
outside w c = c.x ≤ᶠ w.a.x || c.x ≥ᶠ w.b.x

-- U0, then U1: "c.g >= 0 (minus zero too): (a, c)". U2: "c.g < 0, c.f <= L: (c, b)". U3: "c.g < 0, c.f > L: ends h = a,
-- k = c.x", and goes on. Where no guard holds the Rust ends with its error "unreachable point": `None`.
unfoldable pub update_of : Float → Bracket → Point → Option Came
update_of L w c =
    cond (outside w c) (Some (To w))
    (cond (c.g ≥ᶠ 0ᶠ) (Some (To (bracket w.a c)))
    (cond (c.g <ᶠ 0ᶠ && c.f ≤ᶠ L) (Some (To (bracket c w.b)))
    (cond (c.g <ᶠ 0ᶠ && c.f >ᶠ L) (Some (On w.a c.x))
    None)))

-- "Ask d.x = (1-theta)*h.x + theta*k."
abbrev pub middle_of : Float → Point → Float → Float
middle_of theta h k = (1ᶠ ⊖ theta) ⊗ h.x ⊕ theta ⊗ k

-- 7: "strictly between its two ends"
abbrev pub is_between : Point → Float → Float → Bool
is_between h k x = h.x <ᶠ x && x <ᶠ k

-- "If d.g >= 0: (h, d). Else if d.f <= L: h = d. Else k = d.x. Repeat."
unfoldable pub narrowed_of : Float → Point → Float → Point → Came
narrowed_of L h k d =
    cond (d.g ≥ᶠ 0ᶠ) (To (bracket h d))
    (cond (d.f ≤ᶠ L) (On d k)
    (On h d.x))

-- ---- 02, request 3: a trial t of a start that grows

-- "the low end is step 0 with f0 and s0"
abbrev pub zero_of : Setup → Point
zero_of s = point 0ᶠ s.f0 s.s0

-- "If the trial's slope >= 0, the bracket runs from the last earlier trial (or 0) to it. If its slope < 0 and its cost
-- > L, run U3 from 0 to it. Otherwise multiply the step by 5 and ask again": `low` is the point at 0, `earlier` the
-- last earlier trial or that
unfoldable pub grown_of : Float → Point → Point → Point → Option Came
grown_of L low earlier t =
    cond (t.g ≥ᶠ 0ᶠ) (Some (To (bracket earlier t)))
    (cond (t.g <ᶠ 0ᶠ && t.f >ᶠ L) (Some (On low t.x))
    None)

abbrev pub longer_of : Point → Float
longer_of t = 5ᶠ ⊗ t.x

-- ---- "Secant(p, q) = (p.x*q.g - q.x*p.g)/(q.g - p.g)."
abbrev pub secant_of : Point → Point → Float
secant_of p q = (p.x ⊗ q.g ⊖ q.x ⊗ p.g) ⊘ (q.g ⊖ p.g)

-- ---- "Iteration on (a, b)": w is (a, b), u is (A, Z), cx is c.x, the step of S1

abbrev pub is_near : Float → Float → Bool
is_near x y = abs_of (x ⊖ y) <ᶠ EPS

-- a further trial, where the test holds
abbrev pub when : Bool → Float → Option Float
when test x = cond test (Some x) None

abbrev pub or_else : Option Float → Option Float → Option Float
or_else (Some x) d = Some x
or_else None d = d

-- 02, request 4: "equal steps", as numbers, so that both zeros are equal
abbrev pub equal_steps : Point → Point → Bool
equal_steps p q = p.x =ᶠ q.x

-- a rule that may give e
abbrev pub Giving : Type 0
Giving = Bracket → Float → Bracket → Option Float

-- "S2: if |c.x - Z.x| < EPS, e = secant(b, Z)." 02, request 4: "S2 gives no e when b and Z have equal steps"
unfoldable pub S2 : Giving
S2 w cx u = when (is_near cx u.b.x && not (equal_steps w.b u.b)) (secant_of w.b u.b)

-- "S3: if |c.x - A.x| < EPS, e = secant(a, A), overwriting S2's." 02, request 4: "and S3 none when a and A have"
unfoldable pub S3 : Giving
S3 w cx u = when (is_near cx u.a.x && not (equal_steps w.a u.a)) (secant_of w.a u.a)

-- "S4: if either held, ask e and update (A, Z) with it.", and 02, request 4, in place of "if either held": "An earlier
-- e then stays. S4 runs only if some e was given." "In S2 and S3 only the final e is tested for refusal 5."
abbrev pub S4 : Giving
S4 w cx u = or_else (S3 w cx u) (S2 w cx u)

-- "L2: if Z.x - A.x > gamma*(b.x - a.x), ask (A.x + Z.x)/2 and update."
unfoldable pub L2 : Float → Bracket → Bracket → Option Float
L2 gamma w u = when (u.b.x ⊖ u.a.x >ᶠ gamma ⊗ (w.b.x ⊖ w.a.x)) ((u.a.x ⊕ u.b.x) ⊘ 2ᶠ)

-- ---- "Best: if a.f <= b.f and a.f <= c.f take a; then b by the same test, overriding; then c, overriding."

abbrev pub lowest : Point → Point → Point → Bool
lowest p q r = p.f ≤ᶠ q.f && p.f ≤ᶠ r.f

unfoldable pub best_over : Point → Point → Point → Point → Point
best_over old a b c = cond (lowest c a b) c (cond (lowest b a c) b (cond (lowest a b c) a old))

-- 01 says nothing for the case that no test holds. With finite costs one always does (`best-is-one`, proofs/Best.antt),
-- and every reported point is finite, so the a in that place is never seen.
abbrev pub best_of : Point → Point → Point → Point
best_of a b c = best_over a a b c

-- ---- "Verdict, first that holds"

-- ""wolfe" if best.f - f0 <= (delta*best.x)*s0 and best.g >= sigma*s0"
abbrev pub wolfe_holds : Setup → Point → Bool
wolfe_holds s p =
    (p.f ⊖ s.f0 ≤ᶠ (s.options.params.delta ⊗ p.x) ⊗ s.s0) && (p.g ≥ᶠ s.options.params.sigma ⊗ s.s0)

-- ""approximate" if (2*delta - 1)*s0 >= best.g, best.g >= sigma*s0 and best.f <= L"
abbrev pub approximate_holds : Setup → Point → Bool
approximate_holds s p =
    ((2ᶠ ⊗ s.options.params.delta ⊖ 1ᶠ) ⊗ s.s0 ≥ᶠ p.g) && (p.g ≥ᶠ s.options.params.sigma ⊗ s.s0)
    && (p.f ≤ᶠ s.level)

unfoldable pub judge_of : Setup → Point → Option Verdict
judge_of s p = cond (wolfe_holds s p) (Some Wolfe) (cond (approximate_holds s p) (Some Approximate) None)

-- ---- the flow. `kept`, of any type K, is what is reported meanwhile; a refusal comes to `refuse` of its reason;
-- `then` goes on with what was reached. From outside, these rules take s, refuse and kept first:
-- `iteration s refuse kept w then`.

module _ {K R : Type 0} (s : Setup) (refuse : Why → R) (kept : K) where
  abbrev pub asking : Float → (Point → Run K R) → Run K R
  asking x then = question answer_finite refuse kept x (λ f g. then (point x f g))

  -- 01, refusal 5: "the next trial step comes out not finite; nothing is asked"
  unfoldable pub trial : Float → (Point → Run K R) → Run K R
  trial x then = cond (finite x) (asking x then) (end (refuse (step_not_finite x)))

  -- 5, then 7: "U3's next step is not strictly between its two ends; nothing is asked"
  unfoldable pub between : Point → Float → Float → (Point → Run K R) → Run K R
  between h k x then =
      cond (finite x)
      (cond (is_between h k x) (asking x then) (end (refuse (step_not_between h.x k x))))
      (end (refuse (step_not_finite x)))

  -- U3 while n answers may come; where U0 to U2, or the last answer, came `To` a bracket, there is nothing to ask. 6:
  -- "one U3 run has had B answers and the last did not end it", before 5 and 7
  unfoldable pub U3 : ℕ → Came → (Bracket → Run K R) → Run K R
  U3 zero (To u) then = then u
  U3 zero (On h k) then = end (refuse (budget_spent h.x k))
  U3 (suc n) (To u) then = then u
  U3 (suc n) (On h k) then =
      between h k (middle_of s.options.params.theta h k) λ d.
      U3 n (narrowed_of s.level h k d) then

  unfoldable pub updating : Option Came → (Bracket → Run K R) → Run K R
  updating (Some came) then = U3 s.options.budget came then
  updating None then = end (refuse unreachable)

  abbrev pub update : Bracket → Point → (Bracket → Run K R) → Run K R
  update w c then = updating (update_of s.level w c) then

  -- a further trial, if there is one, and the update with it
  unfoldable pub further : Option Float → Bracket → (Bracket → Run K R) → Run K R
  further None u then = then u
  further (Some x) u then = trial x λ c. update u c then

  -- L2 after S1 to S4 came to v
  unfoldable pub after_s4 : Bracket → Bracket → (Bracket → Run K R) → Run K R
  after_s4 w v then = further (L2 s.options.params.gamma w v) v then

  -- "S1: c.x = secant(a, b), ask, update to (A, Z)". S4, if an e was given: by request 4's rule, or by the former one
  -- in specs/ZeroSlope.antt. L2. "L3: keep the result". `then` has first the bracket just before L2, of which 02's
  -- request 14 speaks, and then the result
  unfoldable pub iteration_by : Giving → Bracket → (Bracket → Bracket → Run K R) → Run K R
  iteration_by given w then =
      trial (secant_of w.a w.b) λ c.
      update w c λ u.
      further (given w c.x u) u λ v.
      after_s4 w v (then v)

  abbrev pub iteration : Bracket → (Bracket → Bracket → Run K R) → Run K R
  iteration = iteration_by S4

  -- ---- the start, which comes to c and a bracket: `then` has both

  -- "Start: ask a = min, b = max, c = start step, in that order." Written from its end: min is asked, and `ask_high`
  -- asks max, and `ask_start` the start step
  unfoldable pub ask_start : Bracket → (Point → Bracket → Run K R) → Run K R
  ask_start w then = asking s.options.params.start λ c. then c w

  unfoldable pub ask_high : Float → Point → (Point → Bracket → Run K R) → Run K R
  ask_high max a then = asking max λ b. ask_start (bracket a b) then

  -- 02, request 3: a trial was enough, or what comes `otherwise`
  unfoldable pub enough : Option Came → (Bracket → Run K R) → Run K R → Run K R
  enough (Some came) then otherwise = U3 s.options.budget came then
  enough None then otherwise = otherwise

  -- after the trial t, while the step may grow n times more. "at most K times"; "11, before 5, if K growths are used
  -- up"
  unfoldable pub growth : ℕ → Point → Option Came → (Bracket → Run K R) → Run K R
  growth zero t grown then = enough grown then (end (refuse (growths_spent t.x)))
  growth (suc n) t grown then =
      enough grown then
      (trial (longer_of t) λ d.
      growth n d (grown_of s.level (zero_of s) t d) then)

  -- "the first trial is the start step"; "The best's c is the first trial."
  unfoldable pub starting : Way → (Point → Bracket → Run K R) → Run K R
  starting (Bounded e) then = asking e.min λ a. ask_high e.max a then
  starting (Growing n) then =
      asking s.options.params.start λ c.
      growth n c (grown_of s.level (zero_of s) (zero_of s) c) (then c)

-- ---- what is reported: "During the first three answers there is no bracket and no best"; nor during a start that
-- grows. Then those of the last finished iteration, or the start

pub record Summary : Type 0 where
  pub bracket : Bracket
  pub best : Point
  pub iterations : ℕ

-- with `nothing_yet` no iteration is finished either. Evaluations are not reported here: they are counted over all
-- answers, by `tallied` of runs/specs/Asking.antt
pub data Report : Type 0 where
  nothing_yet : Report
  last : Summary → Report

abbrev pub iterations_in : Report → ℕ
iterations_in nothing_yet = 0
iterations_in (last p) = p.iterations

-- a verdict stops the search at the best step; with none it goes on
unfoldable pub decided : Report → Float → Rest Report → Option Verdict → Rest Report
decided kept x go (Some v) = end_with kept (stop (verdict_word v) x)
decided kept x go None = go

-- "This c is always the start step, never a later trial", of either start: `start` is the point there, w the bracket, i
-- the number of finished iterations
module _ (s : Setup) where
  abbrev pub report_of : Bracket → Point → ℕ → Report
  report_of w start i = last (record { bracket = w; best = best_of w.a w.b start; iterations = i })

  -- "Then best, then verdict."
  unfoldable pub verdict : Bracket → Point → ℕ → Rest Report → Rest Report
  verdict w start i go =
      let best = best_of w.a w.b start in
      decided (report_of w start i) best.x go (judge_of s best)

  -- "After an iteration the verdict is tested first, then the limit; only then is the next step worked out .." n
  -- iterations may still be begun.
  unfoldable pub rounds_by : Giving → ℕ → Bracket → Point → ℕ → Rest Report
  rounds_by given zero w start i =
      let best = best_of w.a w.b start in
      verdict w start i (end_with (report_of w start i) (limit best.x))
  rounds_by given (suc n) w start i =
      let kept = report_of w start i in
      verdict w start i (iteration_by s (keeping kept) kept given w λ u v. rounds_by given n v start (i + 1))

  abbrev pub rounds : ℕ → Bracket → Point → ℕ → Rest Report
  rounds = rounds_by S4

  -- the whole search: the start, while nothing is reported yet; "Then best, then verdict", and the iterations
  unfoldable pub hager_zhang_by : Giving → Rest Report
  hager_zhang_by given =
      starting s (keeping nothing_yet) nothing_yet s.options.way λ c w.
      rounds_by given s.options.limit w c 0

  abbrev pub hager_zhang : Rest Report
  hager_zhang = hager_zhang_by S4
