-- Along any list of answers: wherever a search comes to, it stands (`stands-along`), so that what is said of each step,
-- each report and each ending holds there; each answer leaves the report as it was or finishes the iteration under way
-- (`answer-moves`); the iterations that are counted are those that were finished (`finished-counted`); and demand 3's
-- three facts stay (`holds-along`). Assumes nothing.
use mathlib.Core.Path.{◌≡◌, subst}
use mathlib.Core.Bool.{true, cond}
use mathlib.Core.List.{List, [], ◌∷◌}
use Prim.Native.Nat.{ℕ, ◌+◌, ◌≤◌}
use native.Mathlib.Omega.{arith}
use lib.Dec.{ltb}
use lib.ListN.{length}
use lib.Ieee.{Float}
use borrow.Author.Tests.{lt-ltb, le-ltb}
use Rattle.runs.specs.Outcomes.{asks, numbered}
use Rattle.runs.specs.Asking.{Rest, Ended, end, Reply, respond, shown, reported, after}
use Rattle.runs.proofs.Apart.{asks-not-ends, same_step}
use Rattle.hagerzhang_rules.specs.declared.Point.{Point}
use Rattle.hagerzhang_rules.specs.declared.Way.TheVariants.{Growing}
use Rattle.hagerzhang_rules.specs.declared.Setup.{Setup}
use Rattle.hagerzhang_rules.specs.Rules.{Summary, Report, nothing_yet, last, iterations_in}
use Rattle.hagerzhang_rules.specs.Brackets.{premise, Ordered}
use Rattle.hagerzhang_rules.specs.Iterations.{Whole, Brings, as_before, first, finished-one, EndedBecause}
use Rattle.hagerzhang_rules.specs.Iterations.{already}
use Rattle.hagerzhang_rules.proofs.UnderWay.{noted, kept, under-way, finished-by}
use Rattle.hagerzhang_rules.proofs.Iterations.{Fine, most_at, Asks, Stands, awaiting, ended}
use Rattle.hagerzhang_rules.proofs.Iterations.{no-further}

module _ {s : Setup} {asked : List Point} where
  -- ---- where a search stands
  pub report-fine : {r : Rest Report} → Stands s asked r → Fine s (reported r)
  unfolding reported
  report-fine (awaiting fine why u b go) = fine
  report-fine (ended fine few why) = fine

  pub few-asked : {r : Rest Report} → Stands s asked r → length asked ≤ most_at s (reported r)
  unfolding reported
  few-asked (awaiting fine here u b go) = let room = here.room in omega arith
  few-asked (ended fine few why) = few

  pub asks_at : {r : Rest Report} (x : Float) → Stands s asked r → shown r ≡ asks x → Asks s asked x (reported r)
  unfolding shown reported
  asks_at x (awaiting {k = k} {x = x'} fine why u b go) e =
      subst (λ (z : Float). Asks s asked z k) (same_step x' x e) why
  asks_at x (ended {o = o} fine few why) e = absurd (asks-not-ends x (numbered o.by) e)

  pub ended_at : {o : Ended Report} → Stands s asked (end o) → EndedBecause s o.keeps asked o.by
  ended_at (ended fine few why) = why

  -- ---- one answer
  pub stands_after : {r : Rest Report} (y : Reply) → Stands s asked r
      → Stands s (kept r y asked) (respond r y.0 y.1)
  unfolding respond reported
  stands_after y (awaiting fine why u b go) = go y.0 y.1
  stands_after y (ended {o = o} fine few why) = rw (no-further o.keeps) (ended fine few already)

  pub answer-moves : {r : Rest Report} (y : Reply) → Stands s asked r
      → Brings s (noted r y asked) (reported r) (reported (respond r y.0 y.1))
  unfolding respond reported
  answer-moves y (awaiting fine why u b go) = b y.0 y.1
  answer-moves y (ended fine few why) = as_before

-- an answer after which one more iteration is counted has finished it
finished-now : {s : Setup} {asked : List Point} {p q : Summary} → Brings s asked (last p) (last q)
    → q.iterations ≡ p.iterations + 1 → Whole s p asked q
finished-now as_before i = absurd (omega arith)
finished-now (finished-one i' f) i = f

counts-one : {s : Setup} {asked : List Point} {k l : Report} → Brings s asked k l
    → iterations_in l ≡ iterations_in k + cond (ltb (iterations_in k) (iterations_in l)) 1 0
counts-one {k = k} as_before = rw (le-ltb (iterations_in k) (iterations_in k) (omega arith)) (omega arith)
counts-one (first new) = rw new.none-finished
counts-one (finished-one {p = p} {q = q} i f) =
    rw (lt-ltb p.iterations q.iterations (omega arith)) (omega arith)

pub each-finished : {s : Setup} {asked : List Point} {r : Rest Report} (y : Reply) (p q : Summary) → Stands s asked r
    → reported r ≡ last p → reported (respond r y.0 y.1) ≡ last q → q.iterations ≡ p.iterations + 1
    → Whole s p (noted r y asked) q
each-finished y p q a e e' = finished-now (rw (e, e') at (answer-moves y a))

-- ---- any answers
pub stands-along : {s : Setup} (ys : List Reply) {asked : List Point} {r : Rest Report} → Stands s asked r
    → Stands s (under-way asked r ys) (after r ys)
unfolding after under-way
stands-along [] a = a
stands-along (y ∷ ys) a = stands-along ys (stands_after y a)

pub finished-counted : {s : Setup} (ys : List Reply) {asked : List Point} {r : Rest Report} → Stands s asked r
    → iterations_in (reported (after r ys)) ≡ iterations_in (reported r) + finished-by r ys
unfolding after finished-by
finished-counted [] a = omega arith
finished-counted (y ∷ ys) a =
    let one = counts-one (answer-moves y a) in
    let more = finished-counted ys (stands_after y a) in
    omega arith

-- ---- the bracket that is reported meets demand 3's three, and its ends are in order; then so does every later one
abbrev pub Holds : Float → Report → Type 0
Holds L nothing_yet = ⊥
Holds L (last p) = (premise L p.bracket.a p.bracket.b ≡ true) × Ordered p.bracket

holds-moved : {s : Setup} {asked : List Point} {k l : Report} → Brings s asked k l → Holds s.level k
    → Holds s.level l
holds-moved as_before h = h
holds-moved (first i) h = absurd h
holds-moved (finished-one i f) h = (f.stays h.0, f.ordered)

pub holds-along : {s : Setup} (ys : List Reply) {asked : List Point} {r : Rest Report} → Stands s asked r
    → Holds s.level (reported r) → Holds s.level (reported (after r ys))
unfolding after
holds-along [] a h = h
holds-along (y ∷ ys) a h = holds-along ys (stands_after y a) (holds-moved (answer-moves y a) h)

-- ---- after a start that grows every bracket that is reported meets the three: the first by `Opens`, and then as above
abbrev pub Premised : Float → Report → Type 0
Premised L nothing_yet = Unit {0}
Premised L (last p) = premise L p.bracket.a p.bracket.b ≡ true

premised-moved : {s : Setup} {asked : List Point} {k l : Report} (K : ℕ) → s.options.way ≡ Growing K
    → Brings s asked k l → Premised s.level k → Premised s.level l
premised-moved K is as_before h = h
premised-moved K is (first new) h = (new.grew K is).premise_holds
premised-moved K is (finished-one i f) h = f.stays h

pub premised-along : {s : Setup} (K : ℕ) → s.options.way ≡ Growing K → (ys : List Reply) {asked : List Point}
    {r : Rest Report} → Stands s asked r → Premised s.level (reported r)
    → Premised s.level (reported (after r ys))
unfolding after
premised-along K is [] a h = h
premised-along K is (y ∷ ys) a h =
    premised-along K is ys (stands_after y a) (premised-moved K is (answer-moves y a) h)
