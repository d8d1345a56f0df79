-- Demand 3: "With U3 budget B and iteration limit N, .. any search ends within 3+N(3+3B)", and behind a start that
-- grows within 1+K+B+N(3+3B), whatever the answers are; and an answer that is not finite is the last. No premise on
-- slopes. From what is said of each iteration. Assumes nothing.
use mathlib.Core.Path.{◌≡◌, refl}
use mathlib.Core.List.{List, ◌∷◌}
use Prim.Native.Nat.{ℕ, zero, suc, ◌+◌, ◌*◌, ◌≤◌}
use native.Mathlib.Nat.{suc-mul, mul-le-mul_right}
use native.Mathlib.Numerals.{add-one}
use native.Mathlib.Omega.{arith}
use lib.ListN.{length}
use lib.Ieee.{Float}
use borrow.Author.Tests.{lt-ltb}
use Rattle.runs.specs.Asking.{Rest, keeping, reported}
use Rattle.runs.proofs.Ends.{EndsWithin, at-end, at-ask}
use Rattle.hagerzhang_rules.specs.declared.Point.{Point}
use Rattle.hagerzhang_rules.specs.declared.Bracket.{Bracket}
use Rattle.hagerzhang_rules.specs.declared.Way.{Way}
use Rattle.hagerzhang_rules.specs.declared.Way.TheVariants.{Bounded, Growing}
use Rattle.hagerzhang_rules.specs.declared.Options.{Options}
use Rattle.hagerzhang_rules.specs.declared.Setup.{Setup}
use Rattle.hagerzhang_rules.specs.Parameters.{setup_of}
use Rattle.hagerzhang_rules.specs.Rules.{answer_finite, starting, Report, nothing_yet, last, hager_zhang}
use Rattle.hagerzhang_rules.specs.Rules.{hager_zhang_by}
use Rattle.hagerzhang_rules.specs.Iterations.{most_in_start, most_in_iteration, Brings, as_before, first}
use Rattle.hagerzhang_rules.specs.Iterations.{finished-one}
use Rattle.hagerzhang_rules.proofs.Ranges.{Accepted}
use Rattle.hagerzhang_rules.proofs.UnderWay.{since}
use Rattle.hagerzhang_rules.proofs.Iterations.{Asks, Stands, awaiting, ended, no-further}
use Rattle.hagerzhang_rules.proofs.EachStart.{search-stands}

-- of the start
abbrev S : Setup → ℕ
S s = most_in_start s.options

-- "at most 3+3B answers"
abbrev M : Setup → ℕ
M s = most_in_iteration s.options

-- what the answers before the start or the iteration under way are at most
abbrev before : Setup → Report → ℕ
before s nothing_yet = 0
before s (last p) = S s + p.iterations * M s

module _ {s : Setup} where
  -- of all these answers m are left: each takes one
  one_less : {asked : List Point} {d : Point} {x : Float} {k l : Report} (m : ℕ) → Asks s asked x k
      → Brings s (d ∷ asked) k l
      → S s + s.options.limit * M s ≤ suc m + (length asked + before s k)
      → S s + s.options.limit * M s ≤ m + (length (since k (d ∷ asked) l) + before s l)
  one_less {k = k} m asks as_before h = rw (no-further k) (omega arith)
  one_less m asks (first new) h =
      let room = asks.room in
      rw new.none-finished (omega arith)
  one_less m asks (finished-one {p = p} {q = q} i f) h =
      let room = asks.room in
      let one : suc p.iterations * M s ≡ p.iterations * M s + M s = suc-mul p.iterations (M s) in
      rw (i, add-one, lt-ltb (suc p.iterations) (suc (suc p.iterations)) (omega arith)) (omega arith)

  -- and where a step is asked one is left
  one_left : {asked : List Point} {x : Float} (k : Report) → Asks s asked x k
      → S s + s.options.limit * M s ≤ length asked + before s k → ⊥
  one_left nothing_yet asks h = let room = asks.room in omega arith
  one_left (last p) asks h =
      let room = asks.room in
      let one : suc p.iterations * M s ≡ p.iterations * M s + M s = suc-mul p.iterations (M s) in
      let most : suc p.iterations * M s ≤ s.options.limit * M s = mul-le-mul_right (M s) asks.allowed in
      omega arith

  stands-ends : (m : ℕ) {asked : List Point} {r : Rest Report} → Stands s asked r
      → S s + s.options.limit * M s ≤ m + (length asked + before s (reported r)) → EndsWithin answer_finite m r
  unfolding reported
  stands-ends m (ended fine few why) h = at-end
  stands-ends zero (awaiting {k = k} fine asks u b go) h = absurd (one_left k asks (omega arith))
  stands-ends (suc m) (awaiting fine asks u b go) h =
      at-ask u (λ f g. stands-ends m (go f g) (one_less m asks (b f g) h))

-- a start reports nothing yet
pub start-reports : (s : Setup) (w : Way) (then : Point → Bracket → Rest Report)
    → reported (starting s (keeping nothing_yet) nothing_yet w then) ≡ nothing_yet
unfolding starting reported
start-reports s (Bounded e) then = refl
start-reports s (Growing K) then = refl

pub search-reports : (s : Setup) → reported (hager_zhang s) ≡ nothing_yet
unfolding hager_zhang_by
search-reports s = start-reports s s.options.way _

pub search-within : (o : Options) (f0 s0 : Float) → Accepted o f0 s0
    → EndsWithin answer_finite (most_in_start o + o.limit * most_in_iteration o) (hager_zhang (setup_of o f0 s0))
search-within o f0 s0 ok =
    stands-ends _ (search-stands o f0 s0 ok) (rw (search-reports (setup_of o f0 s0)) (omega arith))
