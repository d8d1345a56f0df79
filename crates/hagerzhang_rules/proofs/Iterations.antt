-- What a search does, said of each step: `Stands s asked r` says that a search that has asked these points in the start
-- or the iteration under way, newest first, stands at r, and that wherever it goes from there the start, if it is still
-- under way, is the one that 01 or 02 writes and takes as many answers as it may; each finished iteration is 01's and
-- leaves what demand 3 says, takes at most 3+3B answers, and is one of N; every report has finite numbers
-- and its bracket in order; every step is asked and every ending comes for its reason; and an answer that is not finite
-- is refused (2) and the last. Once for the bracket, the origin of its ends, the bounds, the counts and the refusals.
-- Assumes nothing.
use mathlib.Core.Path.{◌≡◌, refl, subst}
use mathlib.Core.Bool.{true, false}
use mathlib.Core.List.{List, [], ◌∷◌}
use Prim.Native.Nat.{ℕ, ◌+◌, ◌≤◌, ◌<◌}
use native.Mathlib.Omega.{arith}
use lib.Dec.{ltb}
use lib.ListN.{length}
use lib.Ieee.{Float}
use borrow.Author.Tests.{lt-ltb, le-ltb}
use lib.Ieee.Scale.{finite}
use Rattle.floats.specs.Arithmetic.{◌≤ᶠ◌, 0ᶠ}
use Rattle.floats.proofs.Branches.{by_cases}
use Rattle.runs.specs.Outcomes.{refusal, answer_not_finite}
use Rattle.runs.specs.Asking.{ask, end, Rest, Ended, end_with, reported}
use Rattle.hagerzhang_rules.specs.declared.Point.{Point}
use Rattle.hagerzhang_rules.specs.declared.Setup.{Setup}
use Rattle.hagerzhang_rules.specs.Rules.{point, answer_finite, Summary, Report, nothing_yet, last, iterations_in}
use Rattle.hagerzhang_rules.specs.Brackets.{Ordered}
use Rattle.hagerzhang_rules.specs.HowFast.{gamma_fit}
use Rattle.hagerzhang_rules.specs.Iterations.{progress, most_in_start, most_in_iteration, Opens, Whole, Brings}
use Rattle.hagerzhang_rules.specs.Iterations.{as_before, first, finished-one, AskedBecause, EndedBecause}
use Rattle.hagerzhang_rules.specs.Iterations.{report_finite}
use Rattle.hagerzhang_rules.proofs.UnderWay.{since}

-- ---- what is so of the setup of a start that no row refuses
pub record Ready (s : Setup) : Type 0 where
  pub level-finite : finite s.level ≡ true
  pub gamma-fit : gamma_fit s.options.params.gamma ≡ true

-- ---- what is so of every report
abbrev pub In-order : Report → Type 0
In-order nothing_yet = Unit {0}
In-order (last p) = Ordered p.bracket

-- no step is negative: a start's are not, and an iteration keeps within
abbrev pub From-zero : Report → Type 0
From-zero nothing_yet = Unit {0}
From-zero (last p) = 0ᶠ ≤ᶠ p.bracket.a.x ≡ true

pub record Fine (s : Setup) (k : Report) : Type 0 where
  pub numbers : report_finite k ≡ true
  pub in_order : In-order k
  pub from_zero : From-zero k
  pub counted : iterations_in k ≤ s.options.limit

-- how many answers the start, or an iteration, takes at most
abbrev pub most_at : Setup → Report → ℕ
most_at s nothing_yet = most_in_start s.options
most_at s (last p) = most_in_iteration s.options

-- N allows the iteration under way
abbrev pub Allowed : Setup → Report → Type 0
Allowed s nothing_yet = Unit {0}
Allowed s (last p) = p.iterations < s.options.limit

-- ---- a step x is asked where k is reported, after these points, in the start or in an iteration
pub record Asks (s : Setup) (asked : List Point) (x : Float) (k : Report) : Type 0 where
  pub room : length asked < most_at s k
  pub allowed : Allowed s k
  pub why : AskedBecause s k asked x

pub data Stands (s : Setup) : List Point → Rest Report → Type 0 where
  awaiting : {k : Report} {asked : List Point} {x : Float} {then : Float → Float → Rest Report}
      → Fine s k
      → Asks s asked x k
      → ((f g : Float) → answer_finite f g ≡ false → then f g ≡ end_with k (refusal (answer_not_finite f g)))
      → ((f g : Float) → Brings s (point x f g ∷ asked) k (reported (then f g)))
      → ((f g : Float) → Stands s (since k (point x f g ∷ asked) (reported (then f g))) (then f g))
      → Stands s asked (ask k x then)
  ended : {asked : List Point} {o : Ended Report} → Fine s o.keeps → length asked ≤ most_at s o.keeps
      → EndedBecause s o.keeps asked o.by → Stands s asked (end o)

-- ---- from the report k, with these points asked since, a search has come to r
pub record Arrives (s : Setup) (k : Report) (asked : List Point) (r : Rest Report) : Type 0 where
  pub brings : Brings s asked k (reported r)
  pub stands : Stands s (since k asked (reported r)) r

pub no-further : (k : Report) → ltb (progress k) (progress k) ≡ false
no-further k = le-ltb (progress k) (progress k) (omega arith)

module _ {s : Setup} {asked : List Point} {r : Rest Report} where
  -- the report is as it was
  pub stays : {k : Report} → reported r ≡ k → Stands s asked r → Arrives s k asked r
  stays {k} e a = record { brings = rw e as_before; stands = rw (e, no-further k) a }

  -- the start is finished
  pub begins : {q : Summary} → reported r ≡ last q → Opens s asked q → Stands s [] r → Arrives s nothing_yet asked r
  begins {q} e i a =
      record { brings = rw e (first i); stands = rw (e, lt-ltb 0 (progress (last q)) (omega arith)) a }

  -- the iteration is finished, and counted
  pub finishes : {p q : Summary} → reported r ≡ last q → q.iterations ≡ p.iterations + 1 → Whole s p asked q
      → Stands s [] r → Arrives s (last p) asked r
  finishes {p} {q} e i f a = record {
    brings = rw e (finished-one i f);
    stands = rw (e, lt-ltb (progress (last p)) (progress (last q)) (omega arith)) a;
  }

-- where nothing was asked, it stands there
pub none-asked : {s : Setup} {k : Report} {r : Rest Report} → Arrives s k [] r → Stands s [] r
none-asked {s} {k} {r} a =
    subst (λ (l : List Point). Stands s l r)
    (by_cases (λ l. l ≡ []) (ltb (progress k) (progress (reported r))) (λ e. refl) (λ e. refl)) a.stands
