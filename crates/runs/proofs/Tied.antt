-- From one answer to any list: a machine each of whose steps is the rules' step tells what the rules tell, stands for
-- what they leave, and counts what they accept; and it ends within as many answers. Once for every search. Assumes
-- nothing.
use mathlib.Core.Path.{◌≡◌, refl, sym, ap, ap₂, ◌∙◌}
use mathlib.Core.Bool.{Bool, true, false, cond, not, ◌&&◌, true≢false}
use mathlib.Core.List.{List, [], ◌∷◌, ◌++◌}
use Prim.Native.Nat.{ℕ, ◌+◌, ◌≤◌, ◌<◌}
use native.Mathlib.Omega.{arith}
use lib.ListN.{length}
use lib.Ieee.{Float}
use Rattle.runs.specs.Counters.{one_more}
use Rattle.runs.specs.Asking.{ask, end, Rest, Reply, respond, shown, reported, awaits, is_over, once_told}
use Rattle.runs.specs.Asking.{outcomes, after, Machine, reached, played, told_next, tallied}
use Rattle.runs.proofs.Accepted.{accepted, none_more}
use Rattle.runs.proofs.Ends.{EndsWithin, at-ask, ends-after, ends-over, ends-accepted, non-finite-once}
use Rattle.runs.proofs.Machines.{adds_one}

-- ---- a search that has told its end goes on as it did
module _ {K : Type 0} where
  responds : (r : Rest K) (f g : Float) → respond (once_told r) f g ≡ respond r f g
  unfolding respond once_told
  responds (ask k x then) f g = refl
  responds (end o) f g = refl

  report-rests : (r : Rest K) → reported (once_told r) ≡ reported r
  unfolding reported once_told
  report-rests (ask k x then) = refl
  report-rests (end o) = refl

  await-rests : (r : Rest K) → awaits (once_told r) ≡ awaits r
  unfolding awaits once_told
  await-rests (ask k x then) = refl
  await-rests (end o) = refl

  over-rests : (r : Rest K) → is_over (once_told r) ≡ is_over r
  unfolding is_over once_told
  over-rests (ask k x then) = refl
  over-rests (end o) = refl

  pub after-one-more : (r : Rest K) (ys : List Reply) (y : Reply)
      → after r (ys ++ (y ∷ [])) ≡ respond (after r ys) y.0 y.1
  unfolding after
  after-one-more r [] y = refl
  after-one-more r (z ∷ ys) y = after-one-more (respond r z.0 z.1) ys y

  -- one that ends moves on at every answer, until it is over
  pub moves-on : {finite : Float → Float → Bool} {n : ℕ} (r : Rest K) → EndsWithin finite n r → is_over r ≡ false
      → (f g : Float) → once_told r ≡ once_told (respond r f g) → ⊥
  unfolding is_over once_told respond
  moves-on (end o) w h f g e = true≢false h
  moves-on (ask k x then) (at-ask u more) h f g e =
      moves-on (then f g) (more f g) (sym (over-rests (then f g)) ∙ sym (ap is_over e)) f g
      (ap once_told (ap (λ (q : Rest K). respond q f g) e ∙ responds (then f g) f g))

-- ---- a machine and the rules' search
pub record Tied {S : Type 0} (m : Machine S) (K : Type 0) : Type 1 where
  -- a state that fits stands for what is left of the search, and its steps are the rules'
  pub meant : S → Rest K
  pub Fit : S → Type 0
  pub fit_next : (s : S) → Fit s → (f g : Float) → Fit (m.next s f g)
  pub leaves : (s : S) → Fit s → (f g : Float) → meant (m.next s f g) ≡ once_told (respond (meant s) f g)
  pub tells : (s : S) → Fit s → (f g : Float) → m.says s f g ≡ shown (respond (meant s) f g)
  pub over-is : (s : S) → m.over s ≡ is_over (meant s)
  -- while it asks, each finite answer raises the counter
  pub finite : Float → Float → Bool
  pub counted : S → ℕ
  pub counts : (s : S) → Fit s → (f g : Float)
      → counted (m.next s f g) ≡ cond (m.over s) (counted s) (cond (finite f g) (one_more (counted s)) (counted s))
  -- the first state stands for the whole search, which ends within `most` answers
  pub first : S
  pub first_fits : Fit first
  pub none-counted : counted first ≡ 0
  pub rules : Rest K
  pub whole : meant first ≡ once_told rules
  pub most : ℕ
  pub within : EndsWithin finite most rules
  pub countable : most < 4294967295

-- ---- a state, and a search that has come as far
module _ {S K : Type 0} {m : Machine S} (t : Tied m K) where
  open t use {meant, Fit, fit_next, leaves, tells, over-is, finite, counted, counts}

  pub record Stands (s : S) (r : Rest K) : Type 0 where
    pub fits : Fit s
    pub stands : meant s ≡ once_told r

  module _ (s : S) (r : Rest K) (w : Stands s r) where
    pub reports : reported (meant s) ≡ reported r
    reports = ap reported w.stands ∙ report-rests r

    pub awaiting : awaits (meant s) ≡ awaits r
    awaiting = ap awaits w.stands ∙ await-rests r

    pub over-as : m.over s ≡ is_over r
    over-as = over-is s ∙ ap is_over w.stands ∙ over-rests r

    -- one answer
    module _ (f g : Float) where
      same_answer : respond (meant s) f g ≡ respond r f g
      same_answer = ap (λ (q : Rest K). respond q f g) w.stands ∙ responds r f g

      pub says : m.says s f g ≡ shown (respond r f g)
      says = tells s w.fits f g ∙ ap shown same_answer

      pub goes : Stands (m.next s f g) (respond r f g)
      goes = record {
        fits = fit_next s w.fits f g;
        stands = leaves s w.fits f g ∙ ap once_told same_answer;
      }

  -- any list of answers
  goes_on : (s : S) (r : Rest K) → Stands s r → (ys : List Reply) → Stands (reached m s ys) (after r ys)
  unfolding reached after
  goes_on s r w [] = w
  goes_on s r w (y ∷ ys) = goes_on (m.next s y.0 y.1) (respond r y.0 y.1) (goes s r w y.0 y.1) ys

  tells-on : (s : S) (r : Rest K) → Stands s r → (ys : List Reply) → played m s ys ≡ outcomes r ys
  unfolding played outcomes
  tells-on s r w [] = refl
  tells-on s r w (y ∷ ys) =
      ap₂ ◌∷◌ (says s r w y.0 y.1) (tells-on (m.next s y.0 y.1) (respond r y.0 y.1) (goes s r w y.0 y.1) ys)

  -- the answers that pass a test while the machine asks are those that pass it while the rules ask
  module _ (test : Float → Float → Bool) where
    accepts : (o : Bool) (r : Rest K) (y : Reply) (ys : List Reply) → o ≡ is_over r
        → cond (not o && test y.0 y.1) 1 0 + accepted test (respond r y.0 y.1) ys
        ≡ accepted test r (y ∷ ys)
    unfolding accepted respond is_over
    accepts o (ask k x then) y ys e = rw e
    accepts o (end z) y ys e = rw (e, none_more _ test ys)

    tallies : (s : S) (r : Rest K) → Stands s r → (ys : List Reply) → tallied m test s ys ≡ accepted test r ys
    unfolding tallied accepted
    tallies s r w [] = refl
    tallies s r w (y ∷ ys) =
        ap (λ (n : ℕ). cond (not (m.over s) && test y.0 y.1) 1 0 + n)
        (tallies (m.next s y.0 y.1) (respond r y.0 y.1) (goes s r w y.0 y.1) ys)
        ∙ accepts (m.over s) r y ys (over-as s r w)

  -- the counter, as long as it is below the largest u32
  raised : (o a : Bool) (n l k : ℕ) → n < 4294967295 → k ≡ cond o n (cond a (one_more n) n)
      → k + l ≡ n + (cond (not o && a) 1 0 + l)
  raised true a n l k h e = omega arith
  raised false a n l k h e = adds_one a n l k h e

  counts-on : (s : S) → Fit s → (ys : List Reply) → counted s + tallied m finite s ys < 4294967295
      → counted (reached m s ys) ≡ counted s + tallied m finite s ys
  unfolding reached tallied
  counts-on s v [] h = omega arith
  counts-on s v (y ∷ ys) h =
      let n = m.next s y.0 y.1 in
      let step : counted n + tallied m finite n ys
      ≡ counted s + (cond (not (m.over s) && finite y.0 y.1) 1 0 + tallied m finite n ys) =
      raised (m.over s) (finite y.0 y.1) (counted s) _ _ (omega arith) (counts s v y.0 y.1) in
      let rest = counts-on n (fit_next s v y.0 y.1) ys (omega arith) in
      omega arith

-- ---- from the first state
module _ {S K : Type 0} {m : Machine S} (t : Tied m K) where
  open t use {finite, counted, first, rules, most, within}

  pub begins : Stands t first rules
  begins = record { fits = t.first_fits; stands = t.whole }

  pub stands_at : (ys : List Reply) → Stands t (reached m first ys) (after rules ys)
  stands_at ys = goes_on t first rules begins ys

  -- what is told
  pub outcomes-are : (ys : List Reply) → played m first ys ≡ outcomes rules ys
  outcomes-are ys = tells-on t first rules begins ys

  pub told_at : (ys : List Reply) (y : Reply) → told_next m first ys y ≡ shown (respond (after rules ys) y.0 y.1)
  told_at ys y = says t _ _ (stands_at ys) y.0 y.1

  -- the end, and what is counted
  pub over-at : (ys : List Reply) → m.over (reached m first ys) ≡ is_over (after rules ys)
  over-at ys = over-as t _ _ (stands_at ys)

  pub ends-in-time : (ys : List Reply) → most ≤ length ys → m.over (reached m first ys) ≡ true
  ends-in-time ys h = over-at ys ∙ ends-over within ys h

  pub tallied-is : (test : Float → Float → Bool) (ys : List Reply) → tallied m test first ys ≡ accepted test rules ys
  tallied-is test ys = tallies t test first rules begins ys

  pub finite-bounded : (ys : List Reply) → tallied m finite first ys ≤ most
  finite-bounded ys = rw (tallied-is finite ys) (ends-accepted finite within ys)

  pub finite-counted : (ys : List Reply) → counted (reached m first ys) ≡ tallied m finite first ys
  finite-counted ys =
      let few = finite-bounded ys in
      let none = t.none-counted in
      let fit = t.countable in
      let all = counts-on t first t.first_fits ys (omega arith) in
      omega arith

  pub not-finite-once : (ys : List Reply) → tallied m (λ f g. not (finite f g)) first ys ≤ 1
  not-finite-once ys = rw (tallied-is (λ f g. not (finite f g)) ys) (non-finite-once within ys)

  -- the state that an answer leaves stands for another search than the state before it, until that is over
  pub never-untouched : (ys : List Reply) → m.over (reached m first ys) ≡ false → (f g : Float)
      → t.meant (reached m first ys) ≡ once_told (respond (t.meant (reached m first ys)) f g) → ⊥
  never-untouched ys runs f g e =
      let at = stands_at ys in
      moves-on (after rules ys) (ends-after rules within ys) (sym (over-at ys) ∙ runs) f g
      (sym at.stands ∙ e ∙ ap once_told (same_answer t _ _ at f g))
