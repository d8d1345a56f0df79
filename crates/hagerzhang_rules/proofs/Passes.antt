-- One pass through the flow of the rules, for runs that differ in what comes behind, each with an index i: what holds
-- of them where all are refused, and passes through a question, passes through U3, an update, a further trial, S1 and
-- either start. What is known of a bracket that an update reaches is handed on: each end is the former end, or lies
-- inside by U0's test (`Kept`), or whatever else U0 to U3 keep. And of one run alone: what it comes to, by any answers
-- (`Ends`). Assumes nothing.
use mathlib.Core.Path.{◌≡◌, refl, sym, ◌∙◌, subst}
use mathlib.Core.Bool.{Bool, true, false, cond, ◌&&◌, false≢true}
use mathlib.Core.List.{List}
use mathlib.Core.Logic.{◌⊎◌, inl, inr}
use Rattle.std.specs.Prelude.{Option, Some, None}
use Prim.Native.Nat.{ℕ, zero, suc}
use lib.Ieee.{Float}
use lib.Ieee.Scale.{finite}
use Rattle.floats.specs.Arithmetic.{◌<ᶠ◌, ◌≤ᶠ◌, ◌>ᶠ◌, ◌≥ᶠ◌, 0ᶠ}
use Rattle.floats.proofs.Branches.{by_cases, false-if, and_first, and_second, neither-first, neither-second}
use Rattle.floats.proofs.Order.{lt→le, lt→nle, le_trans}
use Rattle.runs.specs.Outcomes.{Why}
use Rattle.runs.specs.Asking.{Run, ask, end}
use Rattle.hagerzhang_rules.specs.declared.Point.{Point}
use Rattle.hagerzhang_rules.specs.declared.Bracket.{Bracket}
use Rattle.hagerzhang_rules.specs.declared.Way.{Way}
use Rattle.hagerzhang_rules.specs.declared.Way.TheVariants.{Bounded, Growing}
use Rattle.hagerzhang_rules.specs.declared.Setup.{Setup}
use Rattle.hagerzhang_rules.specs.declared.Came.{Came}
use Rattle.hagerzhang_rules.specs.declared.Came.TheVariants.{To, On}
use Rattle.hagerzhang_rules.specs.Rules.{point, bracket, answer_finite, outside, update_of, middle_of, is_between}
use Rattle.hagerzhang_rules.specs.Rules.{narrowed_of, zero_of, grown_of, longer_of, secant_of, asking, trial, between}
use Rattle.hagerzhang_rules.specs.Rules.{U3, updating, update, further, ask_start, ask_high, enough, growth}
use Rattle.hagerzhang_rules.specs.Rules.{starting, Report}
use Rattle.hagerzhang_rules.specs.Iterations.{Alone, Plays, not_yet, then-asked}

-- ---- the ends of what an update of w comes to
abbrev pub KeptEnd : Bracket → Point → Point → Type 0
KeptEnd w former p = (p ≡ former) ⊎ (outside w p ≡ false)

pub data Kept (w : Bracket) : Came → Type 0 where
  kept-to : {u : Bracket} → KeptEnd w w.a u.a → KeptEnd w w.b u.b → Kept w (To u)
  kept_on : {h : Point} {k : Float} → KeptEnd w w.a h → k ≥ᶠ w.b.x ≡ false → Kept w (On h k)

-- what U0 to U2 come to is P, if it is anything
pub data IfAny (P : Came → Type 0) : Option Came → Type 0 where
  if_some : {came : Came} → P came → IfAny P (Some came)
  if_none : IfAny P None

updated-kept : (L : Float) (w : Bracket) (c : Point) → IfAny (Kept w) (update_of L w c)
unfolding update_of
updated-kept L w c =
    let Q : Option Came → Type 0 = IfAny (Kept w) in
    by_cases Q (outside w c) (λ e. if_some (kept-to (inl refl) (inl refl)))
    (λ inside. by_cases Q (c.g ≥ᶠ 0ᶠ) (λ e. if_some (kept-to (inl refl) (inr inside)))
    (λ e. by_cases Q (c.g <ᶠ 0ᶠ && c.f ≤ᶠ L) (λ e. if_some (kept-to (inr inside) (inl refl)))
    (λ e. by_cases Q (c.g <ᶠ 0ᶠ && c.f >ᶠ L)
    (λ e. if_some (kept_on (inl refl) (neither-second (c.x ≤ᶠ w.a.x) (c.x ≥ᶠ w.b.x) inside)))
    (λ e. if_none))))

-- a step of U3 lies inside
module _ (w : Bracket) (h : Point) (k : Float) (d : Point) (strictly : is_between h k d.x ≡ true) where
  above_low : KeptEnd w w.a h → d.x ≤ᶠ w.a.x ≡ false
  above_low (inl e) =
      lt→nle w.a.x d.x
      (subst (λ (p : Point). p.x <ᶠ d.x ≡ true) e (and_first (h.x <ᶠ d.x) (d.x <ᶠ k) strictly))
  above_low (inr inside) = false-if (d.x ≤ᶠ w.a.x) λ under.
      let below = le_trans h.x d.x w.a.x (lt→le h.x d.x (and_first _ _ strictly)) under in
      false≢true (sym (neither-first (h.x ≤ᶠ w.a.x) (h.x ≥ᶠ w.b.x) inside) ∙ below)

  below-high : k ≥ᶠ w.b.x ≡ false → d.x ≥ᶠ w.b.x ≡ false
  below-high high = false-if (d.x ≥ᶠ w.b.x) λ over.
      let above = le_trans w.b.x d.x k over (lt→le d.x k (and_second (h.x <ᶠ d.x) (d.x <ᶠ k) strictly)) in
      false≢true (sym high ∙ above)

  narrowed-kept : (L : Float) → Kept w (On h k) → Kept w (narrowed_of L h k d)
  unfolding narrowed_of
  narrowed-kept L (kept_on low high) =
      let inside : outside w d ≡ false = rw (above_low low, below-high high) in
      let Q : Came → Type 0 = Kept w in
      by_cases Q (d.g ≥ᶠ 0ᶠ) (λ e. kept-to low (inr inside))
      (λ e. by_cases Q (d.f ≤ᶠ L) (λ e. kept_on (inr inside) high) (λ e. kept_on low (below-high high)))

-- it is kept by each answer of U3, where L is the level
abbrev pub StaysBy : Float → (Came → Type 0) → Type 0
StaysBy L P =
    (h : Point) (k : Float) (d : Point) → is_between h k d.x ≡ true → P (On h k) → P (narrowed_of L h k d)

-- ---- the pass
module _ {I K R : Type 0} (s : Setup) (refuse : Why → R) (kept : K) (Q : (I → Run K R) → Type 0)
    (over : (why : Why) → Q (λ i. end (refuse why)))
    (waits : (x : Float) (then : I → Float → Float → Run K R) → ((f g : Float) → Q (λ i. then i f g))
    → Q (λ i. ask kept x (then i))) where
  -- what comes behind a point, or behind a bracket
  abbrev OnPoint : Type 0
  OnPoint = I → Point → Run K R

  abbrev OnBracket : Type 0
  OnBracket = I → Bracket → Run K R

  -- all of them go by the same test
  by-test : (b : Bool) {r r' : I → Run K R} → (b ≡ true → Q r) → (b ≡ false → Q r') → Q (λ i. cond b (r i) (r' i))
  by-test true held failed = held refl
  by-test false held failed = failed refl

  asks : (x : Float) (then : OnPoint) → ((f g : Float) → Q (λ i. then i (point x f g)))
      → Q (λ i. asking s refuse kept x (then i))
  asks x then go = waits x _ (λ f g. by-test (answer_finite f g) (λ e. go f g) (λ e. over _))

  pub tries : (x : Float) (then : OnPoint) → (finite x ≡ true → (f g : Float) → Q (λ i. then i (point x f g)))
      → Q (λ i. trial s refuse kept x (then i))
  unfolding trial
  tries x then go = by-test (finite x) (λ e. asks x then (go e)) (λ e. over _)

  -- U3, and whatever is kept by each of its answers
  narrows : (P : Came → Type 0) → StaysBy s.level P → (n : ℕ) (came : Came) → P came → (then : OnBracket)
      → ((u : Bracket) → P (To u) → Q (λ i. then i u))
      → Q (λ i. U3 s refuse kept n came (then i))
  unfolding U3 between
  narrows P stays zero (To u) p then go = go u p
  narrows P stays zero (On h k) p then go = over _
  narrows P stays (suc n) (To u) p then go = go u p
  narrows P stays (suc n) (On h k) p then go =
      let x = middle_of s.options.params.theta h k in
      by-test (finite x)
      (λ e. by-test (is_between h k x)
      (λ strictly. asks x (λ i d. U3 s refuse kept n (narrowed_of s.level h k d) (then i)) (λ f g.
      narrows P stays n (narrowed_of s.level h k (point x f g)) (stays h k (point x f g) strictly p) then go))
      (λ e. over _))
      (λ e. over _)

  pub updates-by : (P : Came → Type 0) → StaysBy s.level P → (o : Option Came) → IfAny P o → (then : OnBracket)
      → ((u : Bracket) → P (To u) → Q (λ i. then i u)) → Q (λ i. updating s refuse kept o (then i))
  unfolding updating
  updates-by P stays (Some came) (if_some p) then go = narrows P stays s.options.budget came p then go
  updates-by P stays None p then go = over _

  pub updates : (w : Bracket) (c : Point) (then : OnBracket) → ((u : Bracket) → Kept w (To u) → Q (λ i. then i u))
      → Q (λ i. update s refuse kept w c (then i))
  updates w c =
      updates-by (Kept w) (λ h k d strictly. narrowed-kept w h k d strictly s.level) (update_of s.level w c)
      (updated-kept s.level w c)

  pub goes_further : (e : Option Float) (u : Bracket) (then : OnBracket) → ((v : Bracket) → Q (λ i. then i v))
      → Q (λ i. further s refuse kept e u (then i))
  unfolding further
  goes_further None u then go = go u
  goes_further (Some x) u then go = tries x _ (λ fx f g. updates u (point x f g) then (λ v p. go v))

  -- two in a row, the second by what the first came to
  pub goes-on-further : (e : Option Float) (u : Bracket) (e' : Bracket → Option Float)
      (then : I → Bracket → Bracket → Run K R) → ((v z : Bracket) → Q (λ i. then i v z))
      → Q (λ i. further s refuse kept e u (λ v. further s refuse kept (e' v) v (then i v)))
  goes-on-further e u e' then go = goes_further e u _ (λ v. goes_further (e' v) v (λ i. then i v) (go v))

  -- S1: its trial, and the update with it
  pub through-S1 : (w : Bracket) (then : I → Point → Bracket → Run K R)
      → ((c : Point) (u : Bracket) → Kept w (To u) → Q (λ i. then i c u))
      → Q (λ i. trial s refuse kept (secant_of w.a w.b) (λ c. update s refuse kept w c (then i c)))
  through-S1 w then go =
      let x = secant_of w.a w.b in
      tries x _ (λ fx f g. updates w (point x f g) (λ i. then i (point x f g)) (go (point x f g)))

  -- ---- either start
  enoughs : (grown : Option Came) (then : OnBracket) (otherwise : I → Run K R) → ((u : Bracket) → Q (λ i. then i u))
      → Q otherwise → Q (λ i. enough s refuse kept grown (then i) (otherwise i))
  unfolding enough
  enoughs (Some came) then otherwise go more =
      narrows (λ came. Unit {0}) (λ h k d strictly p. tt) s.options.budget came tt then (λ u p. go u)
  enoughs None then otherwise go more = more

  pub grows : (n : ℕ) (t : Point) (grown : Option Came) (then : OnBracket) → ((u : Bracket) → Q (λ i. then i u))
      → Q (λ i. growth s refuse kept n t grown (then i))
  unfolding growth
  grows zero t grown then go = enoughs grown then _ go (over _)
  grows (suc n) t grown then go =
      enoughs grown then _ go
      (tries (longer_of t) _ (λ fx f g.
      let d = point (longer_of t) f g in
      grows n d (grown_of s.level (zero_of s) t d) then go))

  abbrev OnStart : Type 0
  OnStart = I → Point → Bracket → Run K R

  ask-start : (w : Bracket) (then : OnStart) → ((c : Point) (w : Bracket) → Q (λ i. then i c w))
      → Q (λ i. ask_start s refuse kept w (then i))
  unfolding ask_start
  ask-start w then go = asks s.options.params.start (λ i c. then i c w) (λ f g. go _ w)

  ask-high : (x : Float) (a : Point) (then : OnStart) → ((c : Point) (w : Bracket) → Q (λ i. then i c w))
      → Q (λ i. ask_high s refuse kept x a (then i))
  unfolding ask_high
  ask-high x a then go =
      asks x (λ i b. ask_start s refuse kept (bracket a b) (then i))
      (λ f g. ask-start (bracket a (point x f g)) then go)

  pub starts : (way : Way) (then : OnStart) → ((c : Point) (w : Bracket) → Q (λ i. then i c w))
      → Q (λ i. starting s refuse kept way (then i))
  unfolding starting
  starts (Bounded e) then go =
      asks e.min (λ i a. ask_high s refuse kept e.max a (then i))
      (λ f g. ask-high e.max (point e.min f g) then go)
  starts (Growing n) then go =
      let first : Point → Option Came = λ c. grown_of s.level (zero_of s) (zero_of s) c in
      asks s.options.params.start (λ i c. growth s refuse kept n c (first c) (then i c)) (λ f g.
      let c = point s.options.params.start f g in
      grows n c (first c) (λ i. then i c) (go c))

-- ---- one run of the start or an iteration by itself: whatever it comes to, by any answers, is P
pub data Ends {R : Type 0} (P : R → Type 0) : Alone R → Type 0 where
  waiting : {k : Report} {x : Float} {then : Float → Float → Alone R} → ((f g : Float) → Ends P (then f g))
      → Ends P (ask k x then)
  refused : {why : Why} → Ends P (end (inl why))
  reached : {r : R} → P r → Ends P (end (inr r))

abbrev pub OneEnds : {R : Type 0} → (R → Type 0) → (Unit {0} → Alone R) → Type 0
OneEnds P r = Ends P (r tt)

module _ {R : Type 0} {P : R → Type 0} where
  answered : {k : Report} {x : Float} {then : Float → Float → Alone R} → Ends P (ask k x then) → (f g : Float)
      → Ends P (then f g)
  answered (waiting go) f g = go f g

  plays-on : {r r' : Alone R} {asked : List Point} → Ends P r → Plays r asked r' → Ends P r'
  plays-on from not_yet = from
  plays-on from (then-asked before f g) = answered (plays-on from before) f g

  at-end : {r : R} → Ends P (end (inr r)) → P r
  at-end (reached p) = p

  pub ends_so : {r : Alone R} {asked : List Point} {v : R} → Ends P r → Plays r asked (end (inr v)) → P v
  ends_so from plays = at-end (plays-on from plays)
