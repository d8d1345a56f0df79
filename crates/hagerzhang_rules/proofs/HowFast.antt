-- 02, request 14 (specs/HowFast.antt): what L2 leaves of the bracket that stood before it. One pass through the flow
-- tells what an iteration comes to by any answers (`fate`): L2's test is the first of the two; U0's at m is the denial
-- of the second, where no NaN stands; and from m an update goes into one half. At finite numbers the first test, where
-- it fails, is `<=` (`closes`), computed differences keep the order (`widths`), and the rest is the computed middle of
-- two f64s (`exactly`). Assumes nothing.
use mathlib.Core.Path.{◌≡◌, refl, sym, ap, ◌∙◌, subst}
use mathlib.Core.Bool.{Bool, true, false, ◌&&◌, ◌||◌, false≢true}
use mathlib.Core.List.{List, [], ◌∷◌}
use mathlib.Core.Logic.{◌⊎◌, inl, inr}
use Rattle.std.specs.Prelude.{Option, None, Some}
use Prim.Native.Nat.{◌-◌, ◌*◌, ◌≤◌}
use native.Mathlib.Omega.{arith}
use lib.Ieee.{Float, binary64, fits, is_nan}
use lib.Ieee.Scale.{finite}
use Rattle.floats.specs.Units.{units}
use Rattle.floats.specs.Arithmetic.{◌⊖◌, ◌⊗◌, ◌<ᶠ◌, ◌≤ᶠ◌, ◌>ᶠ◌, ◌≥ᶠ◌, 0ᶠ}
use Rattle.floats.proofs.Branches.{by_cases, both, and_first, and_second}
use Rattle.floats.proofs.Differences.{sub-mono, sub-real, sub-of-real, times-real}
use Rattle.floats.proofs.Order.{finite→real, le→real-l, le→real-r, lt→le, lt→nle, nlt→le, le_refl, le_trans}
use Rattle.floats.proofs.Shrinks.{between-finite}
use Rattle.floats.proofs.Middle.{units-exact, units_mono, two-thirds, none_between}
use Rattle.runs.specs.Asking.{ask, end}
use Rattle.hagerzhang_rules.specs.declared.Point.{Point}
use Rattle.hagerzhang_rules.specs.declared.Bracket.{Bracket}
use Rattle.hagerzhang_rules.specs.declared.Setup.{Setup}
use Rattle.hagerzhang_rules.specs.declared.Came.{Came}
use Rattle.hagerzhang_rules.specs.declared.Came.TheVariants.{To, On}
use Rattle.hagerzhang_rules.specs.Rules.{point, outside, update_of, narrowed_of, secant_of, S4, L2, trial, update}
use Rattle.hagerzhang_rules.specs.Rules.{further, after_s4, iteration_by, Summary, Report}
use Rattle.hagerzhang_rules.specs.Brackets.{Ordered, Lies, Within}
use Rattle.hagerzhang_rules.specs.Closing.{m, width, span, too_wide, m_inside, Halved, Closes, Widths, Exactly}
use Rattle.hagerzhang_rules.specs.Closing.{EitherOr, is-narrow, is-halved, is_stuck}
use Rattle.hagerzhang_rules.specs.HowFast.{steps_finite, gamma_fit, HowFast, Guarantees}
use Rattle.hagerzhang_rules.specs.Iterations.{Iterated, Alone, leaves, alone, Plays, not_yet, then-asked, Whole}
use Rattle.hagerzhang_rules.proofs.Passes as passes
use Rattle.hagerzhang_rules.proofs.Passes.{IfAny, if_some, if_none, StaysBy, Ends, waiting, refused, reached}
use Rattle.hagerzhang_rules.proofs.Passes.{OneEnds, ends_so}

-- ---- an update of u with c: strictly inside it goes into one half, and keeps to it
data Half (u : Bracket) (x : Float) : Came → Type 0 where
  low_half : {v : Bracket} → Ordered v → Lies u.a.x x v → Half u x (To v)
  high_half : {v : Bracket} → Ordered v → Lies x u.b.x v → Half u x (To v)
  on-half : {h : Point} {k : Float} → u.a.x ≤ᶠ h.x ≡ true → k ≤ᶠ x ≡ true → Half u x (On h k)

half_of : {gamma : Float} {w u v : Bracket} → Half u (m u) (To v) → Halved gamma w u v
half_of (low_half o l) = record { in_order = o; in-one-part = inl l }
half_of (high_half o l) = record { in_order = o; in-one-part = inr l }

updated-half : (L : Float) (u : Bracket) (c : Point) → u.a.x <ᶠ c.x ≡ true → c.x <ᶠ u.b.x ≡ true
    → IfAny (Half u c.x) (update_of L u c)
unfolding update_of
updated-half L u c above below =
    let Q : Option Came → Type 0 = IfAny (Half u c.x) in
    let within : outside u c ≡ false = rw (lt→nle u.a.x c.x above, lt→nle c.x u.b.x below) in
    let low = le_refl u.a.x (le→real-l u.a.x c.x (lt→le u.a.x c.x above)) in
    let here = le_refl c.x (le→real-r u.a.x c.x (lt→le u.a.x c.x above)) in
    let high = le_refl u.b.x (le→real-r c.x u.b.x (lt→le c.x u.b.x below)) in
    by_cases Q (outside u c) (λ e. absurd (false≢true (sym within ∙ e)))
    (λ e. by_cases Q (c.g ≥ᶠ 0ᶠ) (λ e. if_some (low_half above (record { low-within = low; high-within = here })))
    (λ e. by_cases Q (c.g <ᶠ 0ᶠ && c.f ≤ᶠ L)
    (λ e. if_some (high_half below (record { low-within = here; high-within = high })))
    (λ e. by_cases Q (c.g <ᶠ 0ᶠ && c.f >ᶠ L) (λ e. if_some (on-half low here)) (λ e. if_none))))

narrowed-half : (L : Float) (u : Bracket) (x : Float) → StaysBy L (Half u x)
unfolding narrowed_of
narrowed-half L u x h k d strictly (on-half low high) =
    let Q : Came → Type 0 = Half u x in
    let rising = and_first (h.x <ᶠ d.x) (d.x <ᶠ k) strictly in
    let under = lt→le d.x k (and_second (h.x <ᶠ d.x) (d.x <ᶠ k) strictly) in
    let to-x = le_trans d.x k x under high in
    by_cases Q (d.g ≥ᶠ 0ᶠ) (λ e. low_half rising (record { low-within = low; high-within = to-x }))
    (λ e. by_cases Q (d.f ≤ᶠ L) (λ e. on-half (le_trans u.a.x h.x d.x low (lt→le h.x d.x rising)) high)
    (λ e. on-half low to-x))

-- and else it is unchanged
data Same (u : Bracket) : Came → Type 0 where
  same : Same u (To u)

same-as : {u v : Bracket} → Same u (To v) → v ≡ u
same-as same = refl

updated-same : (L : Float) (u : Bracket) (c : Point) → outside u c ≡ true → IfAny (Same u) (update_of L u c)
unfolding update_of
updated-same L u c e = rw e (if_some same)

narrowed-same : (L : Float) (u : Bracket) → StaysBy L (Same u)
narrowed-same L u h k d strictly p = elim p [ ]

-- ---- L2's step m, where neither of A.x and Z.x is a NaN: not strictly inside is U0's "outside"
or-other : (p q r t : Bool) → (p && q) ≡ false → (p ≡ false → r ≡ true) → (q ≡ false → t ≡ true) → (r || t) ≡ true
or-other true true r t e f g = absurd (false≢true (sym e))
or-other true false true t e f g = refl
or-other true false false t e f g = g refl
or-other false q true t e f g = refl
or-other false q false t e f g = absurd (false≢true (f refl))

m-outside : (u : Bracket) (f g : Float) → is_nan u.a.x ≡ false → is_nan u.b.x ≡ false → finite (m u) ≡ true
    → m_inside u ≡ false → outside u (point (m u) f g) ≡ true
m-outside u f g ra rb fm =
    λ e. or-other (u.a.x <ᶠ m u) (m u <ᶠ u.b.x) (m u ≤ᶠ u.a.x) (m u ≥ᶠ u.b.x) e
    (nlt→le u.a.x (m u) ra (finite→real (m u) fm)) (nlt→le (m u) u.b.x (finite→real (m u) fm) rb)

-- a bracket that is too wide by the test has no NaN among its steps
wide-real : (y : Float) (u : Bracket) → width u >ᶠ y ≡ true → (is_nan u.b.x ≡ false) × (is_nan u.a.x ≡ false)
wide-real y u wide = sub-of-real u.b.x u.a.x (le→real-r y (width u) (lt→le y (width u) wide))

-- ---- what an iteration on w comes to: by the two tests, at any numbers
pub data Fate (gamma : Float) (w u v : Bracket) : Type 0 where
  left : too_wide gamma w u ≡ false → v ≡ u → Fate gamma w u v
  parted : too_wide gamma w u ≡ true → m_inside u ≡ true → Halved gamma w u v → Fate gamma w u v
  stayed : too_wide gamma w u ≡ true → m_inside u ≡ false → finite (m u) ≡ true → v ≡ u → Fate gamma w u v

module _ (s : Setup) (k : Report) (w : Bracket) where
  abbrev gamma : Float
  gamma = s.options.params.gamma

  abbrev P : Iterated → Type 0
  P r = Fate gamma w r.before-L2 r.new

  -- the update with m, by the second test
  m-parts : (u : Bracket) (f g : Float) → too_wide gamma w u ≡ true → finite (m u) ≡ true → (b : Bool) → m_inside u ≡ b
      → Ends P (update s inl k u (point (m u) f g) (leaves u))
  m-parts u f g wide fm true is =
      passes.updates-by s inl k (OneEnds P) (λ why. refused) (λ x then go. waiting go) (Half u (m u))
      (narrowed-half s.level u (m u)) (update_of s.level u (point (m u) f g))
      (updated-half s.level u (point (m u) f g) (and_first (u.a.x <ᶠ m u) (m u <ᶠ u.b.x) is)
      (and_second (u.a.x <ᶠ m u) (m u <ᶠ u.b.x) is))
      (λ i. leaves u) (λ v half. reached (parted wide is (half_of half)))
  m-parts u f g wide fm false is =
      let real = wide-real (gamma ⊗ width w) u wide in
      passes.updates-by s inl k (OneEnds P) (λ why. refused) (λ x then go. waiting go) (Same u)
      (narrowed-same s.level u) (update_of s.level u (point (m u) f g))
      (updated-same s.level u (point (m u) f g) (m-outside u f g real.1 real.0 fm is))
      (λ i. leaves u) (λ v same. reached (stayed wide is fm (same-as same)))

  -- L2, by the first
  L2-ends : (u : Bracket) → Ends P (after_s4 s inl k w u (leaves u))
  unfolding after_s4 L2 further
  L2-ends u =
      by_cases (λ (e : Option Float). Ends P (further s inl k e u (leaves u))) (too_wide gamma w u)
      (λ wide.
      passes.tries s inl k (OneEnds P) (λ why. refused) (λ x then go. waiting go) (m u)
      (λ i c. update s inl k u c (leaves u)) (λ fm f g. m-parts u f g wide fm (m_inside u) refl))
      (λ not_wide. reached (left not_wide refl))

  iteration-ends : Ends P (alone s k w)
  unfolding iteration_by
  iteration-ends =
      passes.through-S1 s inl k (OneEnds P) (λ why. refused) (λ x then go. waiting go) w
      (λ i c u. further s inl k (S4 w c.x u) u (λ v. after_s4 s inl k w v (leaves v))) (λ c u kept.
      passes.goes_further s inl k (OneEnds P) (λ why. refused) (λ x then go. waiting go) (S4 w c.x u) u
      (λ i v. after_s4 s inl k w v (leaves v)) L2-ends)

  pub fate : {asked : List Point} {u v : Bracket} → Plays (alone s k w) asked (leaves u v) → Fate gamma w u v
  fate plays = ends_so iteration-ends plays

-- ---- finite steps
module _ (u : Bracket) (fu : steps_finite u ≡ true) where
  low-finite : finite u.a.x ≡ true
  low-finite = and_first (finite u.a.x) (finite u.b.x) fu

  high-finite : finite u.b.x ≡ true
  high-finite = and_second (finite u.a.x) (finite u.b.x) fu

-- ---- (A, Z) has finite steps where the former bracket has: a new one is asked, or lies between two that are finite
data Finite : Came → Type 0 where
  to-finite : {u : Bracket} → steps_finite u ≡ true → Finite (To u)
  on-finite : {h : Point} {k : Float} → finite h.x ≡ true → finite k ≡ true → Finite (On h k)

updated-finite : (L : Float) (w : Bracket) (c : Point) → steps_finite w ≡ true → finite c.x ≡ true
    → IfAny Finite (update_of L w c)
unfolding update_of
updated-finite L w c fw fc =
    let Q : Option Came → Type 0 = IfAny Finite in
    let low = low-finite w fw in
    by_cases Q (outside w c) (λ e. if_some (to-finite fw))
    (λ e. by_cases Q (c.g ≥ᶠ 0ᶠ) (λ e. if_some (to-finite (both (finite w.a.x) (finite c.x) low fc)))
    (λ e. by_cases Q (c.g <ᶠ 0ᶠ && c.f ≤ᶠ L)
    (λ e. if_some (to-finite (both (finite c.x) (finite w.b.x) fc (high-finite w fw))))
    (λ e. by_cases Q (c.g <ᶠ 0ᶠ && c.f >ᶠ L) (λ e. if_some (on-finite low fc)) (λ e. if_none))))

narrowed-finite : (L : Float) → StaysBy L Finite
unfolding narrowed_of
narrowed-finite L h k d strictly (on-finite fh fk) =
    let fd : finite d.x ≡ true =
    between-finite h.x d.x k fh fk (lt→le h.x d.x (and_first (h.x <ᶠ d.x) (d.x <ᶠ k) strictly))
    (lt→le d.x k (and_second (h.x <ᶠ d.x) (d.x <ᶠ k) strictly)) in
    by_cases Finite (d.g ≥ᶠ 0ᶠ) (λ e. to-finite (both (finite h.x) (finite d.x) fh fd))
    (λ e. by_cases Finite (d.f ≤ᶠ L) (λ e. on-finite fd fk) (λ e. on-finite fh fd))

finite-to : {u : Bracket} → Finite (To u) → steps_finite u ≡ true
finite-to (to-finite f) = f

module _ (s : Setup) (k : Report) (w : Bracket) (fw : steps_finite w ≡ true) where
  abbrev F : Iterated → Type 0
  F r = steps_finite r.before-L2 ≡ true

  abbrev Then : Type 0
  Then = Bracket → Alone Iterated

  -- a trial of u at x, and its update
  tried-finite : (x : Float) (u : Bracket) (then : Point → Then) → steps_finite u ≡ true
      → ((c : Point) (v : Bracket) → steps_finite v ≡ true → Ends F (then c v))
      → Ends F (trial s inl k x (λ c. update s inl k u c (then c)))
  tried-finite x u then fu go =
      passes.tries s inl k (OneEnds F) (λ why. refused) (λ x then go. waiting go) x
      (λ i c. update s inl k u c (then c)) (λ fx f g.
      let c = point x f g in
      passes.updates-by s inl k (OneEnds F) (λ why. refused) (λ x then go. waiting go) Finite
      (narrowed-finite s.level) (update_of s.level u c) (updated-finite s.level u c fu fx) (λ i. then c)
      (λ v f. go c v (finite-to f)))

  further-finite : (e : Option Float) (u : Bracket) (then : Then) → steps_finite u ≡ true
      → ((v : Bracket) → steps_finite v ≡ true → Ends F (then v)) → Ends F (further s inl k e u then)
  unfolding further
  further-finite None u then fu go = go u fu
  further-finite (Some x) u then fu go = tried-finite x u (λ c. then) fu (λ c. go)

  -- S1 and S4; L2 leaves (A, Z) what it was
  before-ends : Ends F (alone s k w)
  unfolding iteration_by after_s4
  before-ends =
      tried-finite (secant_of w.a w.b) w
      (λ c u. further s inl k (S4 w c.x u) u (λ v. after_s4 s inl k w v (leaves v))) fw (λ c u fu.
      further-finite (S4 w c.x u) u (λ v. after_s4 s inl k w v (leaves v)) fu (λ v fv.
      further-finite (L2 s.options.params.gamma w v) v (leaves v) fv (λ z fz. reached fv)))

  before-finite : {asked : List Point} {u v : Bracket} → Plays (alone s k w) asked (leaves u v) → steps_finite u ≡ true
  before-finite plays = ends_so before-ends plays

-- ---- at finite steps the first test, where it fails, does so between two numbers that are no NaN
at_most : (gamma : Float) (w u : Bracket) → gamma_fit gamma ≡ true → steps_finite w ≡ true → steps_finite u ≡ true
    → too_wide gamma w u ≡ false → width u ≤ᶠ gamma ⊗ width w ≡ true
at_most gamma w u fit fw fu =
    nlt→le (gamma ⊗ width w) (width u)
    (times-real gamma (width w) (and_first (finite gamma) (0ᶠ <ᶠ gamma) fit) (and_second (finite gamma) _ fit)
    (sub-real w.b.x w.a.x (high-finite w fw) (low-finite w fw)))
    (sub-real u.b.x u.a.x (high-finite u fu) (low-finite u fu))

module _ {gamma : Float} {w u v : Bracket} (fit : gamma_fit gamma ≡ true) (fw : steps_finite w ≡ true)
    (fu : steps_finite u ≡ true) where
  pub closes : Fate gamma w u v → Closes gamma w u v
  closes (left t e) = record {
    narrow = λ t'. record { at-most-gamma = at_most gamma w u fit fw fu t; kept = e };
    halved = λ t' i'. absurd (false≢true (sym t ∙ t'));
    stuck = λ t' i'. absurd (false≢true (sym t ∙ t'));
  }
  closes (parted t i l) = record {
    narrow = λ t'. absurd (false≢true (sym t' ∙ t));
    halved = λ t' i'. l;
    stuck = λ t' i'. absurd (false≢true (sym i' ∙ i));
  }
  closes (stayed t i fm e) = record {
    narrow = λ t'. absurd (false≢true (sym t' ∙ t));
    halved = λ t' i'. absurd (false≢true (sym i ∙ i'));
    stuck = λ t' i'. record { not-inside = i; kept = e };
  }

-- ---- from where a bracket lies to its width
module _ (u : Bracket) (fu : steps_finite u ≡ true) where
  lies-width : (lo hi : Float) → finite lo ≡ true → finite hi ≡ true → Lies lo hi u → width u ≤ᶠ hi ⊖ lo ≡ true
  lies-width lo hi fl fh l =
      sub-mono u.b.x u.a.x hi lo (high-finite u fu) (low-finite u fu) fh fl l.high-within l.low-within

  m-finite : m_inside u ≡ true → finite (m u) ≡ true
  m-finite is =
      between-finite u.a.x (m u) u.b.x (low-finite u fu) (high-finite u fu)
      (lt→le u.a.x (m u) (and_first (u.a.x <ᶠ m u) (m u <ᶠ u.b.x) is))
      (lt→le (m u) u.b.x (and_second (u.a.x <ᶠ m u) (m u <ᶠ u.b.x) is))

half-width : (u v : Bracket) → steps_finite u ≡ true → steps_finite v ≡ true → m_inside u ≡ true
    → Lies u.a.x (m u) v ⊎ Lies (m u) u.b.x v
    → (width v ≤ᶠ m u ⊖ u.a.x ≡ true) ⊎ (width v ≤ᶠ u.b.x ⊖ m u ≡ true)
half-width u v fu fv is (inl l) = inl (lies-width v fv u.a.x (m u) (low-finite u fu) (m-finite u fu is) l)
half-width u v fu fv is (inr l) = inr (lies-width v fv (m u) u.b.x (m-finite u fu is) (high-finite u fu) l)

pub widths : {gamma : Float} {w u v : Bracket} → steps_finite w ≡ true → steps_finite u ≡ true → steps_finite v ≡ true
    → Within w v → Closes gamma w u v → Widths gamma w u v
widths {gamma} {w} {u} {v} fw fu fv inside c = record {
  never-wider = lies-width v fv w.a.x w.b.x (low-finite w fw) (high-finite w fw) inside;
  by-gamma = λ t.
      let is = c.narrow t in
      subst (λ (z : Bracket). width z ≤ᶠ gamma ⊗ width w ≡ true) (sym is.kept) is.at-most-gamma;
  by-half = λ t i. half-width u v fu fv i (c.halved t i).in-one-part;
}

-- ---- exactly
pub record Placed (u : Bracket) : Type 0 where
  pub steps : steps_finite u ≡ true
  pub from_zero : 0ᶠ ≤ᶠ u.a.x ≡ true
  pub in_order : Ordered u

-- a bracket that lies from lo to hi has no more units than they are apart
lies-span : (v : Bracket) (lo hi : Float) → Placed v → 0ᶠ ≤ᶠ lo ≡ true → finite hi ≡ true → Lies lo hi v
    → span v ≤ units hi - units lo
lies-span v lo hi at from fh l =
    let up = le_trans 0ᶠ v.a.x v.b.x at.from_zero (lt→le v.a.x v.b.x at.in_order) in
    let high = units_mono v.b.x hi fh up l.high-within in
    let low = units_mono lo v.a.x (low-finite v at.steps) from l.low-within in
    omega arith

within-span : {w u : Bracket} → Placed w → Placed u → Within w u → span u ≤ span w
within-span {w} {u} pw pu l =
    lies-span u w.a.x w.b.x pu pw.from_zero (high-finite w pw.steps) l

module _ {u v : Bracket} (pu : Placed u) (pv : Placed v) (fa : fits binary64 u.a.x ≡ true)
    (fz : fits binary64 u.b.x ≡ true) where
  two-parts : m_inside u ≡ true → Lies u.a.x (m u) v ⊎ Lies (m u) u.b.x v → 3 * span v ≤ 2 * span u
  two-parts is l =
      let left = and_first (u.a.x <ᶠ m u) (m u <ᶠ u.b.x) is in
      let right = and_second (u.a.x <ᶠ m u) (m u <ᶠ u.b.x) is in
      let fm = m-finite u pu.steps is in
      let most =
      two-thirds u.a.x u.b.x fa fz (low-finite u pu.steps) (high-finite u pu.steps) pu.from_zero
      pu.in_order fm left right in
      let most-low = most.0 in
      let most-high = most.1 in
      elim l [
        | inl low ↦ let few = lies-span v u.a.x (m u) pv pu.from_zero fm low in omega arith
        | inr high ↦
            let from = le_trans 0ᶠ u.a.x (m u) pu.from_zero (lt→le u.a.x (m u) left) in
            let few = lies-span v (m u) u.b.x pv from (high-finite u pu.steps) high in
            omega arith
      ]

  none_left : m_inside u ≡ false → finite (m u) ≡ true → (x : Float) → fits binary64 x ≡ true
      → (u.a.x <ᶠ x && x <ᶠ u.b.x) ≡ false
  none_left is fm =
      none_between u.a.x u.b.x fa fz (low-finite u pu.steps) (high-finite u pu.steps) pu.from_zero
      pu.in_order fm is

  pub exactly : {gamma : Float} {w : Bracket} → Placed w → Within w u → Fate gamma w u v → Exactly gamma w u v
  exactly pw inside (left t e) = record {
    before-L2 = within-span pw pu inside;
    never-wider = subst (λ (z : Bracket). span z ≤ span u) (sym e) (omega arith);
    two-thirds = λ t' i'. absurd (false≢true (sym t ∙ t'));
    none_between = λ t' i'. absurd (false≢true (sym t ∙ t'));
  }
  exactly pw inside (parted t i l) = record {
    before-L2 = within-span pw pu inside;
    never-wider = let few = two-parts i l.in-one-part in omega arith;
    two-thirds = λ t' i'. two-parts i l.in-one-part;
    none_between = λ t' i'. absurd (false≢true (sym i' ∙ i));
  }
  exactly pw inside (stayed t i fm e) = record {
    before-L2 = within-span pw pu inside;
    never-wider = subst (λ (z : Bracket). span z ≤ span u) (sym e) (omega arith);
    two-thirds = λ t' i'. absurd (false≢true (sym i ∙ i'));
    none_between = λ t' i'. none_left i fm;
  }

-- ---- 02's "either .. or .. or .."
either-by : {gamma : Float} {w u v : Bracket} → Closes gamma w u v → (b i : Bool) → too_wide gamma w u ≡ b
    → m_inside u ≡ i → EitherOr gamma w u v
either-by c false i t is = is-narrow (c.narrow t)
either-by c true true t is = is-halved (c.halved t is)
either-by c true false t is = is_stuck (c.stuck t is)

either-or : {gamma : Float} {w u v : Bracket} → Closes gamma w u v → EitherOr gamma w u v
either-or {gamma} {w} {u} c = either-by c (too_wide gamma w u) (m_inside u) refl refl

-- ---- at these points a run comes to one thing, so one bracket stood before L2
abbrev answered : {R : Type 0} → Alone R → Point → Alone R
answered (ask k x then) d = then d.f d.g
answered (end o) d = end o

abbrev played : {R : Type 0} → Alone R → List Point → Alone R
played r [] = r
played r (d ∷ asked) = answered (played r asked) d

plays-so : {R : Type 0} {r r' : Alone R} {asked : List Point} → Plays r asked r' → r' ≡ played r asked
plays-so not_yet = refl
plays-so {R} (then-asked {x = x} before f g) = ap (λ (r : Alone R). answered r (point x f g)) (plays-so before)

abbrev stood_in : Bracket → Alone Iterated → Bracket
stood_in otherwise (ask k x then) = otherwise
stood_in otherwise (end (inl why)) = otherwise
stood_in otherwise (end (inr r)) = r.before-L2

one-before : {r : Alone Iterated} {asked : List Point} {u v u' v' : Bracket} → Plays r asked (leaves u v)
    → Plays r asked (leaves u' v') → u ≡ u'
one-before {u = u} p q = ap (stood_in u) (plays-so p ∙ sym (plays-so q))

-- ---- what a finished iteration leaves says the rest
pub guaranteed : {s : Setup} {p : Summary} {asked : List Point} {q : Summary} → Whole s p asked q
    → Guarantees s p asked q
guaranteed one = record {
  leaves-so = one;
  no_other = λ u v led. one-before led one.whole;
  either-or = either-or one.closes;
}

pub how-fast : HowFast
how-fast = record {
  closes = λ s k w asked u v led fit fw. closes fit fw (before-finite s k w fw led) (fate s k w led);
  one-before-L2 = λ s k w asked u v u' v' led led'. one-before led led';
  units-exact = units-exact;
}
