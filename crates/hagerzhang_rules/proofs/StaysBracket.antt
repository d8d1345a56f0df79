-- Demand 3, for one update of the rules: a bracket that it comes to has its ends in order; each end came from where the
-- start or the iteration under way allows, it lies where that began, its numbers are finite, and it meets its part of
-- demand 3's premise where that is owed. What is allowed and owed is a `Frame`; of an iteration on the bracket w
-- (`on-bracket`): an end of w or a point that the iteration asked, with its answer, within w, and the premise where w's
-- end meets it. Proved once for U0 to U2 (`updated-sound`) and once for U3 by its answer (`narrowed-sound`). The Rust's
-- "unreachable point" has no case here: at finite numbers one of the guards holds. From the order of finite floats.
-- Assumes nothing.
use mathlib.Core.Path.{◌≡◌, refl, sym, ◌∙◌}
use mathlib.Core.Bool.{Bool, true, false, ◌&&◌, false≢true}
use mathlib.Core.List.{List, [], ◌∷◌}
use Rattle.std.specs.Prelude.{Option, Some}
use lib.Ieee.{Float, is_nan}
use lib.Ieee.Scale.{finite}
use Rattle.floats.specs.Arithmetic.{◌<ᶠ◌, ◌≤ᶠ◌, ◌>ᶠ◌, ◌≥ᶠ◌, 0ᶠ}
use Rattle.floats.proofs.Order.{finite→real, zero-real, lt→le, nle→lt, nlt→le, le_refl, le_trans}
use Rattle.floats.proofs.Branches.{by_cases, both, and_first, and_second, not-second, neither-first, neither-second}
use Rattle.hagerzhang_rules.specs.declared.Point.{Point}
use Rattle.hagerzhang_rules.specs.declared.Bracket.{Bracket}
use Rattle.hagerzhang_rules.specs.declared.Came.{Came}
use Rattle.hagerzhang_rules.specs.declared.Came.TheVariants.{To, On}
use Rattle.hagerzhang_rules.specs.Rules.{outside, update_of, narrowed_of}
use Rattle.hagerzhang_rules.specs.Brackets.{premise, Ordered, Within}
use Rattle.hagerzhang_rules.specs.Iterations.{here, there, Came-from, former-low, former-high, asked-now}
use Rattle.hagerzhang_rules.specs.Iterations.{point_finite}

abbrev pub low_meets : Float → Point → Bool
low_meets L p = p.g <ᶠ 0ᶠ && p.f ≤ᶠ L

abbrev pub high_meets : Point → Bool
high_meets p = p.g ≥ᶠ 0ᶠ

-- ---- what is allowed of an end, where these points are asked: it may be the one that is asked now, and stays what it
-- was when one more is asked; and what is owed of it, where `owed` holds
pub record Side : Type 1 where
  pub from : List Point → Point → Type 0
  pub more : (asked : List Point) (p q : Point) → from asked p → from (q ∷ asked) p
  pub now : (asked : List Point) (c : Point) → from (c ∷ asked) c
  pub inside : Float → Bool
  pub owed : Type 0

-- of both ends; a step above one that lies inside for a low end does so too, and one below for a high end
pub record Frame : Type 1 where
  pub low : Side
  pub high : Side
  pub low_up : (x y : Float) → low.inside x ≡ true → x <ᶠ y ≡ true → low.inside y ≡ true
  pub high_down : (x y : Float) → high.inside y ≡ true → x <ᶠ y ≡ true → high.inside x ≡ true

-- an end p
pub record Keeps (A : Side) (meets : Point → Bool) (asked : List Point) (p : Point) : Type 0 where
  pub from : A.from asked p
  pub numbers : point_finite p ≡ true
  pub lies : A.inside p.x ≡ true
  pub stays : A.owed → meets p ≡ true

abbrev pub Low : Float → Frame → List Point → Point → Type 0
Low L F = Keeps F.low (low_meets L)

abbrev pub High : Frame → List Point → Point → Type 0
High F = Keeps F.high high_meets

-- a bracket u that is reached
pub record Sound (L : Float) (F : Frame) (asked : List Point) (u : Bracket) : Type 0 where
  pub low : Low L F asked u.a
  pub high : High F asked u.b
  pub in_order : Ordered u

-- or U3 goes on, between h and k
pub data SoundCame (L : Float) (F : Frame) (asked : List Point) : Came → Type 0 where
  is-to : {v : Bracket} → Sound L F asked v → SoundCame L F asked (To v)
  is-on : {h : Point} {k : Float} → Low L F asked h → F.high.inside k ≡ true → SoundCame L F asked (On h k)

-- an update comes to one of these, and never to the Rust's error
pub data SoundUpdate (L : Float) (F : Frame) (asked : List Point) : Option Came → Type 0 where
  reaches : {came : Came} → SoundCame L F asked came → SoundUpdate L F asked (Some came)

-- what it says of the whole
pub sound-premise : {L : Float} {F : Frame} {asked : List Point} {u : Bracket} → Sound L F asked u → F.low.owed
    → F.high.owed → premise L u.a u.b ≡ true
sound-premise {L} {F} {asked} {u} m l h =
    both (low_meets L u.a) (high_meets u.b) (m.low.stays l) (m.high.stays h)

-- ---- finite numbers are no NaN
module _ (p : Point) (fp : point_finite p ≡ true) where
  pub x-finite : finite p.x ≡ true
  x-finite = and_first (finite p.x) (finite p.f) (and_first (finite p.x && finite p.f) _ fp)

  x-real : is_nan p.x ≡ false
  x-real = finite→real p.x x-finite

  f-real : is_nan p.f ≡ false
  f-real =
      finite→real p.f (and_second (finite p.x) (finite p.f) (and_first (finite p.x && finite p.f) _ fp))

  g-real : is_nan p.g ≡ false
  g-real = finite→real p.g (and_second (finite p.x && finite p.f) (finite p.g) fp)

  -- a slope that is not >= 0 is < 0
  pub falling : p.g ≥ᶠ 0ᶠ ≡ false → p.g <ᶠ 0ᶠ ≡ true
  falling = nle→lt 0ᶠ p.g zero-real g-real

  -- a cost that is not > L is <= L
  pub under : (L : Float) → finite L ≡ true → p.f >ᶠ L ≡ false → p.f ≤ᶠ L ≡ true
  under L f_l = nlt→le L p.f (finite→real L f_l) f-real

-- ---- an end stays what it was when one more point is asked, or is that point
module _ {A : Side} {meets : Point → Bool} {asked : List Point} where
  pub more : {p : Point} (q : Point) → Keeps A meets asked p → Keeps A meets (q ∷ asked) p
  more {p} q m =
      record { from = A.more asked p q m.from; numbers = m.numbers; lies = m.lies; stays = m.stays }

  pub now : {c : Point} → point_finite c ≡ true → A.inside c.x ≡ true → meets c ≡ true → Keeps A meets (c ∷ asked) c
  now {c} fc lies meets = record { from = A.now asked c; numbers = fc; lies = lies; stays = λ h. meets }

-- ---- an iteration on w
pub from_more : {w : Bracket} (asked : List Point) (p q : Point) → Came-from w asked p → Came-from w (q ∷ asked) p
from_more asked p q (former-low e) = former-low e
from_more asked p q (former-high e) = former-high e
from_more asked p q (asked-now o) = asked-now (there o)

abbrev pub on-end : Bracket → (Float → Bool) → Type 0 → Side
on-end w inside owed = record {
  from = Came-from w;
  more = from_more;
  now = λ asked c. asked-now here;
  inside = inside;
  owed = owed;
}

abbrev pub on-bracket : Float → Bracket → Frame
on-bracket L w = record {
  low = on-end w (λ x. w.a.x ≤ᶠ x) (low_meets L w.a ≡ true);
  high = on-end w (λ x. x ≤ᶠ w.b.x) (high_meets w.b ≡ true);
  low_up = λ x y h l. le_trans w.a.x x y h (lt→le x y l);
  high_down = λ x y h l. le_trans x y w.b.x (lt→le x y l) h;
}

module _ {L : Float} {w : Bracket} {asked : List Point} {u : Bracket} (m : Sound L (on-bracket L w) asked u) where
  pub sound-within : Within w u
  sound-within = record { low-within = m.low.lies; high-within = m.high.lies }

  pub sound-stays : premise L w.a w.b ≡ true → premise L u.a u.b ≡ true
  sound-stays h =
      sound-premise m (and_first (low_meets L w.a) (high_meets w.b) h)
      (and_second (low_meets L w.a) (high_meets w.b) h)

-- w itself, where nothing is asked
pub sound-self : (L : Float) (w : Bracket) → point_finite w.a ≡ true → point_finite w.b ≡ true → Ordered w
    → Sound L (on-bracket L w) [] w
sound-self L w fa fb o = record {
  low = record {
    from = former-low refl;
    numbers = fa;
    lies = le_refl w.a.x (x-real w.a fa);
    stays = λ h. h;
  };
  high = record {
    from = former-high refl;
    numbers = fb;
    lies = le_refl w.b.x (x-real w.b fb);
    stays = λ h. h;
  };
  in_order = o;
}

-- ---- U0 to U3: u is reached, and c was asked just now
module _ (L : Float) (F : Frame) (asked : List Point) (u : Bracket) (c : Point) (m : Sound L F asked u)
    (f_l : finite L ≡ true) (fc : point_finite c ≡ true) where
  above_low : outside u c ≡ false → u.a.x <ᶠ c.x ≡ true
  above_low e =
      nle→lt c.x u.a.x (x-real c fc) (x-real u.a m.low.numbers)
      (neither-first (c.x ≤ᶠ u.a.x) (c.x ≥ᶠ u.b.x) e)

  below-high : outside u c ≡ false → c.x <ᶠ u.b.x ≡ true
  below-high e =
      nle→lt u.b.x c.x (x-real u.b m.high.numbers) (x-real c fc)
      (neither-second (c.x ≤ᶠ u.a.x) (c.x ≥ᶠ u.b.x) e)

  pub updated-sound : SoundUpdate L F (c ∷ asked) (update_of L u c)
  unfolding update_of
  updated-sound =
      let Q : Option Came → Type 0 = SoundUpdate L F (c ∷ asked) in
      by_cases Q (outside u c) (λ e. reaches (is-to (record {
        low = more c m.low;
        high = more c m.high;
        in_order = m.in_order;
      })))
      (λ e.
      let from_low = F.low_up u.a.x c.x m.low.lies (above_low e) in
      let to_high = F.high_down c.x u.b.x m.high.lies (below-high e) in
      by_cases Q (c.g ≥ᶠ 0ᶠ) (λ rises. reaches (is-to (record {
        low = more c m.low;
        high = now fc to_high rises;
        in_order = above_low e;
      })))
      (λ no.
      let falls = falling c fc no in
      by_cases Q (c.g <ᶠ 0ᶠ && c.f ≤ᶠ L) (λ meets. reaches (is-to (record {
        low = now fc from_low meets;
        high = more c m.high;
        in_order = below-high e;
      })))
      (λ over. by_cases Q (c.g <ᶠ 0ᶠ && c.f >ᶠ L) (λ above. reaches (is-on (more c m.low) to_high))
      (λ none-holds.
      let above = nle→lt c.f L (f-real c fc) (finite→real L f_l) (not-second (c.g <ᶠ 0ᶠ) (c.f ≤ᶠ L) over falls) in
      absurd (false≢true (sym (not-second (c.g <ᶠ 0ᶠ) (c.f >ᶠ L) none-holds falls) ∙ above))))))

-- ---- U3 by its answer d, asked between h and k
module _ (L : Float) (F : Frame) (asked : List Point) (h : Point) (k : Float) (d : Point) (low : Low L F asked h)
    (high : F.high.inside k ≡ true) (lo : h.x <ᶠ d.x ≡ true) (hi : d.x <ᶠ k ≡ true)
    (fd : point_finite d ≡ true) where
  pub narrowed-sound : SoundCame L F (d ∷ asked) (narrowed_of L h k d)
  unfolding narrowed_of
  narrowed-sound =
      let Q : Came → Type 0 = SoundCame L F (d ∷ asked) in
      let from_low = F.low_up h.x d.x low.lies lo in
      let to_high = F.high_down d.x k high hi in
      by_cases Q (d.g ≥ᶠ 0ᶠ)
      (λ rises. is-to (record { low = more d low; high = now fd to_high rises; in_order = lo }))
      (λ no. by_cases Q (d.f ≤ᶠ L)
      (λ under. is-on (now fd from_low (both (d.g <ᶠ 0ᶠ) (d.f ≤ᶠ L) (falling d fd no) under)) high)
      (λ over. is-on (more d low) to_high))
