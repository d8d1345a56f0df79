-- The start, of either way, and with it the whole search (`search-stands`). 01's three answers come to the bounds. A
-- start that grows comes to a bracket that meets demand 3's premise, with its ends in order, from f0 <= L and x < 5x in
-- computed floats, s0 < 0 and U3's strict betweenness. Assumes nothing.
use mathlib.Core.Path.{◌≡◌, refl, sym, ap, ◌∙◌, subst}
use mathlib.Core.Bool.{true, ◌&&◌}
use mathlib.Core.List.{List, [], ◌∷◌}
use mathlib.Core.Logic.{inl, inr}
use Prim.Native.Nat.{ℕ, zero, suc, ◌+◌, ◌<◌}
use native.Mathlib.Omega.{arith}
use lib.ListN.{length}
use lib.Ieee.{Float, binary64, fits, of_bits}
use lib.Ieee.Bits.{is_true}
use lib.Ieee.Fits.{mul-fits}
use lib.Ieee.Scale.{finite}
use Rattle.floats.specs.Arithmetic.{◌<ᶠ◌, ◌≤ᶠ◌, ◌>ᶠ◌, ◌≥ᶠ◌, 0ᶠ, 5ᶠ}
use Rattle.floats.proofs.Branches.{by_cases, both, and_first, and_second, not-second}
use Rattle.floats.proofs.Growth.{five-grows}
use Rattle.floats.proofs.Order.{zero-real, lt→le, le_refl, le_trans, lt_trans}
use Rattle.runs.specs.Outcomes.{Why}
use Rattle.runs.specs.Asking.{Run, end, Rest, keeping}
use Rattle.hagerzhang_rules.specs.declared.Point.{Point}
use Rattle.hagerzhang_rules.specs.declared.Bracket.{Bracket}
use Rattle.hagerzhang_rules.specs.declared.Bounds.{Bounds}
use Rattle.hagerzhang_rules.specs.declared.Way.{Way}
use Rattle.hagerzhang_rules.specs.declared.Way.TheVariants.{Bounded, Growing}
use Rattle.hagerzhang_rules.specs.declared.Params.{Params}
use Rattle.hagerzhang_rules.specs.declared.Options.{Options}
use Rattle.hagerzhang_rules.specs.declared.Setup.{Setup}
use Rattle.hagerzhang_rules.specs.declared.Came.{Came}
use Rattle.hagerzhang_rules.specs.declared.Came.TheVariants.{To, On}
use Rattle.std.specs.Prelude.{Option, Some, None}
use Rattle.hagerzhang_rules.specs.Parameters.{setup_of}
use Rattle.hagerzhang_rules.specs.Rules.{answer_finite, point, bracket, zero_of, grown_of, longer_of, best_of, asking}
use Rattle.hagerzhang_rules.specs.Rules.{trial, U3, ask_start, ask_high, enough, growth, starting, Report, nothing_yet}
use Rattle.hagerzhang_rules.specs.Rules.{rounds, hager_zhang, hager_zhang_by}
use Rattle.hagerzhang_rules.specs.Iterations as words
use Rattle.hagerzhang_rules.specs.Iterations.{Alone, start_alone, Plays, not_yet, OneOf, here, there, most_by}
use Rattle.hagerzhang_rules.specs.Iterations.{most_in_start, Started-from, at_zero, asked-then, Opens, earlier_of}
use Rattle.hagerzhang_rules.specs.Iterations.{tried, standing, inside, point_finite}
use Rattle.hagerzhang_rules.proofs.Apart.{not-both}
use Rattle.hagerzhang_rules.proofs.Ranges.{Accepted, level-finite, f0-finite, s0-finite, gamma-finite}
use Rattle.hagerzhang_rules.proofs.Ranges.{gamma-above, start-finite, min-finite, max-finite, min-from-zero}
use Rattle.hagerzhang_rules.proofs.Ranges.{low-below-high, start-above, start_fits, s0-below, f0-below-level}
use Rattle.hagerzhang_rules.proofs.Iterations.{Ready, Fine, Stands, Arrives, begins, none-asked}
use Rattle.hagerzhang_rules.proofs.StaysBracket.{low_meets, high_meets, Frame, Low, SoundCame, is-to, is-on}
use Rattle.hagerzhang_rules.proofs.StaysBracket.{sound-premise, falling, under, more, now}
use Rattle.hagerzhang_rules.proofs.Within.{Goes, one-more-asked, one-more-had, ends, asks, narrows}
use Rattle.hagerzhang_rules.proofs.EachIteration.{rounds-report, fine-report, rounds-stand}

-- ---- what a start that grows is allowed and owes of its ends: everything that is owed is due
started-more : {s : Setup} (asked : List Point) (p q : Point) → Started-from s asked p → Started-from s (q ∷ asked) p
started-more asked p q (at_zero e) = at_zero e
started-more asked p q (asked-then o) = asked-then (there o)

abbrev start-frame : Setup → Frame
start-frame s = record {
  low = record {
    from = Started-from s;
    more = started-more;
    now = λ asked c. asked-then here;
    inside = λ x. 0ᶠ ≤ᶠ x;
    owed = Unit {0};
  };
  high = record {
    from = λ asked p. OneOf p asked;
    more = λ asked p q o. there o;
    now = λ asked c. here;
    inside = λ x. true;
    owed = Unit {0};
  };
  low_up = λ x y h l. le_trans 0ᶠ x y h (lt→le x y l);
  high_down = λ x y h l. refl;
}

-- what a trial d tells, of finite numbers
data Tells (L : Float) (low earlier d : Point) : Option Came → Type 0 where
  brackets : high_meets d ≡ true → Tells L low earlier d (Some (To (bracket earlier d)))
  steepens : Tells L low earlier d (Some (On low d.x))
  too_short : low_meets L d ≡ true → Tells L low earlier d None

tells : (L : Float) (low earlier d : Point) → finite L ≡ true → point_finite d ≡ true
    → Tells L low earlier d (grown_of L low earlier d)
unfolding grown_of
tells L low earlier d f_l fd =
    let Q = Tells L low earlier d in
    by_cases Q (d.g ≥ᶠ 0ᶠ) (λ rises. brackets rises)
    (λ no.
    let falls = falling d fd no in
    by_cases Q (d.g <ᶠ 0ᶠ && d.f >ᶠ L) (λ above. steepens)
    (λ not-above. too_short (both (d.g <ᶠ 0ᶠ) (d.f ≤ᶠ L) falls
    (under d fd L f_l (not-second (d.g <ᶠ 0ᶠ) (d.f >ᶠ L) not-above falls)))))

answer-fine : (d : Point) → point_finite d ≡ true → answer_finite d.f d.g ≡ true
answer-fine d fd =
    both (finite d.f) (finite d.g)
    (and_second (finite d.x) (finite d.f) (and_first (finite d.x && finite d.f) (finite d.g) fd))
    (and_second (finite d.x && finite d.f) (finite d.g) fd)

growth-enough : {K R : Type 0} (s : Setup) (refuse : Why → R) (kept : K) (n : ℕ) (t : Point) (came : Came)
    (then : Bracket → Run K R)
    → growth s refuse kept n t (Some came) then ≡ U3 s refuse kept s.options.budget came then
unfolding growth enough
growth-enough s refuse kept zero t came then = refl
growth-enough s refuse kept (suc n) t came then = refl

-- ---- a start that no row refuses
module _ (o : Options) (f0 s0 : Float) (ok : Accepted o f0 s0) where
  abbrev s : Setup
  s = setup_of o f0 s0

  abbrev q : Params
  q = o.params

  ready : Ready s
  ready = record {
    level-finite = level-finite o f0 s0 ok;
    gamma-fit =
        both (finite q.gamma) (0ᶠ <ᶠ q.gamma) (gamma-finite o f0 s0 ok) (gamma-above o f0 s0 ok);
  }

  none_yet : Fine s nothing_yet
  none_yet = record { numbers = refl; in_order = tt; from_zero = tt; counted = omega arith }

  abbrev Start : List Point → Rest Report → Type 0
  Start = Arrives s nothing_yet

  -- what follows a finished start
  abbrev on : Point → Bracket → Rest Report
  on c w = rounds s o.limit w c 0

  opens : (asked : List Point) (c : Point) (w : Bracket) → point_finite w.a ≡ true → point_finite w.b ≡ true
      → point_finite c ≡ true → 0ᶠ ≤ᶠ w.a.x ≡ true
      → Opens s asked (record { bracket = w; best = best_of w.a w.b c; iterations = 0 }) → Start asked (on c w)
  opens asked c w fa fb fc from new =
      begins (rounds-report s o.limit w c 0) new
      (rounds-stand s ready o.limit w c 0 (omega arith)
      (fine-report s w c 0 fa fb fc new.ordered from (omega arith)) fc)

  -- ---- 01's: a, b and c are asked
  module _ (e : Bounds) (is : o.way ≡ Bounded e) where
    -- a question of it
    bounded-asks : (asked : List Point) (x : Float) (then : Point → Rest Report) (then' : Point → Alone Bracket)
        → length asked < 3 → finite x ≡ true → Plays (start_alone s) asked (asking s inl nothing_yet x then')
        → ((f g : Float) → point_finite (point x f g) ≡ true
        → Plays (start_alone s) (point x f g ∷ asked) (then' (point x f g))
        → Start (point x f g ∷ asked) (then (point x f g)))
        → Start asked (asking s (keeping nothing_yet) nothing_yet x then)
    bounded-asks asked x then then' room fx at go =
        asks s nothing_yet none_yet tt (start_alone s) (start-frame s) asked x then then'
        (rw is (omega arith)) (words.of-bounds is at fx) at
        (λ f g e' at'. go f g (rw fx e') at')

    bounded-stands : Start [] (starting s (keeping nothing_yet) nothing_yet (Bounded e) on)
    unfolding starting ask_high ask_start
    bounded-stands =
        let alone-on : Point → Bracket → Alone Bracket = λ c w. end (inr w) in
        let begun = subst (λ (w : Way). Plays (start_alone s) [] (starting s inl nothing_yet w alone-on)) is not_yet in
        bounded-asks [] e.min (λ a. ask_high s (keeping nothing_yet) nothing_yet e.max a on)
        (λ a. ask_high s inl nothing_yet e.max a alone-on) (omega arith)
        (min-finite o f0 s0 ok e is) begun (λ f g fa at_a.
        let a = point e.min f g in
        bounded-asks (a ∷ []) e.max (λ b. ask_start s (keeping nothing_yet) nothing_yet (bracket a b) on)
        (λ b. ask_start s inl nothing_yet (bracket a b) alone-on) (omega arith)
        (max-finite o f0 s0 ok e is) at_a (λ f g fb at_b.
        let b = point e.max f g in
        let w = bracket a b in
        bounded-asks (b ∷ a ∷ []) q.start (λ c. on c w) (λ c. alone-on c w) (omega arith)
        (start-finite o f0 s0 ok) at_b (λ f g fc at_c.
        let c = point q.start f g in
        opens (c ∷ b ∷ a ∷ []) c w fa fb fc (min-from-zero o f0 s0 ok e is) (record {
          whole = at_c;
          none-finished = refl;
          ordered = low-below-high o f0 s0 ok e is;
          few = rw is (omega arith);
          grew = λ K other. absurd (not-both e K (sym is ∙ other));
        }))))

  -- ---- 02's: the start step grows
  module _ (K : ℕ) (is : o.way ≡ Growing K) where
    abbrev L : Float
    L = s.level

    abbrev low : Point
    low = zero_of s

    most-is : most_in_start o ≡ 1 + K + o.budget
    most-is = ap (λ (w : Way). most_by w o.budget) is

    abbrev By-itself : List Point → Alone Bracket → Type 0
    By-itself = Plays (start_alone s)

    abbrev Then : (Bracket → Rest Report) → (Bracket → Alone Bracket) → Type 0
    Then = Goes s nothing_yet (start_alone s) (start-frame s) (most_in_start o)

    stands-so : (asked : List Point) (d : Point) → standing s nothing_yet asked ≡ None
        → standing s nothing_yet (d ∷ asked) ≡ grown_of L low (earlier_of s asked) d
    stands-so asked d stands =
        one-more-asked s nothing_yet asked d stands ∙ ap (λ (w : Way). tried s w (earlier_of s asked) d) is

    -- the trial before d, or the point at 0, can be a low end
    record Early (asked : List Point) (d : Point) : Type 0 where
      can-be-low : Low L (start-frame s) asked (earlier_of s asked)
      shorter : (earlier_of s asked).x <ᶠ d.x ≡ true
      above : 0ᶠ <ᶠ d.x ≡ true
      f64 : fits binary64 d.x ≡ true

    zero-low : (asked : List Point) → Low L (start-frame s) asked low
    unfolding of_bits
    zero-low asked = record {
      from = at_zero refl;
      numbers = rw (f0-finite o f0 s0 ok, s0-finite o f0 s0 ok);
      lies = le_refl 0ᶠ zero-real;
      stays = λ u. both (s0 <ᶠ 0ᶠ) (f0 ≤ᶠ L) (s0-below o f0 s0 ok K is) (f0-below-level o f0 s0 ok K is);
    }

    -- the next trial, after d was too short
    later : (asked : List Point) (d : Point) (f g : Float) → Early asked d → point_finite d ≡ true
        → low_meets L d ≡ true → finite (longer_of d) ≡ true → Early (d ∷ asked) (point (longer_of d) f g)
    later asked d f g early fd meets fx =
        let fdx = and_first (finite d.x) (finite d.f) (and_first (finite d.x && finite d.f) _ fd) in
        let grows = five-grows d.x early.f64 fdx early.above fx in
        record {
          can-be-low = now fd (lt→le 0ᶠ d.x early.above) meets;
          shorter = grows;
          above = lt_trans 0ᶠ d.x (longer_of d) early.above grows;
          f64 = is_true (fits binary64 (longer_of d)) (mul-fits binary64 5ᶠ d.x);
        }

    -- what a trial comes to that was enough
    sound-trial : (asked : List Point) (d : Point) (came : Came) → Early asked d → point_finite d ≡ true
        → Tells L low (earlier_of s asked) d (Some came) → SoundCame L (start-frame s) (d ∷ asked) came
    sound-trial asked d _ early fd (brackets rises) =
        is-to (record { low = more d early.can-be-low; high = now fd refl rises; in_order = early.shorter })
    sound-trial asked d _ early fd steepens = is-on (zero-low (d ∷ asked)) refl

    -- d was asked behind these, and the step may grow n times more: it was enough, or what is shown of one too short
    judged : (n : ℕ) (asked : List Point) (d : Point) (grown : Option Came) (then : Bracket → Rest Report)
        (then' : Bracket → Alone Bracket)
        → length asked + n ≡ K → standing s nothing_yet asked ≡ None
        → standing s nothing_yet (d ∷ asked) ≡ grown → Early asked d → point_finite d ≡ true
        → Tells L low (earlier_of s asked) d grown
        → By-itself (d ∷ asked) (growth s inl nothing_yet n d grown then') → Then then then'
        → (low_meets L d ≡ true → standing s nothing_yet (d ∷ asked) ≡ None
        → By-itself (d ∷ asked) (growth s inl nothing_yet n d None then')
        → Start (d ∷ asked) (growth s (keeping nothing_yet) nothing_yet n d None then))
        → Start (d ∷ asked) (growth s (keeping nothing_yet) nothing_yet n d grown then)
    judged n asked d (Some came) then then' count before stands early fd t at go short =
        let none-had = one-more-had s nothing_yet asked d before in
        rw (growth-enough s (keeping nothing_yet) nothing_yet n d came then)
        (narrows s nothing_yet none_yet tt (start_alone s) (start-frame s) o.budget (d ∷ asked) came then then'
        (rw most-is (omega arith)) stands (omega arith) (rw (growth-enough s inl nothing_yet n d came then') at at)
        (sound-trial asked d came early fd t)
        (λ more v few. go more v (rw most-is (omega arith))))
    judged n asked d None then then' count before stands early fd (too_short meets) at go short =
        short meets stands at

    grows : (n : ℕ) (asked : List Point) (d : Point) (then : Bracket → Rest Report) (then' : Bracket → Alone Bracket)
        → length asked + n ≡ K → standing s nothing_yet asked ≡ None → Early asked d → point_finite d ≡ true
        → By-itself (d ∷ asked) (growth s inl nothing_yet n d (grown_of L low (earlier_of s asked) d) then')
        → Then then then'
        → Start (d ∷ asked)
        (growth s (keeping nothing_yet) nothing_yet n d (grown_of L low (earlier_of s asked) d) then)
    unfolding growth enough trial
    grows zero asked d then then' count before early fd at go =
        judged zero asked d (grown_of L low (earlier_of s asked) d) then then' count before (stands-so asked d before)
        early fd (tells L low (earlier_of s asked) d (level-finite o f0 s0 ok) fd) at go
        (λ meets stands at'.
        ends s nothing_yet none_yet tt (start_alone s) (start-frame s) (rw most-is (omega arith))
        (words.growths-spent is (answer-fine d fd) stands (omega arith)))
    grows (suc n) asked d then then' count before early fd at go =
        judged (suc n) asked d (grown_of L low (earlier_of s asked) d) then then' count before
        (stands-so asked d before) early fd (tells L low (earlier_of s asked) d (level-finite o f0 s0 ok) fd) at go
        (λ meets stands at'.
        by_cases (Start (d ∷ asked)) (finite (longer_of d))
        (λ fx.
        let there = rw fx at at' in
        asks s nothing_yet none_yet tt (start_alone s) (start-frame s) (d ∷ asked) (longer_of d)
        (λ c. growth s (keeping nothing_yet) nothing_yet n c (grown_of L low d c) then)
        (λ c. growth s inl nothing_yet n c (grown_of L low d c) then') (rw most-is (omega arith))
        (words.as-longer is stands (omega arith) fx) there
        (λ f g e at''.
        grows n (d ∷ asked) (point (longer_of d) f g) then then' (omega arith) stands
        (later asked d f g early fd meets fx) (rw fx e) at'' go))
        (λ e. ends s nothing_yet none_yet tt (start_alone s) (start-frame s) (rw most-is (omega arith))
        (words.growth-not-finite is (answer-fine d fd) stands (omega arith) e)))

    growing-stands : Start [] (starting s (keeping nothing_yet) nothing_yet (Growing K) on)
    unfolding starting standing
    growing-stands =
        let alone-on : Point → Bracket → Alone Bracket = λ c w. end (inr w) in
        let begun = subst (λ (w : Way). By-itself [] (starting s inl nothing_yet w alone-on)) is not_yet in
        let fx = start-finite o f0 s0 ok in
        let up = start-above o f0 s0 ok K is in
        asks s nothing_yet none_yet tt (start_alone s) (start-frame s) [] q.start
        (λ c. growth s (keeping nothing_yet) nothing_yet K c (grown_of L low low c) (on c))
        (λ c. growth s inl nothing_yet K c (grown_of L low low c) (alone-on c)) (rw most-is (omega arith))
        (words.as_first is fx) begun
        (λ f g e at.
        let c = point q.start f g in
        let fc : point_finite c ≡ true = rw fx e in
        grows K [] c (on c) (alone-on c) (omega arith) refl
        (record { can-be-low = zero-low []; shorter = up; above = up; f64 = start_fits o f0 s0 ok K is }) fc at
        (λ asked u few comes.
        let m = comes.sound in
        opens asked c u m.low.numbers m.high.numbers fc m.low.lies (record {
          whole = comes.there;
          none-finished = refl;
          ordered = m.in_order;
          few = few;
          grew = λ K' same. record {
            premise_holds = sound-premise m tt tt;
            low-from = m.low.from;
            high-from = m.high.from;
          };
        })))

  by_way : (w : Way) → o.way ≡ w → Start [] (starting s (keeping nothing_yet) nothing_yet w on)
  by_way (Bounded e) is = bounded-stands e is
  by_way (Growing K) is = growing-stands K is

  pub search-stands : Stands s [] (hager_zhang s)
  unfolding hager_zhang_by
  search-stands = none-asked (by_way o.way refl)
