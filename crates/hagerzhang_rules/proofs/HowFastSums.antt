-- The sums of request 14 hold of the written rules, as one list under a single claim (specs/HowFastSums.antt): decision
-- by decision, each by computing in f64, since a whole run at once is too long for the checker. Assumes nothing.
use mathlib.Core.Path.{◌≡◌, refl, ap, ◌∙◌}
use mathlib.Core.Bool.{true, false, ◌&&◌, false≢true}
use mathlib.Core.List.{List, [], ◌∷◌}
use mathlib.Core.Logic.{inl, inr}
use Prim.Native.Nat.{ℕ, zero, suc, ◌*◌, ◌^◌}
use lib.IntN.{negsuc}
use lib.Ieee.{Float, binary64, fin, add, sub, mul, div, neg, le, lt, eq, of_bits, of_int}
use lib.Ieee.Scale.{finite}
use Rattle.floats.proofs.Branches.{both, and_first, and_second}
use Rattle.floats.specs.Units.{units}
use Rattle.floats.specs.Numerals.{whole, quarters, minus}
use Rattle.refusals.specs.Results.{value}
use Rattle.hagerzhang_rules.specs.declared.Point.{Point}
use Rattle.hagerzhang_rules.specs.declared.Bracket.{Bracket}
use Rattle.hagerzhang_rules.specs.declared.Came.TheVariants.{To, On}
use Rattle.std.specs.Prelude.{Option, None, Some}
use Rattle.hagerzhang_rules.specs.Rules.{point, bracket, answer_finite, update_of, middle_of, is_between, narrowed_of}
use Rattle.hagerzhang_rules.specs.Rules.{secant_of, S2, S3, S4, L2, asking, trial, between, U3, updating, update}
use Rattle.hagerzhang_rules.specs.Rules.{further, after_s4, iteration_by, Report}
use Rattle.hagerzhang_rules.specs.MarkedSums.{b, ab, ½, ¾}
use Rattle.hagerzhang_rules.specs.Closing.{span}
use Rattle.hagerzhang_rules.specs.Iterations.{Iterated, Alone, leaves, alone, Plays, not_yet, then-asked}
use Rattle.hagerzhang_rules.specs.Iterations.{point_finite}
use Rattle.hagerzhang_rules.specs.HowFastSums.{setup, accepts-by, 1+2EPS, neighbours, next-neighbours}
use Rattle.hagerzhang_rules.specs.HowFastSums.{three-apart, HowFastSums}
use Rattle.hagerzhang_rules.proofs.StaysBracket.{x-finite}

-- ---- an iteration on w by its decisions, each an equation
module _ (gamma : Float) (k : Report) (w : Bracket) where
  abbrev There : List Point → Alone Iterated → Type 0
  There = Plays (alone (setup gamma) k w)

  abbrev Then : Type 0
  Then = Bracket → Alone Iterated

  -- d's step is asked, and d is the answer
  answers : {asked : List Point} (d : Point) (then : Point → Alone Iterated) → point_finite d ≡ true
      → There asked (asking (setup gamma) inl k d.x then) → There (d ∷ asked) (then d)
  answers d then fd plays =
      let finite-two = and_first (finite d.x && finite d.f) (finite d.g) fd in
      let answered : answer_finite d.f d.g ≡ true =
      both (finite d.f) (finite d.g) (and_second (finite d.x) (finite d.f) finite-two)
      (and_second (finite d.x && finite d.f) (finite d.g) fd) in
      rw answered at (then-asked plays d.f d.g)

  tries : {asked : List Point} (d : Point) (x : Float) (then : Point → Alone Iterated) → x ≡ d.x
      → point_finite d ≡ true → There asked (trial (setup gamma) inl k x then) → There (d ∷ asked) (then d)
  unfolding trial
  tries d x then at fd plays = answers d then fd (rw (at, x-finite d fd) at plays)

  -- its update came to u
  comes : {asked : List Point} (n : ℕ) (u : Bracket) (then : Then) → There asked (U3 (setup gamma) inl k n (To u) then)
      → There asked (then u)
  unfolding U3
  comes zero u then plays = plays
  comes (suc n) u then plays = plays

  abbrev To-bracket : Bracket → Point → Bracket → Type 0
  To-bracket z c u = update_of (whole 1) z c ≡ Some (To u)

  updates : {asked : List Point} (z : Bracket) (c : Point) (u : Bracket) (then : Then) → To-bracket z c u
      → There asked (update (setup gamma) inl k z c then) → There asked (then u)
  unfolding updating
  updates z c u then is plays = comes 100 u then (rw is at plays)

  -- or U3 between h and x came to u by one answer
  narrowed : {asked : List Point} (z : Bracket) (c h : Point) (x : Float) (d : Point) (u : Bracket) (then : Then)
      → update_of (whole 1) z c ≡ Some (On h x) → middle_of ½ h x ≡ d.x → point_finite d ≡ true
      → is_between h x d.x ≡ true → narrowed_of (whole 1) h x d ≡ To u
      → There asked (update (setup gamma) inl k z c then) → There (d ∷ asked) (then u)
  unfolding updating U3 between trial
  narrowed z c h x d u then is at fd strictly to-u plays =
      let on : Point → Alone Iterated = λ d. U3 (setup gamma) inl k 99 (narrowed_of (whole 1) h x d) then in
      comes 99 u then (rw to-u at (answers d on fd (rw (is, at, x-finite d fd, strictly) at plays)))

  -- a further trial, or none
  asks : {asked : List Point} (e : Option Float) (z : Bracket) (d : Point) (then : Then) → e ≡ Some d.x
      → point_finite d ≡ true → There asked (further (setup gamma) inl k e z then)
      → There (d ∷ asked) (update (setup gamma) inl k z d then)
  unfolding further
  asks e z d then is fd plays = tries d d.x (λ c. update (setup gamma) inl k z c then) refl fd (rw is at plays)

  asks_none : {asked : List Point} (e : Option Float) (z : Bracket) (then : Then) → e ≡ None
      → There asked (further (setup gamma) inl k e z then) → There asked (then z)
  unfolding further
  asks_none e z then is plays = rw is at plays

  -- S1; S4 gives none, or e
  abbrev behind : Then
  behind v = after_s4 (setup gamma) inl k w v (leaves v)

  S1s : (c : Point) (u : Bracket) → secant_of w.a w.b ≡ c.x → point_finite c ≡ true → To-bracket w c u
      → There (c ∷ []) (further (setup gamma) inl k (S4 w c.x u) u behind)
  unfolding iteration_by
  S1s c u at fc is =
      updates w c u (λ u. further (setup gamma) inl k (S4 w c.x u) u behind) is
      (tries c (secant_of w.a w.b) _ at fc not_yet)

  -- L2 asks nothing, or d
  kept : {asked : List Point} (v : Bracket) → L2 gamma w v ≡ None → There asked (behind v) → There asked (leaves v v)
  unfolding after_s4
  kept v is plays = asks_none (L2 gamma w v) v (leaves v) is plays

  L2s : {asked : List Point} (v : Bracket) (d : Point) → L2 gamma w v ≡ Some d.x → point_finite d ≡ true
      → There asked (behind v) → There (d ∷ asked) (update (setup gamma) inl k v d (leaves v))
  unfolding after_s4
  L2s v d is fd plays = asks (L2 gamma w v) v d (leaves v) is fd plays

-- ---- the sums
abbrev c : Point
c = point (whole 1) (whole 1) (minus (whole 1))

narrows : (k : Report) (d : Point) (v : Bracket) → d.x ≡ whole 2 → point_finite d ≡ true
    → To-bracket ½ k ab (bracket c b) d v → L2 ½ ab v ≡ None → Plays (alone (setup ½) k ab) (d ∷ c ∷ []) (leaves v v)
unfolding update_of S2 S3 add sub mul div neg le lt eq of_bits of_int
narrows k d v at fd is none =
    kept ½ k ab v none
    (updates ½ k ab (bracket c b) d v (behind ½ k ab) is
    (asks ½ k ab (S4 ab (whole 1) (bracket c b)) (bracket c b) d (behind ½ k ab) (rw at) fd
    (S1s ½ k ab c (bracket c b) refl refl refl)))

-- m is asked of (c', b): S1 to S4 leave it
abbrev c' : Point
c' = point (whole 1) (whole 1) (minus (quarters 6))

abbrev e : Point
e = point (whole 4) (whole 9) (whole 6)

S1-to-S4 : (gamma : Float) (k : Report)
    → Plays (alone (setup gamma) k ab) (e ∷ c' ∷ []) (behind gamma k ab (bracket c' b))
unfolding update_of S2 S3 add sub mul div neg le lt eq of_bits of_int
S1-to-S4 gamma k =
    updates gamma k ab (bracket c' b) e (bracket c' b) (behind gamma k ab) refl
    (asks gamma k ab (S4 ab (whole 1) (bracket c' b)) (bracket c' b) e (behind gamma k ab) refl refl
    (S1s gamma k ab c' (bracket c' b) refl refl refl))

-- 2.5 by way of its own form: the checker takes too long where it compares the two quotients as they are written
asks-m : L2 ½ ab (bracket c' b) ≡ Some (quarters 10)
unfolding L2 add sub mul div neg lt of_bits of_int
asks-m =
    let as-halves : L2 ½ ab (bracket c' b) ≡ Some (fin false 5 (negsuc 0)) = refl in
    let as-quarters : fin false 5 (negsuc 0) ≡ quarters 10 = refl in
    as-halves ∙ ap Some as-quarters

halves : (k : Report) (d : Point) → d.x ≡ quarters 10 → point_finite d ≡ true
    → Plays (alone (setup ½) k ab) (d ∷ e ∷ c' ∷ []) (update (setup ½) inl k (bracket c' b) d (leaves (bracket c' b)))
halves k d at fd = L2s ½ k ab (bracket c' b) d (rw at asks-m) fd (S1-to-S4 ½ k)

-- the answers there
abbrev low : Point
low = point (quarters 10) (whole 3) (whole 1)

abbrev high : Point
high = point (quarters 10) (whole 1) (minus (whole 1))

abbrev steep : Point
steep = point (quarters 10) (whole 3) (minus (whole 1))

-- and in U3
abbrev d : Point
d = point (quarters 7) (whole 3) (whole 1)

-- S1 asks b's step, no e is given, and m is asked
none-given : (k : Report) (w : Bracket) (d : Point) → secant_of w.a w.b ≡ w.b.x → point_finite w.b ≡ true
    → To-bracket ½ k w w w.b w → S4 w w.b.x w ≡ None → L2 ½ w w ≡ Some d.x → point_finite d ≡ true
    → Plays (alone (setup ½) k w) (d ∷ w.b ∷ []) (update (setup ½) inl k w d (leaves w))
none-given k w d at fb is none asked fd =
    L2s ½ k w w d asked fd
    (asks_none ½ k w (S4 w w.b.x w) w (behind ½ k w) none (S1s ½ k w w.b w at fb is))

-- 01 accepts the setup
accepted : (accepts-by ½ ≡ value (setup ½)) × (accepts-by ¾ ≡ value (setup ¾))
unfolding accepts-by add sub mul div neg le lt eq of_bits of_int
accepted = (refl, refl)

-- units, and those of the bracket that is rounded
counts : (units (of_bits binary64 1) ≡ 1) × (units (whole 1) ≡ 2 ^ 1074)
unfolding units of_bits of_int
counts = (refl, refl)

spans : (span three-apart ≡ 3 * 2 ^ 1022)
    × (span (bracket three-apart.a (point 1+2EPS (whole 3) (whole 1))) ≡ 2 * 2 ^ 1022)
unfolding units of_bits of_int
spans = (refl, refl)

pub how-fast-sums : HowFastSums
unfolding update_of narrowed_of S2 S3 L2 add sub mul div neg le lt eq of_bits of_int
how-fast-sums = record {
  setup-accepted = accepted;
  narrow = (λ k. narrows k (point (whole 2) (whole 3) (whole 1)) _ refl refl refl refl, refl, refl);
  exactly-gamma = (λ k. narrows k (point (whole 2) (whole 1) (minus (whole 1))) _ refl refl refl refl, refl);
  by-gamma-alone = (λ k. kept ¾ k ab (bracket c' b) refl (S1-to-S4 ¾ k), refl);
  half = (
    λ k. updates ½ k ab (bracket c' b) low (bracket c' low) (leaves (bracket c' b)) refl (halves k low refl refl),
    λ k. updates ½ k ab (bracket c' b) high (bracket high b) (leaves (bracket c' b)) refl (halves k high refl refl),
    λ k.
        narrowed ½ k ab (bracket c' b) steep c' (quarters 10) d (bracket c' d) (leaves (bracket c' b)) refl refl refl
        refl refl (halves k steep refl refl),
    refl,
    refl,
    refl,
    λ h. elim h.in-one-part [ inl l ↦ false≢true l.high-within | inr l ↦ false≢true l.low-within ],
  );
  none_inside = (
    λ k.
        updates ½ k neighbours neighbours neighbours.a neighbours (leaves neighbours) refl
        (none-given k neighbours neighbours.a refl refl refl refl refl refl),
    refl,
    refl,
    refl,
  );
  none-inside-above = (
    λ k.
        updates ½ k next-neighbours next-neighbours next-neighbours.b next-neighbours (leaves next-neighbours) refl
        (none-given k next-neighbours next-neighbours.b refl refl refl refl refl refl),
    refl,
    refl,
    refl,
  );
  rounded = (
    λ k.
        let d = point 1+2EPS (whole 3) (whole 1) in
        updates ½ k three-apart three-apart d (bracket three-apart.a d) (leaves three-apart) refl
        (none-given k three-apart d refl refl refl refl refl refl),
    refl,
    refl,
    refl,
    refl,
    refl,
    spans.0,
    spans.1,
  );
  counted = counts;
}
