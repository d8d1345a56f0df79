-- 02, request 4 (specs/ZeroSlope.antt): equal steps of an end and its former end are those of one point, since U0 lets
-- nothing in at a former end's step, and 01's secant of a point with itself is a NaN. So S4 gives what 01's gave, or
-- 01's was a NaN; and the search is 01's, but for what stands in place of an e that is not finite. Assumes nothing.
use mathlib.Core.Path.{◌≡◌, refl, sym, ap, ap₂, ◌∙◌, subst, fun_ext}
use mathlib.Core.Bool.{Bool, true, false, not, cond, ◌&&◌, false≢true}
use mathlib.Core.List.{List, [], ◌∷◌}
use mathlib.Core.Logic.{◌⊎◌, inl, inr}
use Prim.Native.Nat.{ℕ, zero, suc, ◌+◌}
use lib.Ieee.{Float, is_nan, of_bits}
use lib.Ieee.Scale.{finite}
use Rattle.floats.specs.Arithmetic.{1ᶠ, ◌⊖◌, ◌⊗◌, ◌≤ᶠ◌, ◌≥ᶠ◌}
use Rattle.floats.proofs.Branches.{by_cases, by-cases₂, false-if, neither-first, neither-second}
use Rattle.floats.proofs.Itself.{difference-of-itself, quotient-of-none}
use Rattle.floats.proofs.Order.{finite→real, eq→le, eq→ge, lt→nle}
use Rattle.hagerzhang_rules.specs.Rules.{iteration_by, secant_of, is_near, when, or_else, equal_steps, Giving, S2, S3}
use Rattle.hagerzhang_rules.specs.Rules.{S4, L2, after_s4, best_of, judge_of, trial, further, starting, Report}
use Rattle.hagerzhang_rules.specs.Rules.{nothing_yet, report_of, decided, verdict, rounds_by, hager_zhang_by}
use Rattle.hagerzhang_rules.specs.Rules.{hager_zhang}
use Rattle.runs.specs.Outcomes.{limit, asks, ends, refusal, step_not_finite, refusal_in}
use Rattle.runs.specs.Asking.{ask, end, Rest, Ended, end_with, keeping, Reply, shown, respond, outcomes, after}
use Rattle.runs.specs.Asking.{reported}
use Rattle.runs.specs.Asking.{awaits}
use Rattle.runs.specs.declared.Verdict.{Verdict}
use Rattle.hagerzhang_rules.specs.declared.Point.{Point}
use Rattle.hagerzhang_rules.specs.declared.Bracket.{Bracket}
use Rattle.hagerzhang_rules.specs.declared.Way.{Way}
use Rattle.hagerzhang_rules.specs.declared.Way.TheVariants.{Bounded, Growing}
use Rattle.hagerzhang_rules.specs.declared.Setup.{Setup}
use Rattle.hagerzhang_rules.specs.declared.Came.TheVariants.{To}
use Rattle.std.specs.Prelude.{Option, None, Some}
use Rattle.hagerzhang_rules.specs.Brackets.{Ordered}
use Rattle.hagerzhang_rules.specs.ZeroSlope.{former_s2, former_s3, former_s4, formerly, Changes, GivesNan, OfUpdate}
use Rattle.hagerzhang_rules.specs.ZeroSlope.{update_alone, unless_five, former_but, marked, Alike, Parts, ZeroSlope}
use Rattle.hagerzhang_rules.proofs.Apart.{none-not-some}
use Rattle.hagerzhang_rules.proofs.Passes.{KeptEnd, Kept, kept-to, updates, goes-on-further, through-S1, starts}
use Rattle.hagerzhang_rules.proofs.Passes.{Ends, waiting, refused, reached, OneEnds, ends_so}

-- ---- one update

secant-of-itself : (p : Point) → is_nan (secant_of p p) ≡ true
secant-of-itself p =
    quotient-of-none (p.x ⊗ p.g ⊖ p.x ⊗ p.g) (p.g ⊖ p.g) (difference-of-itself (p.x ⊗ p.g))
    (difference-of-itself p.g)

-- an end that has the step of a former end of w is no new one
same_low : (w : Bracket) (p : Point) → KeptEnd w w.a p → equal_steps w.a p ≡ true → p ≡ w.a
same_low w p (inl e) same = e
same_low w p (inr inside) same =
    absurd (false≢true (sym (neither-first (p.x ≤ᶠ w.a.x) (p.x ≥ᶠ w.b.x) inside) ∙ eq→ge w.a.x p.x same))

same-high : (w : Bracket) (p : Point) → KeptEnd w w.b p → equal_steps w.b p ≡ true → p ≡ w.b
same-high w p (inl e) same = e
same-high w p (inr inside) same =
    absurd (false≢true (sym (neither-second (p.x ≤ᶠ w.a.x) (p.x ≥ᶠ w.b.x) inside) ∙ eq→le w.b.x p.x same))

-- a rule of e at one end, q, which was p: `near` is 01's test, `same` request 4's
silent : (near same : Bool) (e : Float) → same ≡ true → when (near && not same) e ≡ None
silent true true e is = refl
silent false true e is = refl
silent near false e is = absurd (false≢true is)

stays : (near same : Bool) (e : Float) → same ≡ false → when (near && not same) e ≡ when near e
stays true false e is = refl
stays false false e is = refl
stays near true e is = absurd (false≢true (sym is))

nan-of : (p q : Point) → q ≡ p → is_nan (secant_of p q) ≡ true
nan-of p q one = subst (λ (r : Point). is_nan (secant_of p r) ≡ true) (sym one) (secant-of-itself p)

-- it gives what it gave, or that was a NaN
mended : (near same : Bool) (p q : Point) → (same ≡ true → q ≡ p)
    → (when (near && not same) (secant_of p q) ≡ when near (secant_of p q)) ⊎ GivesNan (when near (secant_of p q))
mended false same p q one = inl refl
mended true false p q one = inl refl
mended true true p q one =
    inr (record { step = secant_of p q; given = refl; not-a-number = nan-of p q (one refl) })

changed : (w : Bracket) (cx : Float) (u : Bracket) → Changes w cx u
unfolding S2 S3
changed w cx u = record {
  S2-silent = silent (is_near cx u.b.x) (equal_steps w.b u.b) _;
  S2-stays = stays (is_near cx u.b.x) (equal_steps w.b u.b) _;
  S3-silent = silent (is_near cx u.a.x) (equal_steps w.a u.a) _;
  S3-stays = stays (is_near cx u.a.x) (equal_steps w.a u.a) _;
  overwrites = λ e is. ap (λ (d : Option Float). or_else d (S2 w cx u)) is;
  earlier-stays = λ is. ap (λ (d : Option Float). or_else d (S2 w cx u)) is;
}

-- S3's e stands over S2's, in today's rules, d, and in 01's, e
over : (d3 e3 d2 e2 : Option Float) → (d3 ≡ e3) ⊎ GivesNan e3 → (d2 ≡ e2) ⊎ GivesNan e2
    → (or_else d3 d2 ≡ or_else e3 e2) ⊎ GivesNan (or_else e3 e2)
over d3 e3 d2 e2 (inr n) either =
    inr (record {
      step = n.step;
      given = ap (λ (e : Option Float). or_else e e2) n.given;
      not-a-number = n.not-a-number;
    })
over d3 e3 d2 e2 (inl p) (inl q) = inl (ap₂ or_else p q)
over d3 (Some x) d2 e2 (inl p) (inr n) = inl (ap (λ (e : Option Float). or_else e d2) p)
over d3 None d2 e2 (inl p) (inr n) = inr n

-- where p's step is not at most q's they are not equal
apart : (p q : Point) → p.x ≤ᶠ q.x ≡ false → equal_steps p q ≡ false
apart p q above = false-if (equal_steps p q) λ same. false≢true (sym above ∙ eq→le p.x q.x same)

module _ (w u : Bracket) where
  low-apart : Ordered w → KeptEnd w w.a u.a → equal_steps w.b u.a ≡ false
  low-apart ordered (inl e) =
      subst (λ (p : Point). equal_steps w.b p ≡ false) (sym e)
      (apart w.b w.a (lt→nle w.a.x w.b.x ordered))
  low-apart ordered (inr inside) =
      apart w.b u.a (neither-second (u.a.x ≤ᶠ w.a.x) (u.a.x ≥ᶠ w.b.x) inside)

  high-apart : Ordered w → KeptEnd w w.b u.b → equal_steps w.a u.b ≡ false
  high-apart ordered (inl e) =
      subst (λ (p : Point). equal_steps w.a p ≡ false) (sym e) (false-if (equal_steps w.a w.b) λ same.
      false≢true (sym (lt→nle w.a.x w.b.x ordered) ∙ eq→ge w.a.x w.b.x same))
  high-apart ordered (inr inside) = false-if (equal_steps w.a u.b) λ same.
      false≢true (sym (neither-first (u.b.x ≤ᶠ w.a.x) (u.b.x ≥ᶠ w.b.x) inside)
      ∙ eq→ge w.a.x u.b.x same)

  of-kept : Kept w (To u) → OfUpdate w u
  unfolding S2 S3
  of-kept (kept-to low high) =
      let same = same_low w u.a low in
      let same' = same-high w u.b high in
      record {
        low_same = same;
        high_same = same';
        low-not-high = λ ordered. low-apart ordered low;
        high-not-low = λ ordered. high-apart ordered high;
        S2-was-nan = λ is. nan-of w.b u.b (same' is);
        S3-was-nan = λ is. nan-of w.a u.a (same is);
        S4-was-nan = λ cx.
            over (S3 w cx u) (former_s3 w cx u) (S2 w cx u) (former_s2 w cx u)
            (mended (is_near cx u.a.x) (equal_steps w.a u.a) w.a u.a same)
            (mended (is_near cx u.b.x) (equal_steps w.b u.b) w.b u.b same');
      }

-- ---- whatever an update comes to, by any answers
update-kept : (s : Setup) (w : Bracket) (c : Point) → Ends (λ u. Kept w (To u)) (update_alone s w c)
update-kept s w c =
    updates s inl nothing_yet (OneEnds (λ u. Kept w (To u))) (λ why. refused) (λ x then go. waiting go) w c
    (λ i v. end (inr v)) (λ u kept. reached kept)

-- ---- the whole search: the same text
unless-same : (d e : Option Float) → d ≡ e → d ≡ unless_five e d
unless-same d None same = same
unless-same d (Some x) same = by_cases (λ (r : Option Float). d ≡ r) (finite x) (λ is. same) (λ is. refl)

unless-nan : (d e : Option Float) → GivesNan e → d ≡ unless_five e d
unless-nan d e n =
    subst (λ (e : Option Float). d ≡ unless_five e d) (sym n.given)
    (by_cases (λ (r : Option Float). d ≡ r) (finite n.step)
    (λ is. absurd (false≢true (sym (finite→real n.step is) ∙ n.not-a-number))) (λ is. refl))

by-now : {w u : Bracket} (cx : Float) → OfUpdate w u → S4 w cx u ≡ former_but S4 w cx u
by-now {w} {u} cx of =
    elim (of.S4-was-nan cx) [
      | inl same ↦ unless-same (S4 w cx u) (former_s4 w cx u) same
      | inr n ↦ unless-nan (S4 w cx u) (former_s4 w cx u) n
    ]

-- behind S1: S4, with an e or none, and L2. What comes then has the new bracket alone
abbrev behind_s1 : Setup → Report → Option Float → Bracket → Bracket → (Bracket → Rest Report) → Rest Report
behind_s1 s k e w u then = further s (keeping k) k e u (λ v. after_s4 s (keeping k) k w v then)

module _ (s : Setup) where
  -- the two texts, of which `true` is today's
  abbrev rule : Bool → Giving
  rule now = cond now S4 (former_but S4)

  rounds-same : (n : ℕ) (w : Bracket) (c : Point) (i : ℕ)
      → rounds_by s S4 n w c i ≡ rounds_by s (former_but S4) n w c i
  unfolding rounds_by iteration_by
  rounds-same zero w c i = refl
  rounds-same (suc n) w c i =
      let k = report_of s w c i in
      let later : Bool → Bracket → Rest Report = λ now v. rounds_by s (rule now) n v c (i + 1) in
      ap (λ (go : Rest Report). verdict s w c i go)
      (through-S1 s (keeping k) k (λ (r : Bool → Rest Report). r true ≡ r false) (λ why. refl)
      (λ x then go. ap (λ (t : Float → Float → Rest Report). ask k x t) (fun_ext (λ f. fun_ext (λ g. go f g)))) w
      (λ now d u. behind_s1 s k (rule now w d.x u) w u (later now)) (λ d u kept.
      ap (λ (e : Option Float). behind_s1 s k e w u (later true)) (by-now d.x (of-kept w u kept))
      ∙ ap (λ (t : Bracket → Rest Report). behind_s1 s k (former_but S4 w d.x u) w u t)
      (fun_ext (λ v. rounds-same n v c (i + 1)))))

  same_text : hager_zhang s ≡ hager_zhang_by s (former_but S4)
  unfolding hager_zhang_by
  same_text =
      ap (λ (t : Point → Bracket → Rest Report). starting s (keeping nothing_yet) nothing_yet s.options.way t)
      (fun_ext (λ c. fun_ext (λ w. rounds-same s.options.limit w c 0)))

-- ---- the former search, the one that has a mark in place of an e that is not finite, and today's: they go the same
-- way, or the first is refused where the second asks the mark
data Text : Type 0 where
  former mark now : Text

abbrev rule_of : Text → Giving
rule_of former = former_s4
rule_of mark = former_but (λ w cx u. Some 1ᶠ)
rule_of now = former_but S4

data Goes : Rest Report → Rest Report → Rest Report → Type 0 where
  all-ask : {k : Report} {x : Float} {t1 t2 t3 : Float → Float → Rest Report}
      → ((f g : Float) → Goes (t1 f g) (t2 f g) (t3 f g)) → Goes (ask k x t1) (ask k x t2) (ask k x t3)
  all_end : {o : Ended Report} → Goes (end o) (end o) (end o)
  apart-here : {k : Report} {x : Float} {t2 : Float → Float → Rest Report} {r3 : Rest Report}
      → Goes (end_with k (refusal (step_not_finite x))) (ask k 1ᶠ t2) r3

abbrev AllGo : (Text → Rest Report) → Type 0
AllGo r = Goes (r former) (r mark) (r now)

decided-so : (k : Report) (x : Float) (go : Text → Rest Report) (j : Option Verdict) → AllGo go
    → AllGo (λ i. decided k x (go i) j)
unfolding decided
decided-so k x go (Some v) more = all_end
decided-so k x go None more = more

module _ (s : Setup) where
  -- behind S1, where the former rule gives e: today's d would stand in its place
  module _ (k : Report) (w u : Bracket) (then : Text → Bracket → Rest Report)
      (go : (v : Bracket) → AllGo (λ i. then i v)) (d : Option Float) where
    abbrev behind : Option Float → Text → Rest Report
    behind e i = behind_s1 s k e w u (then i)

    goes : (e : Option Float) → AllGo (behind e)
    unfolding after_s4
    goes e =
        goes-on-further s (keeping k) k AllGo (λ why. all_end) (λ x then more. all-ask more) e u
        (L2 s.options.params.gamma w) (λ i v. then i) (λ v. go)

    parts : (x : Float) (r3 : Rest Report) → finite x ≡ false → Goes (behind (Some x) former) (behind (Some 1ᶠ) mark) r3
    unfolding further trial of_bits
    parts x r3 e =
        by_cases (λ (r : Rest Report). Goes r (behind (Some 1ᶠ) mark) r3) (finite x)
        (λ is. absurd (false≢true (sym e ∙ is))) (λ is. apart-here)

    by-e : (e : Option Float)
        → Goes (behind e former) (behind (unless_five e (Some 1ᶠ)) mark) (behind (unless_five e d) now)
    by-e None = goes None
    by-e (Some x) =
        by-cases₂ (λ (m e : Option Float). Goes (behind (Some x) former) (behind m mark) (behind e now)) (finite x)
        (λ is. goes (Some x)) (λ isn't. parts x (behind d now) isn't)

  rounds-so : (n : ℕ) (w : Bracket) (c : Point) (i : ℕ) → AllGo (λ t. rounds_by s (rule_of t) n w c i)
  unfolding rounds_by verdict iteration_by
  rounds-so zero w c i =
      let best = best_of w.a w.b c in
      let k = report_of s w c i in
      decided-so k best.x (λ t. end_with k (limit best.x)) (judge_of s best) all_end
  rounds-so (suc n) w c i =
      let best = best_of w.a w.b c in
      let k = report_of s w c i in
      let later : Text → Bracket → Rest Report = λ t v. rounds_by s (rule_of t) n v c (i + 1) in
      decided-so k best.x (λ t. iteration_by s (keeping k) k (rule_of t) w (λ u. later t)) (judge_of s best)
      (through-S1 s (keeping k) k AllGo (λ why. all_end) (λ x then more. all-ask more) w
      (λ t d u. behind_s1 s k (rule_of t w d.x u) w u (later t)) (λ d u kept.
      by-e k w u later (λ v. rounds-so n v c (i + 1)) (S4 w d.x u) (former_s4 w d.x u)))

  search-so : AllGo (λ t. hager_zhang_by s (rule_of t))
  unfolding hager_zhang_by
  search-so =
      starts s (keeping nothing_yet) nothing_yet AllGo (λ why. all_end) (λ x then more. all-ask more) s.options.way
      (λ t c w. rounds_by s (rule_of t) s.options.limit w c 0) (λ c w. rounds-so s.options.limit w c 0)

-- along the answers
abbrev Either : Rest Report → Rest Report → Rest Report → List Reply → Type 0
Either r1 r2 r3 ys = Alike r3 r1 ys ⊎ Parts r3 r1 r2 ys

abbrev FromAsk : List Reply → Type 0
FromAsk ys =
    (k : Report) (x : Float) (t1 t2 t3 : Float → Float → Rest Report)
    → ((f g : Float) → Goes (t1 f g) (t2 f g) (t3 f g)) → Either (ask k x t1) (ask k x t2) (ask k x t3) ys

-- one answer y leads from an ask to these
module _ (k : Report) (x : Float) (t1 t2 t3 : Float → Float → Rest Report) (y : Reply)
    (same : shown (t3 y.0 y.1) ≡ shown (t1 y.0 y.1)) where
  alike-on : {ys : List Reply} → Alike (t3 y.0 y.1) (t1 y.0 y.1) ys
      → Alike (ask k x t3) (ask k x t1) (y ∷ ys)
  unfolding outcomes after respond
  alike-on alike =
      record { tells = ap₂ ◌∷◌ same alike.tells; reports = alike.reports; expects = alike.expects }

  further-on : {ys : List Reply} → Either (t1 y.0 y.1) (t2 y.0 y.1) (t3 y.0 y.1) ys
      → Either (ask k x t1) (ask k x t2) (ask k x t3) (y ∷ ys)
  unfolding after respond
  further-on (inl alike) = inl (alike-on alike)
  further-on (inr p) =
      inr (record {
        before = y ∷ p.before;
        y = p.y;
        later = p.later;
        split = ap (λ (zs : List Reply). y ∷ zs) p.split;
        alike = alike-on p.alike;
        refused = p.refused;
        at-S4 = p.at-S4;
      })

at_once : {r r' : Rest Report} → reported r ≡ reported r' → awaits r ≡ awaits r' → Alike r r' []
unfolding outcomes after
at_once reports expects = record { tells = refl; reports = reports; expects = expects }

-- from where an answer has led: on as ever, or the former search is refused there
comes-to : (ys : List Reply) → FromAsk ys → {r1 r2 r3 : Rest Report} → Goes r1 r2 r3
    → ((shown r3 ≡ shown r1) × Either r1 r2 r3 ys) ⊎ ((shown r1 ≡ ends (refusal 5)) × (shown r2 ≡ asks 1ᶠ))
unfolding shown
comes-to ys later (all-ask go) = inl (refl, later _ _ _ _ _ go)
comes-to ys later all_end = inl (refl, inl (record { tells = refl; reports = refl; expects = refl }))
comes-to ys later apart-here = inr (refl, refl)

from-ask : (ys : List Reply) → FromAsk ys
from-ask [] k x t1 t2 t3 go = inl (unfold reported awaits in at_once refl refl)
from-ask (y ∷ ys) k x t1 t2 t3 go =
    elim (comes-to ys (from-ask ys) (go y.0 y.1)) [
      | inl on ↦ further-on k x t1 t2 t3 y on.0 on.1
      | inr here ↦ inr (record {
        before = [];
        y = y;
        later = ys;
        split = refl;
        alike = unfold reported awaits in at_once refl refl;
        refused = unfold after respond in here.0;
        at-S4 = unfold after respond in here.1;
      })
    ]

-- a search begins with an ask
first-asks : (s : Setup) (way : Way) (then : Point → Bracket → Rest Report)
    → refusal_in (shown (starting s (keeping nothing_yet) nothing_yet way then)) ≡ None
unfolding starting shown
first-asks s (Bounded e) then = refl
first-asks s (Growing n) then = refl

from_first : (ys : List Reply) {r1 r2 r3 : Rest Report} → Goes r1 r2 r3 → refusal_in (shown r1) ≡ None
    → Either r1 r2 r3 ys
unfolding shown
from_first ys (all-ask go) e = from-ask ys _ _ _ _ _ go
from_first ys all_end e = inl (record { tells = refl; reports = refl; expects = refl })
from_first ys apart-here e = absurd (none-not-some (sym e))

pub zero-slope : ZeroSlope
zero-slope = record {
  changes = changed;
  of-update = λ s w c asked u plays. of-kept w u (ends_so (update-kept s w c) plays);
  same_text = same_text;
  served-as-before = λ s ys.
      subst (λ (r : Rest Report). Alike r (formerly s) ys ⊎ Parts r (formerly s) (marked s) ys) (sym (same_text s))
      (from_first ys (search-so s) (unfold hager_zhang_by in first-asks s s.options.way _));
}
