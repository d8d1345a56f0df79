-- A play tells what 01's rules tell with the curve's answers: turn after turn (`plays`), all of it once the play is
-- over (`chunks-told`), and it is over after as many turns as there is to tell (`over-in-time`). Of the setup only: its
-- limit is a u32, and its L is no NaN (`Fits`).
use mathlib.Core.Path.{◌≡◌, refl, sym, ap, ◌∙◌, subst}
use mathlib.Core.Bool.{false, cond}
use mathlib.Core.List.{List, [], ◌∷◌, ◌++◌, append_assoc}
use Prim.Native.Nat.{ℕ, zero, suc, ◌+◌, ◌≤◌, ◌<◌}
use native.Mathlib.Omega.{arith}
use lib.ListN.{length}
use lib.Ieee.{Float, is_nan}
use Rattle.std.specs.Prelude.{Option, Some, None}
use Rattle.floats.proofs.Branches.{by_cases}
use Rattle.runs.specs.Outcomes.{asks, ends, numbered, told}
use Rattle.runs.specs.Asking.{Rest, Ended, ask, end, respond, shown, reported, once_told}
use Rattle.runs.proofs.Apart.{asks-not-ends, asks-not-over}
use Rattle.runs.proofs.Machines.{adds_one}
use Rattle.runs.proofs.Ends.{EndsWithin, at-ask}
use Rattle.runs.proofs.Determined.{told-determined}
use Rattle.runs.specs.declared.Outcome.{Outcome}
use Rattle.runs.specs.declared.Outcome.TheVariants.{Ask, Stop, Limit, Refused}
use Rattle.hagerzhang_rules.specs.declared.Setup.{Setup}
use Rattle.hagerzhang_rules.specs.Rules.{answer_finite, Report, iterations_in}
use Rattle.curves.specs.declared.Curve.{Curve}
use Rattle.curves.specs.Curves.{value_of, slope_of}
use Rattle.hagerzhang_steps.specs.declared.state.Stage.{Stage}
use Rattle.hagerzhang_steps.specs.declared.state.Stage.TheVariants.{Open, Over as OverStage}
use Rattle.hagerzhang.specs.declared.state.Search.{Search}
use Rattle.hagerzhang.specs.Machine.{Turn}
use Rattle.hagerzhang.specs.Machine.{answer_by, answer_of}
use Rattle.hagerzhang.specs.Meaning.{report, meaning, meant}
use Rattle.hagerzhang.proofs.Answering.{setup-kept, one-more-if-finite, reports}
use Rattle.hagerzhang.proofs.Bridge.{follows}
use Rattle.play.specs.Telling.{Said, telling, said_line, text_of}
use Rattle.play.specs.Playing.{said_of, answered_by, answered_of, said_in, left_after, chunks, left_after_chunks}

-- ---- what an answer to a search that asks counts
counts-on : (b : Search) (f g : Float) (stage : Stage) (k : Report) (x : Float) (then : Float → Float → Rest Report)
    → meaning b.setup stage ≡ ask k x then
    → b.evaluations.0 < 4294967295
    → (answer_by b f g stage).search.evaluations.0 ≡ b.evaluations.0 + cond (answer_finite f g) 1 0
unfolding meaning
counts-on b f g (Open waiting) k x then e h =
    let z = adds_one (answer_finite f g) b.evaluations.0 0 _ h (one-more-if-finite b f g waiting) in omega arith
counts-on b f g (OverStage kept) k x then e h = absurd (asks-not-over k x then _ (sym e))

-- ---- texts one after the other
no_text : text_of [] ≡ []
unfolding text_of
no_text = refl

text-append : (k l : List Said) → text_of (k ++ l) ≡ text_of k ++ text_of l
unfolding text_of
text-append [] l = refl
text-append (s ∷ k) l =
    ap (λ (t : List ℕ). said_line s ++ t) (text-append k l) ∙ sym (append_assoc (said_line s) (text_of k) (text_of l))

-- what is needed of a setup; one that a start accepts has it (`start_fits`, Output.antt)
pub record Fits (s : Setup) : Type 0 where
  pub limit : s.options.limit < 4294967296
  pub level : is_nan s.level ≡ false

-- ---- a step stands where a run of the rules stands that has made e evaluations and ends within m answers
module _ (s : Setup) (fits : Fits s) (c : Curve) where
  pub record Stands (e m : ℕ) (t : Turn) (r : Rest Report) : Type 0 where
    pub same-setup : t.search.setup ≡ s
    pub tells : told t.outcome ≡ shown r
    pub leaves : meant t.search ≡ once_told r
    pub counts : t.search.evaluations.0 ≡ e
    pub within : EndsWithin answer_finite m r
    pub few : e + m < 4294967295

  -- what a play has still to tell
  pub data Matches : Option Turn → List Said → Type 0 where
    at-over : Matches None []
    at-step : {e m : ℕ} {t : Turn} {r : Rest Report} → Stands e m t r → Matches (Some t) (telling c e r)

  -- one turn tells the first of it, and leaves the others
  record Told-on (t : Turn) (l : List Said) : Type 0 where
    others : List Said
    first : l ≡ said_of t ∷ others
    matches : Matches (answered_of c t) others

  reported-by : (b : Search) (r : Rest Report) → meant b ≡ r → iterations_in (report b) ≡ iterations_in (reported r)
  reported-by b r e = ap iterations_in (sym (reports b.setup b.stage) ∙ ap reported e)

  module _ (e m : ℕ) (t : Turn) where
    module _ (k : Report) (x : Float) (then : Float → Float → Rest Report) (at : Stands e (suc m) t (ask k x then))
        (more : (f g : Float) → EndsWithin answer_finite m (then f g)) where
      abbrev f : Float
      f = value_of c x

      abbrev g : Float
      g = slope_of c x

      abbrev t' : Turn
      t' = answer_of t.search f g

      is-run : meant t.search ≡ ask k x then
      unfolding once_told
      is-run = at.leaves

      asked : t.outcome ≡ Ask x
      unfolding shown
      asked = told-determined t.outcome (Ask x) at.tells

      still-fits : Fits t.search.setup
      still-fits = subst Fits (sym at.same-setup) fits

      abbrev e' : ℕ
      e' = e + cond (answer_finite f g) 1 0

      responds : respond (meant t.search) f g ≡ then f g
      unfolding respond
      responds = rw is-run

      stands-next : Stands e' m t' (then f g)
      stands-next =
          let z = follows t.search still-fits.limit still-fits.level f g t' refl in
          let h = at.few in
          let n = at.counts in
          let counted = counts-on t.search f g t.search.stage k x then is-run (omega arith) in
          record {
            same-setup = setup-kept t.search f g t.search.stage ∙ at.same-setup;
            tells = z.tells ∙ ap shown responds;
            leaves = z.leaves ∙ ap once_told responds;
            counts = counted ∙ ap (λ (i : ℕ). i + cond (answer_finite f g) 1 0) n;
            within = more f g;
            few = by_cases (λ i. e + i + m < 4294967295) (answer_finite f g) (λ b. omega arith) (λ b. omega arith);
          }

      goes_on : answered_of c t ≡ Some t'
      unfolding answered_by
      goes_on = rw asked

      says_so : record { told = asks x; evaluations = e; iterations = iterations_in k } ≡ said_of t
      unfolding reported
      says_so = rw (asked, at.counts, reported-by t.search (ask k x then) is-run)

      asks-turn : Told-on t (telling c e (ask k x then))
      unfolding telling
      asks-turn = record {
        others = telling c e' (then f g);
        first = ap (λ (a : Said). a ∷ telling c e' (then f g)) says_so;
        matches = subst (λ (p : Option Turn). Matches p (telling c e' (then f g))) (sym goes_on) (at-step stands-next);
      }

    module _ (o : Ended Report) (at : Stands e m t (end o)) where
      stops_at : (q : Outcome) → told q ≡ ends (numbered o.by) → answered_by c t.search q ≡ None
      unfolding answered_by
      stops_at (Ask x) h = absurd (asks-not-ends x (numbered o.by) (sym h))
      stops_at (Stop v x) h = refl
      stops_at (Limit x) h = refl
      stops_at (Refused n) h = refl

      is-told : told t.outcome ≡ ends (numbered o.by)
      unfolding shown
      is-told = at.tells

      keeps-report : iterations_in (report t.search) ≡ iterations_in o.keeps
      unfolding once_told reported
      keeps-report = reported-by t.search (once_told (end o)) at.leaves

      ends_so : record { told = ends (numbered o.by); evaluations = e; iterations = iterations_in o.keeps }
          ≡ said_of t
      ends_so = rw (is-told, at.counts, keeps-report)

      end-turn : Told-on t (telling c e (end o))
      unfolding telling
      end-turn = record {
        others = [];
        first = ap (λ (a : Said). a ∷ []) ends_so;
        matches = subst (λ (p : Option Turn). Matches p []) (sym (stops_at t.outcome is-told)) at-over;
      }

  turn : (e m : ℕ) (t : Turn) (r : Rest Report) → EndsWithin answer_finite m r → Stands e m t r
      → Told-on t (telling c e r)
  turn e m t (end o) w at = end-turn e m t o at
  turn e (suc m) t (ask k x then) (at-ask only more) at = asks-turn e m t k x then at more
  turn e zero t (ask k x then) held at = elim held [ ]

  turn-of : (t : Turn) (l : List Said) → Matches (Some t) l → Told-on t l
  turn-of t l (at-step {e} {m} {r = r} at) = turn e m t r at.within at

  -- n turns tell the first n outcomes at most, and leave the others
  pub record Goes (n : ℕ) (p : Option Turn) (l : List Said) : Type 0 where
    pub others : List Said
    pub split : l ≡ said_in n c p ++ others
    pub matches : Matches (left_after n c p) others

  pub plays : (n : ℕ) (p : Option Turn) (l : List Said) → Matches p l → Goes n p l
  unfolding said_in left_after
  plays zero p l h = record { others = l; split = refl; matches = h }
  plays (suc n) None [] at-over = record { others = []; split = refl; matches = at-over }
  plays (suc n) None (_ ∷ _) h = elim h [ ]
  plays (suc n) (Some t) l h =
      let z = turn-of t l h in
      let more = plays n (answered_of c t) z.others z.matches in
      record {
        others = more.others;
        split = z.first ∙ ap (λ (a : List Said). said_of t ∷ a) more.split;
        matches = more.matches;
      }

  nothing_left : (l : List Said) → Matches None l → l ≡ []
  nothing_left [] at-over = refl
  nothing_left (_ ∷ _) held = elim held [ ]

  -- it is over after as many turns as there is to tell
  pub over-in-time : (n : ℕ) (p : Option Turn) (l : List Said) → Matches p l → length l ≤ n → left_after n c p ≡ None
  unfolding left_after
  over-in-time zero None [] at-over h = refl
  over-in-time zero None (_ ∷ _) m h = elim m [ ]
  over-in-time zero (Some t) l m h =
      let z = turn-of t l m in
      let k : length l ≡ suc (length z.others) = ap length z.first in
      absurd (omega arith)
  over-in-time (suc n) None [] at-over h = refl
  over-in-time (suc n) None (_ ∷ _) m h = elim m [ ]
  over-in-time (suc n) (Some t) l m h =
      let z = turn-of t l m in
      let k : length l ≡ suc (length z.others) = ap length z.first in
      over-in-time n (answered_of c t) z.others z.matches (omega arith)

  -- chunk after chunk: once the play is over, they are the whole text
  pub chunks-told : (n k : ℕ) (p : Option Turn) (l : List Said) → Matches p l → left_after_chunks c n k p ≡ None
      → chunks c n k p ≡ text_of l
  unfolding chunks left_after_chunks
  chunks-told n zero p l h e = sym (ap text_of (nothing_left l (rw e at h)) ∙ no_text)
  chunks-told n (suc k) p l h e =
      let g = plays n p l h in
      ap (λ (t : List ℕ). text_of (said_in n c p) ++ t) (chunks-told n k (left_after n c p) g.others g.matches e)
      ∙ sym (ap text_of g.split ∙ text-append (said_in n c p) g.others)
