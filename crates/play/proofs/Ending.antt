-- A play ends: each turn of it leaves less to tell (`less-to-tell`), and leaves a play that ends likewise (`plays-on`).
-- This is what a loop over a play rests on. Assumes nothing.
use mathlib.Core.Path.{◌≡◌, refl, sym, ap, ◌∙◌}
use mathlib.Core.Bool.{cond}
use mathlib.Core.List.{List, [], ◌∷◌}
use Prim.Native.Nat.{ℕ, zero, suc, ◌+◌, ◌<◌}
use native.Mathlib.Omega.{arith}
use lib.ListN.{length, length-append}
use Rattle.std.specs.Prelude.{Option, Some, None}
use Rattle.refusals.specs.Results.{value}
use Rattle.runs.specs.Asking.{Rest, ask, end, once_told}
use Rattle.hagerzhang_rules.specs.declared.Setup.{Setup}
use Rattle.hagerzhang_rules.specs.Rules.{Report, answer_finite}
use Rattle.curves.specs.declared.Curve.{Curve}
use Rattle.curves.specs.Curves.{value_of, slope_of}
use Rattle.hagerzhang.specs.Machine.{Turn}
use Rattle.hagerzhang.specs.Meaning.{meant}
use Rattle.jobs.specs.Opening.{setup_for, begin_of}
use Rattle.jobs.proofs.Begins.{begun}
use Rattle.play.specs.Telling.{Said, telling}
use Rattle.play.specs.Playing.{said_in, left_after}
use Rattle.play.proofs.ByRules.{Fits, Matches, at-over, at-step, plays}
use Rattle.play.proofs.Output.{begun-fits, begun-plays, told_by}

-- how many outcomes there are to tell
pub to_tell : Curve → Option Turn → ℕ
to_tell c None = 0
to_tell c (Some t) = length (telling c 0 (meant t.search))

-- a play that the rules match
pub record Playable (c : Curve) (p : Option Turn) : Type 0 where
  pub setup : Setup
  pub fits : Fits setup
  pub outcomes : List Said
  pub matches : Matches setup fits c p outcomes

-- the count does not depend on the evaluations before
same_count : (c : Curve) (e d : ℕ) (r : Rest Report) → length (telling c e r) ≡ length (telling c d r)
unfolding telling
same_count c e d (end o) = refl
same_count c e d (ask k x then) =
    let f = value_of c x in
    let g = slope_of c x in
    let more = cond (answer_finite f g) 1 0 in
    ap suc (same_count c (e + more) (d + more) (then f g))

rest-count : (c : Curve) (e : ℕ) (r : Rest Report) → length (telling c 0 (once_told r)) ≡ length (telling c e r)
rest-count c e (end o) = unfold once_told telling in refl
rest-count c e (ask k x then) = unfold once_told in same_count c 0 e (ask k x then)

counted : (s : Setup) (fits : Fits s) (c : Curve) (p : Option Turn) (l : List Said) → Matches s fits c p l
    → to_tell c p ≡ length l
unfolding to_tell
counted s fits c None [] at-over = refl
counted s fits c None (_ ∷ _) held = elim held [ ]
counted s fits c (Some t) l (at-step {e} {r = r} at) =
    ap (λ (q : Rest Report). length (telling c 0 q)) at.leaves ∙ rest-count c e r

says-one : (c : Curve) (n : ℕ) (t : Turn) → 0 < n → 0 < length (said_in n c (Some t))
unfolding said_in
says-one c zero t h = absurd (omega arith)
says-one c (suc n) t h = omega arith

-- from p, which goes on with t, n turns lead to q
module _ (c : Curve) (n : ℕ) (p q : Option Turn) (t : Turn) (m : Playable c p) (e : p ≡ Some t)
    (f : q ≡ left_after n c (Some t)) where
  leads : q ≡ left_after n c p
  leads = f ∙ ap (left_after n c) (sym e)

  pub plays-on : Playable c q
  plays-on =
      let g = plays m.setup m.fits c n p m.outcomes m.matches in
      rw leads (record { setup = m.setup; fits = m.fits; outcomes = g.others; matches = g.matches })

  pub less-to-tell : 0 < n → to_tell c q < to_tell c p
  less-to-tell h =
      let g = plays m.setup m.fits c n p m.outcomes m.matches in
      let before = counted m.setup m.fits c p m.outcomes m.matches in
      let after : to_tell c q ≡ length g.others =
      ap (to_tell c) leads ∙ counted m.setup m.fits c (left_after n c p) g.others g.matches in
      let split : length m.outcomes ≡ length (said_in n c p) + length g.others =
      ap length g.split ∙ length-append (said_in n c p) g.others in
      let some : 0 < length (said_in n c p) = rw e (says-one c n t h) in
      omega arith

-- what a job begins is such a play
pub begun-playable : (bytes : List ℕ) (c : Curve) (t : Turn) → begin_of bytes ≡ value (c, t) → Playable c (Some t)
begun-playable bytes c t h =
    let b = begun bytes c t h in
    record {
      setup = setup_for b.job;
      fits = begun-fits bytes c t b;
      outcomes = told_by bytes c t b;
      matches = begun-plays bytes c t b;
    }
