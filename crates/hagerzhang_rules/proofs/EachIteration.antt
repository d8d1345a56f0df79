-- Demand 3 and the refusals over the iterations of a search, said of each one that is finished, each report, each step
-- that is asked and each ending (`rounds-stand`): by one pass through the flow of the rules. Assumes nothing.
use mathlib.Core.Path.{◌≡◌, refl}
use mathlib.Core.Bool.{true, ◌&&◌}
use mathlib.Core.List.{List, [], ◌∷◌}
use mathlib.Core.Logic.{inl}
use Rattle.std.specs.Prelude.{Option, None, Some}
use Prim.Native.Nat.{ℕ, zero, suc, ◌+◌, ◌*◌, ◌≤◌, ◌<◌}
use native.Mathlib.Omega.{arith}
use lib.ListN.{length}
use lib.Ieee.{Float}
use lib.Ieee.Scale.{finite}
use Rattle.floats.specs.Arithmetic.{◌≤ᶠ◌, 0ᶠ}
use Rattle.floats.proofs.Order.{le_trans}
use Rattle.floats.proofs.Branches.{by_cases, both, and_first, and_second}
use Rattle.runs.specs.Asking.{Rest, keeping, reported}
use Rattle.runs.specs.declared.Verdict.{Verdict}
use Rattle.hagerzhang_rules.specs.declared.Point.{Point}
use Rattle.hagerzhang_rules.specs.declared.Bracket.{Bracket}
use Rattle.hagerzhang_rules.specs.declared.Setup.{Setup}
use Rattle.hagerzhang_rules.specs.declared.Came.{Came}
use Rattle.hagerzhang_rules.specs.declared.Came.TheVariants.{To}
use Rattle.hagerzhang_rules.specs.Rules.{point, bracket, update_of, secant_of, S4, L2, lowest, best_over, best_of}
use Rattle.hagerzhang_rules.specs.Rules.{judge_of, trial, updating, update, further, after_s4, iteration}
use Rattle.hagerzhang_rules.specs.Rules.{iteration_by, Summary, Report, last, report_of, decided, verdict, rounds}
use Rattle.hagerzhang_rules.specs.Rules.{rounds_by}
use Rattle.hagerzhang_rules.specs.Brackets.{Ordered}
use Rattle.hagerzhang_rules.specs.HowFast.{steps_finite}
use Rattle.hagerzhang_rules.specs.Iterations as words
use Rattle.hagerzhang_rules.specs.Iterations.{Alone, Iterated, leaves, alone, Plays, not_yet, there, standing}
use Rattle.hagerzhang_rules.specs.Iterations.{had, point_finite}
use Rattle.hagerzhang_rules.proofs.Iterations.{Ready, Fine, Stands, ended, Arrives, finishes, none-asked}
use Rattle.hagerzhang_rules.proofs.StaysBracket.{Frame, Sound, SoundUpdate, reaches, on-bracket}
use Rattle.hagerzhang_rules.proofs.StaysBracket.{sound-within, sound-stays, sound-self, updated-sound, x-finite}
use Rattle.hagerzhang_rules.proofs.HowFast.{fate, closes, widths, Placed, exactly}
use Rattle.hagerzhang_rules.proofs.Within.{Comes, Goes, one-more-asked, one-more-had, ends, asks, narrows}

-- ---- one iteration, where p is reported and N allows one more
module _ (s : Setup) (f_l : finite s.level ≡ true) (p : Summary) (fine : Fine s (last p))
    (below : p.iterations < s.options.limit) where
  abbrev B : ℕ
  B = s.options.budget

  abbrev L : Float
  L = s.level

  abbrev w : Bracket
  w = p.bracket

  abbrev k : Report
  k = last p

  abbrev F : Frame
  F = on-bracket L w

  abbrev On-p : List Point → Rest Report → Type 0
  On-p = Arrives s k

  abbrev Alone-on : List Point → Alone Iterated → Type 0
  Alone-on = Plays (alone s k w)

  abbrev Reaches : List Point → Bracket → Alone Iterated → Type 0
  Reaches = Comes s k (alone s k w) F

  abbrev Continues : ℕ → (Bracket → Rest Report) → (Bracket → Alone Iterated) → Type 0
  Continues = Goes s k (alone s k w) F

  tries : (asked : List Point) (u : Bracket) (x : Float) (then : Point → Rest Report) (then' : Point → Alone Iterated)
      → length asked < 3 + 3 * B → Reaches asked u (trial s inl k x then')
      → ((f g : Float) → point_finite (point x f g) ≡ true → Alone-on (point x f g ∷ asked) (then' (point x f g))
      → On-p (point x f g ∷ asked) (then (point x f g)))
      → On-p asked (trial s (keeping k) k x then)
  unfolding trial
  tries asked u x then then' room at go =
      by_cases (On-p asked) (finite x)
      (λ e.
      let there = rw e at at.there in
      asks s k fine below (alone s k w) F asked x then then' room (words.as-trial at.stands there e) there (λ f g e'.
      go f g (rw e e')))
      (λ e. ends s k fine below (alone s k w) F (omega arith)
      (words.trial-not-finite at.stands (rw e at at.there) e))

  -- an update with c, just asked, of the bracket that was reached
  updates-by : (asked : List Point) (o : Option Came) (then : Bracket → Rest Report) (then' : Bracket → Alone Iterated)
      → length asked + B ≤ 3 + 3 * B → standing s k asked ≡ o → had s k asked ≡ 0
      → Alone-on asked (updating s inl k o then') → SoundUpdate L F asked o → Continues (length asked + B) then then'
      → On-p asked (updating s (keeping k) k o then)
  unfolding updating
  updates-by asked (Some came) then then' room stands none-had at (reaches i) go =
      narrows s k fine below (alone s k w) F B asked came then then' room stands (omega arith) at i go
  updates-by asked None then then' room stands none-had at sound go = elim sound [ ]

  updates : (asked : List Point) (u : Bracket) (c : Point) (then : Bracket → Rest Report)
      (then' : Bracket → Alone Iterated)
      → length asked + suc B ≤ 3 + 3 * B → standing s k asked ≡ Some (To u) → Sound L F asked u → point_finite c ≡ true
      → Alone-on (c ∷ asked) (update s inl k u c then') → Continues (length asked + suc B) then then'
      → On-p (c ∷ asked) (update s (keeping k) k u c then)
  updates asked u c then then' room stands i fc at go =
      updates-by (c ∷ asked) (update_of L u c) then then' (omega arith) (one-more-asked s k asked c stands)
      (one-more-had s k asked c stands) at (updated-sound L F asked u c i f_l fc)
      (λ more v few. go more v (omega arith))

  -- a further trial, if there is one, and its update of u
  goes_further : (asked : List Point) (e : Option Float) (u : Bracket) (then : Bracket → Rest Report)
      (then' : Bracket → Alone Iterated)
      → length asked + suc B ≤ 3 + 3 * B → Reaches asked u (further s inl k e u then')
      → Continues (length asked + suc B) then then' → On-p asked (further s (keeping k) k e u then)
  unfolding further
  goes_further asked None u then then' room at go = go asked u (omega arith) at
  goes_further asked (Some x) u then then' room at go =
      tries asked u x (λ c. update s (keeping k) k u c then) (λ c. update s inl k u c then') (omega arith) at
      (λ f g fc at'. updates asked u (point x f g) then then' room at.stands at.sound fc at' go)

  -- behind the bracket z just before L2, which is sound too
  iterates : (then : Bracket → Bracket → Rest Report)
      → ((before : List Point) (z : Bracket) → Sound L F before z → Continues (3 + 3 * B) (then z) (leaves z))
      → On-p [] (iteration s (keeping k) k w then)
  unfolding iteration_by after_s4 standing
  iterates then go =
      let ends-fine = and_first (point_finite w.a && point_finite w.b) (point_finite p.best) fine.numbers in
      let fa = and_first (point_finite w.a) (point_finite w.b) ends-fine in
      let fb = and_second (point_finite w.a) (point_finite w.b) ends-fine in
      let i = sound-self L w fa fb fine.in_order in
      let L2' : Bracket → Alone Iterated =
      λ z. further s inl k (L2 s.options.params.gamma w z) z (leaves z) in
      let S4' : Point → Bracket → Alone Iterated = λ c u. further s inl k (S4 w c.x u) u L2' in
      tries [] w (secant_of w.a w.b) _ (λ c. update s inl k w c (S4' c)) (omega arith)
      (record { stands = refl; sound = i; there = not_yet }) (λ f g fc at.
      let c = point (secant_of w.a w.b) f g in
      updates [] w c _ (S4' c) (omega arith) refl i fc at
      (λ h1 u l1 at1. goes_further h1 (S4 w c.x u) u _ L2' (omega arith) at1
      (λ h2 z l2 at2.
      goes_further h2 (L2 s.options.params.gamma w z) z (then z) (leaves z) (omega arith) at2
      (λ h3 v l3. go h2 z at2.sound h3 v (omega arith)))))

-- ---- where a bracket that is reported stands, and one that is reached
ends-finite : (a b : Point) → point_finite a ≡ true → point_finite b ≡ true → steps_finite (bracket a b) ≡ true
ends-finite a b fa fb = both (finite a.x) (finite b.x) (x-finite a fa) (x-finite b fb)

report-placed : {s : Setup} {p : Summary} → Fine s (last p) → Placed p.bracket
report-placed {s} {p} fine =
    let a = p.bracket.a in
    let b = p.bracket.b in
    let ends-fine = and_first (point_finite a && point_finite b) (point_finite p.best) fine.numbers in
    record {
      steps =
          ends-finite a b (and_first (point_finite a) (point_finite b) ends-fine)
          (and_second (point_finite a) (point_finite b) ends-fine);
      from_zero = fine.from_zero;
      in_order = fine.in_order;
    }

sound-placed : {L : Float} {w : Bracket} {asked : List Point} {u : Bracket} → Placed w
    → Sound L (on-bracket L w) asked u → Placed u
sound-placed {L} {w} {asked} {u} at m = record {
  steps = ends-finite u.a u.b m.low.numbers m.high.numbers;
  from_zero = le_trans 0ᶠ w.a.x u.a.x at.from_zero m.low.lies;
  in_order = m.in_order;
}

-- ---- the iterations: what each one that is finished leaves
module _ (s : Setup) where
  decided-reports : (k : Report) (x : Float) (go : Rest Report) (j : Option Verdict) → reported go ≡ k
      → reported (decided k x go j) ≡ k
  unfolding decided reported
  decided-reports k x go (Some v) e = refl
  decided-reports k x go None e = e

  pub rounds-report : (n : ℕ) (w : Bracket) (c : Point) (i : ℕ) → reported (rounds s n w c i) ≡ report_of s w c i
  unfolding rounds_by verdict iteration_by trial reported
  rounds-report zero w c i = decided-reports (report_of s w c i) _ _ (judge_of s (best_of w.a w.b c)) refl
  rounds-report (suc n) w c i =
      decided-reports (report_of s w c i) _ _ (judge_of s (best_of w.a w.b c))
      (by_cases (λ r. reported r ≡ report_of s w c i) (finite (secant_of w.a w.b)) (λ e. refl) (λ e. refl))

  decided-stands : (p : Summary) (go : Rest Report) (j : Option Verdict) → Fine s (last p) → judge_of s p.best ≡ j
      → (j ≡ None → Stands s [] go) → Stands s [] (decided (last p) p.best.x go j)
  unfolding decided
  decided-stands p go (Some v) fine e next = ended {asked = []} fine (omega arith) (words.by-verdict e)
  decided-stands p go None fine e next = next refl

  best-finite : (a b c : Point) → point_finite a ≡ true → point_finite b ≡ true → point_finite c ≡ true
      → point_finite (best_of a b c) ≡ true
  unfolding best_over
  best-finite a b c fa fb fc =
      let Q : Point → Type 0 = λ p. point_finite p ≡ true in
      by_cases Q (lowest c a b) (λ e. fc)
      (λ e. by_cases Q (lowest b a c) (λ e. fb) (λ e. by_cases Q (lowest a b c) (λ e. fa) (λ e. fa)))

  pub fine-report : (w : Bracket) (c : Point) (i : ℕ) → point_finite w.a ≡ true → point_finite w.b ≡ true
      → point_finite c ≡ true → Ordered w → 0ᶠ ≤ᶠ w.a.x ≡ true → i ≤ s.options.limit → Fine s (report_of s w c i)
  fine-report w c i fa fb fc o from few = record {
    numbers = let best = best-finite w.a w.b c fa fb fc in rw (fa, fb) best;
    in_order = o;
    from_zero = from;
    counted = few;
  }

  pub rounds-stand : Ready s → (n : ℕ) (w : Bracket) (c : Point) (i : ℕ) → n + i ≡ s.options.limit
      → Fine s (report_of s w c i) → point_finite c ≡ true → Stands s [] (rounds s n w c i)
  unfolding rounds_by verdict
  rounds-stand ready zero w c i total fine fc =
      decided-stands (record { bracket = w; best = best_of w.a w.b c; iterations = i }) _
      (judge_of s (best_of w.a w.b c)) fine refl
      (λ fails. ended {asked = []} fine (omega arith) (words.by-limit fails (omega arith)))
  rounds-stand ready (suc n) w c i total fine fc =
      let p : Summary = record { bracket = w; best = best_of w.a w.b c; iterations = i } in
      decided-stands p _ (judge_of s p.best) fine refl (λ fails.
      none-asked (iterates s ready.level-finite p fine (omega arith) _ (λ before z at-L2 asked v few at.
      let m = at.sound in
      let pw = report-placed fine in
      let pz = sound-placed pw at-L2 in
      let pv = sound-placed pw m in
      let by_tests = fate s (last p) w at.there in
      let closing = closes ready.gamma-fit pw.steps pz.steps by_tests in
      finishes (rounds-report n v c (i + 1)) refl
      (record {
        before-L2 = z;
        whole = at.there;
        stays = sound-stays m;
        ordered = m.in_order;
        narrows = sound-within m;
        low-from = m.low.from;
        high-from = m.high.from;
        few = few;
        before-narrows = sound-within at-L2;
        before-ordered = pz.in_order;
        before-from-zero = pz.from_zero;
        closes = closing;
        widths = widths pw.steps pz.steps pv.steps (sound-within m) closing;
        exactly = λ fa fz. exactly pz pv fa fz pw (sound-within at-L2) by_tests;
      })
      (rounds-stand ready n v c (i + 1) (omega arith)
      (fine-report v c (i + 1) m.low.numbers m.high.numbers fc pv.in_order pv.from_zero (omega arith))
      fc))))
