-- What goes on within the start or one iteration: a question and its answer, and a U3 run, which is shown once for both
-- (`narrows`). Assumes nothing.
use mathlib.Core.Path.{◌≡◌, refl, ap}
use mathlib.Core.Bool.{true, cond}
use mathlib.Core.List.{List, ◌∷◌}
use mathlib.Core.Logic.{inl}
use Rattle.std.specs.Prelude.{Option, Some}
use Prim.Native.Nat.{ℕ, zero, suc, ◌+◌, ◌≤◌, ◌<◌}
use native.Mathlib.Omega.{arith}
use lib.ListN.{length}
use lib.Ieee.{Float}
use lib.Ieee.Scale.{finite}
use Rattle.floats.specs.Arithmetic.{◌<ᶠ◌}
use Rattle.floats.proofs.Branches.{by_cases, and_first, and_second}
use Rattle.runs.specs.Outcomes.{Ending, Why, refusal, answer_not_finite}
use Rattle.runs.specs.Asking.{Rest, end_with, keeping, reported}
use Rattle.hagerzhang_rules.specs.declared.Point.{Point}
use Rattle.hagerzhang_rules.specs.declared.Bracket.{Bracket}
use Rattle.hagerzhang_rules.specs.declared.Setup.{Setup}
use Rattle.hagerzhang_rules.specs.declared.Came.{Came}
use Rattle.hagerzhang_rules.specs.declared.Came.TheVariants.{To, On}
use Rattle.hagerzhang_rules.specs.Rules.{point, answer_finite, middle_of, is_between, narrowed_of, asking, between}
use Rattle.hagerzhang_rules.specs.Rules.{U3, Report}
use Rattle.hagerzhang_rules.specs.Iterations as words
use Rattle.hagerzhang_rules.specs.Iterations.{Alone, Plays, then-asked, here, there, earlier_of, led, standing}
use Rattle.hagerzhang_rules.specs.Iterations.{had, had_by, InU3, AskedBecause, EndedBecause, inside}
use Rattle.hagerzhang_rules.proofs.Iterations.{Fine, most_at, Allowed, Asks, awaiting, ended, Arrives, stays}
use Rattle.hagerzhang_rules.proofs.StaysBracket.{Frame, Sound, SoundCame, is-to, is-on, narrowed-sound}

-- ---- a question: an answer that is not finite is refused, and the last
asking-arrives : {s : Setup} {k : Report} (asked : List Point) (x : Float) (then : Point → Rest Report) → Fine s k
    → Asks s asked x k
    → ((f g : Float) → answer_finite f g ≡ true → Arrives s k (point x f g ∷ asked) (then (point x f g)))
    → Arrives s k asked (asking s (keeping k) k x then)
unfolding reported
asking-arrives {s} {k} asked x then fine asks go =
    let room = asks.room in
    let next : (f g : Float) → Arrives s k (point x f g ∷ asked)
    (cond (answer_finite f g) (then (point x f g)) (end_with k (refusal (answer_not_finite f g)))) =
    λ f g. by_cases (Arrives s k (point x f g ∷ asked)) (answer_finite f g) (go f g)
    (λ e. stays refl (ended fine (omega arith) (words.not_finite {d = point x f g} e))) in
    stays refl (awaiting fine asks (λ f g u. rw u) (λ f g. (next f g).brings) (λ f g. (next f g).stands))

-- ---- within the start or one iteration, where k is reported: `whole` is it by itself, and F says what is allowed and
-- owed of its ends
module _ {R : Type 0} (s : Setup) (k : Report) (whole : Alone R) (F : Frame) where
  -- it has come to the bracket u, and goes on by itself as r
  pub record Comes (asked : List Point) (u : Bracket) (r : Alone R) : Type 0 where
    pub stands : standing s k asked ≡ Some (To u)
    pub sound : Sound s.level F asked u
    pub there : Plays whole asked r

  -- so does the search with `then`, from whatever bracket it comes to after at most m answers
  abbrev pub Goes : ℕ → (Bracket → Rest Report) → (Bracket → Alone R) → Type 0
  Goes m then then' =
      (asked : List Point) (u : Bracket) → length asked ≤ m → Comes asked u (then' u) → Arrives s k asked (then u)

module _ (s : Setup) (k : Report) where
  pub one-more-asked : (asked : List Point) (d : Point) {o : Option Came} → standing s k asked ≡ o
      → standing s k (d ∷ asked) ≡ led s o k (earlier_of s asked) d
  unfolding standing
  one-more-asked asked d e = ap (λ (o : Option Came). led s o k (earlier_of s asked) d) e

  pub one-more-had : (asked : List Point) (d : Point) {o : Option Came} → standing s k asked ≡ o
      → had s k (d ∷ asked) ≡ had_by o (had s k asked)
  unfolding had
  one-more-had asked d e = ap (λ (o : Option Came). had_by o (had s k asked)) e

module _ {R : Type 0} (s : Setup) (k : Report) (fine : Fine s k) (allowed : Allowed s k) (whole : Alone R)
    (F : Frame) where
  abbrev pub Here : List Point → Rest Report → Type 0
  Here = Arrives s k

  -- the start or the iteration by itself is there too
  abbrev pub There : List Point → Alone R → Type 0
  There = Plays whole

  pub ends : {asked : List Point} {e : Ending Why} → length asked ≤ most_at s k → EndedBecause s k asked e
      → Here asked (end_with k e)
  unfolding reported
  ends few why = stays refl (ended fine few why)

  pub asks : (asked : List Point) (x : Float) (then : Point → Rest Report) (then' : Point → Alone R)
      → length asked < most_at s k → AskedBecause s k asked x → There asked (asking s inl k x then')
      → ((f g : Float) → answer_finite f g ≡ true → There (point x f g ∷ asked) (then' (point x f g))
      → Here (point x f g ∷ asked) (then (point x f g)))
      → Here asked (asking s (keeping k) k x then)
  asks asked x then then' room why at go =
      asking-arrives asked x then fine (record { room = room; allowed = allowed; why = why }) (λ f g e.
      go f g e (rw e at (then-asked at f g)))

  pub narrows : (m : ℕ) (asked : List Point) (came : Came) (then : Bracket → Rest Report) (then' : Bracket → Alone R)
      → length asked + m ≤ most_at s k → standing s k asked ≡ Some came → had s k asked + m ≡ s.options.budget
      → There asked (U3 s inl k m came then') → SoundCame s.level F asked came
      → Goes s k whole F (length asked + m) then then' → Here asked (U3 s (keeping k) k m came then)
  unfolding U3 between
  narrows zero asked (To v) then then' room stands left at (is-to i) go =
      go asked v (omega arith) (record { stands = stands; sound = i; there = at })
  narrows zero asked (On h k') then then' room stands left at (is-on i j) go =
      ends (omega arith) (words.budget-spent stands (omega arith))
  narrows (suc m) asked (To v) then then' room stands left at (is-to i) go =
      go asked v (omega arith) (record { stands = stands; sound = i; there = at })
  narrows (suc m) asked (On h k') then then' room stands left at (is-on i j) go =
      let L = s.level in
      let x = middle_of s.options.params.theta h k' in
      let here : InU3 s k asked h k' x = record { stands = stands; answered = omega arith; steps-to = refl } in
      by_cases (Here asked) (finite x)
      (λ fx. by_cases (Here asked) (is_between h k' x)
      (λ strictly. asks asked x (λ d. U3 s (keeping k) k m (narrowed_of L h k' d) then)
      (λ d. U3 s inl k m (narrowed_of L h k' d) then') (omega arith) (inside here fx strictly) (rw (fx, strictly) at at)
      (λ f g e at'.
      let d = point x f g in
      let more-had = one-more-had s k asked d stands in
      narrows m (d ∷ asked) (narrowed_of L h k' d) then then' (omega arith) (one-more-asked s k asked d stands)
      (omega arith) at'
      (narrowed-sound L F asked h k' d i j (and_first (h.x <ᶠ x) (x <ᶠ k') strictly)
      (and_second (h.x <ᶠ x) (x <ᶠ k') strictly) (rw fx e))
      (λ more v few. go more v (omega arith))))
      (λ e. ends (omega arith) (words.not-between here fx e)))
      (λ e. ends (omega arith) (words.U3-not-finite here e))
