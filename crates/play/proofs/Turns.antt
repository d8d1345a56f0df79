-- One turn more, in what is said and in what is left. Assumes nothing.
use mathlib.Core.Path.{◌≡◌, refl, sym}
use mathlib.Core.List.{[], ◌∷◌}
use Prim.Native.Nat.{ℕ, zero, suc, ◌-◌, ◌<◌, ◌≤◌}
use native.Mathlib.Omega.{arith}
use Rattle.std.specs.Prelude.{Option, Some, None}
use Rattle.curves.specs.declared.Curve.{Curve}
use Rattle.hagerzhang.specs.Machine.{Turn}
use Rattle.text.specs.Text.{Page, write}
use Rattle.text.proofs.Writing.{nothing-page, then-page}
use Rattle.play.specs.Telling.{said_line, text_of}
use Rattle.play.specs.Playing.{said_of, answered_of, said_in, left_after}

module _ (c : Curve) where
  -- nothing follows the end
  silent : (n : ℕ) → said_in n c None ≡ []
  unfolding said_in
  silent zero = refl
  silent (suc n) = refl

  stays-over : (n : ℕ) → left_after n c None ≡ None
  unfolding left_after
  stays-over zero = refl
  stays-over (suc n) = refl

  none_said : (p : Option Turn) → said_in 0 c p ≡ []
  unfolding said_in
  none_said p = refl

  all_left : (p : Option Turn) → left_after 0 c p ≡ p
  unfolding left_after
  all_left p = refl

  said-first : (n : ℕ) (t : Turn) → 0 < n → said_in n c (Some t) ≡ said_of t ∷ said_in (n - 1) c (answered_of c t)
  unfolding said_in
  said-first zero t h = absurd (omega arith)
  said-first (suc n) t h = let e : suc n - 1 ≡ n = omega arith in rw e

  left-first : (n : ℕ) (t : Turn) → 0 < n → left_after n c (Some t) ≡ left_after (n - 1) c (answered_of c t)
  unfolding left_after
  left-first zero t h = absurd (omega arith)
  left-first (suc n) t h = let e : suc n - 1 ≡ n = omega arith in rw e

  -- ---- where a play stands: what is left of it, and the page with all that it will write
  abbrev pub ahead : ℕ → Option Turn → Page → Page
  ahead n p q = write q (text_of (said_in n c p))

  pub at-over : (n : ℕ) (p : Option Turn) (q : Page) → p ≡ None → (p ≡ left_after n c p) × (q ≡ ahead n p q)
  unfolding text_of
  at-over n p q e = (rw (e, stays-over n), rw (e, silent n) (nothing-page q))

  pub at_last : (n : ℕ) (p : Option Turn) (q : Page) → n ≤ 0 → (p ≡ left_after n c p) × (q ≡ ahead n p q)
  unfolding text_of
  at_last n p q h =
      let z : n ≡ 0 = omega arith in
      (rw z (sym (all_left p)), rw (z, none_said p) (nothing-page q))

  -- one turn, which writes a line
  pub turn-left : (n : ℕ) (p q : Option Turn) (t : Turn) → 0 < n → p ≡ Some t → q ≡ answered_of c t
      → left_after (n - 1) c q ≡ left_after n c p
  turn-left n p q t h e f = rw (e, f) (sym (left-first n t h))

  pub turn-ahead : (n : ℕ) (p q : Option Turn) (t : Turn) (a b : Page) → 0 < n → p ≡ Some t → q ≡ answered_of c t
      → b ≡ write a (said_line (said_of t)) → ahead (n - 1) q b ≡ ahead n p a
  unfolding text_of
  turn-ahead n p q t a b h e f w =
      rw (e, f, said-first n t h)
      (then-page a (said_line (said_of t)) (text_of (said_in (n - 1) c (answered_of c t))) w refl)
