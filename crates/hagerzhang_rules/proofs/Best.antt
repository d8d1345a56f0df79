-- Best is one of the three points: for finite costs one of 01's three tests holds, so what stood there before never
-- shows (`best-is-one`). From the order of finite floats. Assumes nothing.
use mathlib.Core.Path.{◌≡◌, refl}
use mathlib.Core.Logic.{◌⊎◌, inl, inr}
use mathlib.Core.Bool.{Bool, true, false, cond, false≢true}
use lib.Ieee.Scale.{finite}
use Rattle.floats.specs.Arithmetic.{◌≤ᶠ◌}
use Rattle.floats.proofs.Branches.{both}
use Rattle.floats.proofs.Order.{finite→real, le_total, le_trans}
use Rattle.hagerzhang_rules.specs.declared.Point.{Point}
use Rattle.hagerzhang_rules.specs.Rules.{lowest, best_over}

one-lowest : (a b c : Point) → finite a.f ≡ true → finite b.f ≡ true → finite c.f ≡ true
    → (lowest c a b ≡ true) ⊎ ((lowest b a c ≡ true) ⊎ (lowest a b c ≡ true))
one-lowest a b c p q r =
    elim (le_total a.f b.f (finite→real a.f p) (finite→real b.f q)) [
      | inl ab ↦ elim (le_total a.f c.f (finite→real a.f p) (finite→real c.f r)) [
        | inl ac ↦ inr (inr (both (a.f ≤ᶠ b.f) (a.f ≤ᶠ c.f) ab ac))
        | inr ca ↦ inl (both (c.f ≤ᶠ a.f) (c.f ≤ᶠ b.f) ca (le_trans c.f a.f b.f ca ab))
      ]
      | inr ba ↦ elim (le_total b.f c.f (finite→real b.f q) (finite→real c.f r)) [
        | inl bc ↦ inr (inl (both (b.f ≤ᶠ a.f) (b.f ≤ᶠ c.f) ba bc))
        | inr cb ↦ inl (both (c.f ≤ᶠ a.f) (c.f ≤ᶠ b.f) (le_trans c.f b.f a.f cb ba) cb)
      ]
    ]

same-pick : (x y z : Bool) (old new a b c : Point) → (x ≡ true) ⊎ ((y ≡ true) ⊎ (z ≡ true))
    → cond x c (cond y b (cond z a old)) ≡ cond x c (cond y b (cond z a new))
same-pick true y z old new a b c h = refl
same-pick false true z old new a b c h = refl
same-pick false false true old new a b c h = refl
same-pick false false false old new a b c h =
    absurd (elim h [ inl e ↦ false≢true e | inr k ↦ elim k [ inl e ↦ false≢true e | inr e ↦ false≢true e ] ])

-- for finite costs the best does not depend on what was taken before
pub best-is-one : (old new a b c : Point) → finite a.f ≡ true → finite b.f ≡ true → finite c.f ≡ true
    → best_over old a b c ≡ best_over new a b c
unfolding best_over
best-is-one old new a b c p q r =
    same-pick (lowest c a b) (lowest b a c) (lowest a b c) old new a b c (one-lowest a b c p q r)
