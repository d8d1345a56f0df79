-- 02, request 14's words: what a finished iteration guarantees, "in computed floats, with A and Z the bracket just
-- before L2". w is (a, b), the bracket before the iteration; u is (A, Z); v is the new bracket. `Whole` of
-- specs/Iterations.antt has them of a finished iteration, with u as what it had there. The claims are
-- specs/HowFast.antt, of the rules, and demands/specs/HowFast.antt, of every search that `start` gave.
use Rattle.std.specs.Prelude.{ℕ, ◌-◌, ◌*◌, ◌≤◌, ◌≡◌, Bool, true, false, ◌&&◌, ◌⊎◌, Float}
use Rattle.std.specs.Float.{binary64}
use Rattle.std.specs.Float.Ieee.{fits}
use Rattle.floats.specs.Arithmetic.{◌⊕◌, ◌⊖◌, ◌⊗◌, ◌⊘◌, ◌<ᶠ◌, ◌≤ᶠ◌, ◌>ᶠ◌, 2ᶠ}
use Rattle.floats.specs.Units.{units}
use Rattle.hagerzhang_rules.specs.declared.Bracket.{Bracket}
use Rattle.hagerzhang_rules.specs.Brackets.{Ordered, Lies}

-- "m being (A.x + Z.x)/2 as computed"
abbrev pub m : Bracket → Float
m u = (u.a.x ⊕ u.b.x) ⊘ 2ᶠ

-- "Z.x - A.x" and "b.x - a.x"
abbrev pub width : Bracket → Float
width u = u.b.x ⊖ u.a.x

-- the same exactly, with no rounding, of a bracket from 0 on: how many times the smallest float above 0, 2^-1074. Every
-- f64 is a whole number of them (`units`, floats/specs/Units.antt)
abbrev pub span : Bracket → ℕ
span u = units u.b.x - units u.a.x

-- ---- the two tests

-- Z.x - A.x > gamma*(b.x - a.x)
abbrev pub too_wide : Float → Bracket → Bracket → Bool
too_wide gamma w u = width u >ᶠ gamma ⊗ width w

-- "strictly inside": A.x < m < Z.x
abbrev pub m_inside : Bracket → Bool
m_inside u = u.a.x <ᶠ m u && m u <ᶠ u.b.x

module _ (gamma : Float) (w u v : Bracket) where
  -- ---- 02's three parts, a test each

  -- "Z.x - A.x <= gamma*(b.x - a.x) and (A, Z) is kept": bit for bit
  pub record Narrow : Type 0 where
    pub at-most-gamma : width u ≤ᶠ gamma ⊗ width w ≡ true
    pub kept : v ≡ u

  -- "the new bracket lies within A.x to m or within m to Z.x": both ends do, since they are in order
  pub record Halved : Type 0 where
    pub in_order : Ordered v
    pub in-one-part : Lies u.a.x (m u) v ⊎ Lies (m u) u.b.x v

  -- "m is not strictly inside and (A, Z) is kept"
  pub record Stuck : Type 0 where
    pub not-inside : m_inside u ≡ false
    pub kept : v ≡ u

  -- the tests decide which one is shown
  pub record Closes : Type 0 where
    pub narrow : too_wide gamma w u ≡ false → Narrow
    pub halved : too_wide gamma w u ≡ true → m_inside u ≡ true → Halved
    pub stuck : too_wide gamma w u ≡ true → m_inside u ≡ false → Stuck

  -- "either .. or .. or ..": it follows, and says less, since the parts overlap
  pub data EitherOr : Type 0 where
    is-narrow : Narrow → EitherOr
    is-halved : Halved → EitherOr
    is_stuck : Stuck → EitherOr

  -- ---- for tuning staff: the computed width after an iteration against the computed width before. The differences and
  -- the product with gamma are each rounded once, and m twice

  pub record Widths : Type 0 where
    -- the computed width never grows
    pub never-wider : width v ≤ᶠ width w ≡ true
    -- it is at most gamma times the former one, ..
    pub by-gamma : too_wide gamma w u ≡ false → width v ≤ᶠ gamma ⊗ width w ≡ true
    -- .. or at most one of the two parts of (A, Z), as computed
    pub by-half : too_wide gamma w u ≡ true → m_inside u ≡ true
        → (width v ≤ᶠ m u ⊖ u.a.x ≡ true) ⊎ (width v ≤ᶠ u.b.x ⊖ m u ≡ true)

  -- the same exactly: what is left of (A, Z), which is no wider than the former bracket
  pub record Exactly : Type 0 where
    pub before-L2 : span u ≤ span w
    pub never-wider : span v ≤ span u
    -- the rounding of m can make two thirds of a half, and no more
    pub two-thirds : too_wide gamma w u ≡ true → m_inside u ≡ true → 3 * span v ≤ 2 * span u
    -- where m is not strictly inside, no f64 is
    pub none_between : too_wide gamma w u ≡ true → m_inside u ≡ false → (x : Float) → fits binary64 x ≡ true
        → (u.a.x <ᶠ x && x <ᶠ u.b.x) ≡ false
