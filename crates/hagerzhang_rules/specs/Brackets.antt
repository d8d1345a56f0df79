-- Demand 3's words of a bracket: its premise, as a decision; the order of its ends; and where it lies.
use Rattle.std.specs.Prelude.{◌≡◌, Bool, true, ◌&&◌, Float}
use Rattle.floats.specs.Arithmetic.{◌<ᶠ◌, ◌≤ᶠ◌, ◌≥ᶠ◌, 0ᶠ}
use Rattle.hagerzhang_rules.specs.declared.Point.{Point}
use Rattle.hagerzhang_rules.specs.declared.Bracket.{Bracket}

-- "low slope < 0, low cost <= L (initial cost + epsilon_k, as computed) and high slope >= 0", of the ends a and b
abbrev pub premise : Float → Point → Point → Bool
premise L a b = a.g <ᶠ 0ᶠ && a.f ≤ᶠ L && b.g ≥ᶠ 0ᶠ

-- "low step < high step"
abbrev pub Ordered : Bracket → Type 0
Ordered w = w.a.x <ᶠ w.b.x ≡ true

-- from lo to hi, both included: its low step is lo or more, and its high step is hi or less. With `Ordered` both lie
-- between
pub record Lies (lo hi : Float) (u : Bracket) : Type 0 where
  pub low-within : lo ≤ᶠ u.a.x ≡ true
  pub high-within : u.b.x ≤ᶠ hi ≡ true

-- "it lies within the former bracket": u within w
abbrev pub Within : Bracket → Bracket → Type 0
Within w u = Lies w.a.x w.b.x u
