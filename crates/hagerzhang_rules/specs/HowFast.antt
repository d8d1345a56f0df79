-- 02, request 14, "How fast the bracket closes", over the rules: whatever the answers are, an iteration that they
-- finish closes the bracket so, at any finite steps and any gamma that is finite and above 0. Of every search that
-- `start` gave, with the widths: demands/specs/HowFast.antt. Sums: specs/HowFastSums.antt. Proved: `how-fast`
-- (proofs/HowFast.antt).
use Rattle.std.specs.Prelude.{ℕ, ◌*◌, ◌^◌, ◌≡◌, Bool, true, ◌&&◌, List, ℤ, Float}
use Rattle.std.specs.Float.{fin, binary64}
use Rattle.std.specs.Float.Ieee.{fits, up, down}
use Rattle.std.specs.Float.Ieee.Scale.{finite}
use Rattle.floats.specs.Arithmetic.{◌<ᶠ◌, 0ᶠ}
use Rattle.floats.specs.Units.{units}
use Rattle.hagerzhang_rules.specs.declared.Point.{Point}
use Rattle.hagerzhang_rules.specs.declared.Bracket.{Bracket}
use Rattle.hagerzhang_rules.specs.declared.Setup.{Setup}
use Rattle.hagerzhang_rules.specs.Rules.{Summary, Report, last}
use Rattle.hagerzhang_rules.specs.Closing.{Closes, EitherOr}
use Rattle.hagerzhang_rules.specs.Iterations.{leaves, alone, Plays, Whole}

abbrev pub steps_finite : Bracket → Bool
steps_finite w = finite w.a.x && finite w.b.x

-- every accepted start has such a gamma
abbrev pub gamma_fit : Float → Bool
gamma_fit gamma = finite gamma && 0ᶠ <ᶠ gamma

-- the answers lead the rules' iteration on w to u just before L2, and to v
abbrev pub Led : Setup → Report → Bracket → List Point → Bracket → Bracket → Type 0
Led s k w asked u v = Plays (alone s k w) asked (leaves u v)

pub record HowFast : Type 0 where
  -- no slope is asked for, nor the order of the ends. w's steps are finite in every search that `start` gave
  pub closes : (s : Setup) (k : Report) (w : Bracket) (asked : List Point) (u v : Bracket) → Led s k w asked u v
      → gamma_fit s.options.params.gamma ≡ true → steps_finite w ≡ true
      → Closes s.options.params.gamma w u v
  -- A and Z are not some brackets, but the ones that the iteration had
  pub one-before-L2 : (s : Setup) (k : Report) (w : Bracket) (asked : List Point) (u v u' v' : Bracket)
      → Led s k w asked u v → Led s k w asked u' v' → u ≡ u'
  -- and no f64 loses anything where it is counted in units: m * 2^e is m * up e / down e
  pub units-exact : (s : Bool) (m : ℕ) (e : ℤ) → fits binary64 (fin s m e) ≡ true
      → units (fin s m e) * down e ≡ m * up e * 2 ^ 1074

-- ---- of a finished iteration: what it leaves, as `Whole` has it; that no bracket but its (A, Z) stood before L2; and
-- 02's own sentence
pub record Guarantees (s : Setup) (p : Summary) (asked : List Point) (q : Summary) : Type 0 where
  pub leaves-so : Whole s p asked q
  pub no_other : (u v : Bracket) → Led s (last p) p.bracket asked u v → u ≡ leaves-so.before-L2
  pub either-or : EitherOr s.options.params.gamma p.bracket leaves-so.before-L2 q.bracket
