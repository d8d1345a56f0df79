-- The cases of a report, of what an answer comes to, of the way of starting, of a list and of an option are apart.
-- Assumes nothing.
use mathlib.Core.Path.{◌≡◌}
use mathlib.Core.List.{List, [], ◌∷◌}
use Rattle.std.specs.Prelude.{Some, None}
use Prim.Native.Nat.{ℕ}
use native.Mathlib.Omega.{arith}
use lib.Ieee.{Float}
use Rattle.hagerzhang_rules.specs.declared.Point.{Point}
use Rattle.hagerzhang_rules.specs.declared.Bracket.{Bracket}
use Rattle.hagerzhang_rules.specs.declared.Bounds.{Bounds}
use Rattle.hagerzhang_rules.specs.declared.Way.TheVariants.{Bounded, Growing}
use Rattle.hagerzhang_rules.specs.declared.Came.TheVariants.{To, On}
use Rattle.hagerzhang_rules.specs.Rules.{Summary, nothing_yet, last}

pub none-not-last : (p : Summary) → nothing_yet ≡ last p → ⊥
none-not-last p e = let z : ◌≡◌ {A = ℕ} 0 1 = cc in omega arith

pub to-not-on : (u : Bracket) (h : Point) (k : Float) → Some (To u) ≡ Some (On h k) → ⊥
to-not-on u h k e = let z : ◌≡◌ {A = ℕ} 0 1 = cc in omega arith

pub not-both : (e : Bounds) (K : ℕ) → Bounded e ≡ Growing K → ⊥
not-both e K same = let z : ◌≡◌ {A = ℕ} 0 1 = cc in omega arith

pub cons-not-nil : {A : Type 0} {x : A} {xs : List A} → x ∷ xs ≡ [] → ⊥
cons-not-nil e = let z : ◌≡◌ {A = ℕ} 0 1 = cc in omega arith

pub none-not-some : {A : Type 0} {x : A} → None ≡ Some x → ⊥
none-not-some e = let z : ◌≡◌ {A = ℕ} 0 1 = cc in omega arith
