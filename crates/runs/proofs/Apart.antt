-- The cases of what is told, and of a run, are apart, and each says what it carries. Assumes nothing.
use mathlib.Core.Path.{◌≡◌, ap}
use mathlib.Core.Bool.{false≢true}
use Prim.Native.Nat.{ℕ}
use native.Mathlib.Omega.{arith}
use lib.Ieee.{Float}
use Rattle.runs.specs.Outcomes.{Ending, asks, ends, Why}
use Rattle.runs.specs.Asking.{Rest, ask, Ended, end_with, end, reported, is_over}

pub asks-not-ends : (x : Float) (e : Ending ℕ) → ends e ≡ asks x → ⊥
asks-not-ends x e q = let z : ◌≡◌ {A = ℕ} 0 1 = cc in omega arith

pub same_step : (x y : Float) → asks x ≡ asks y → x ≡ y
same_step x y e = cc

pub same_end : (e f : Ending ℕ) → ends e ≡ ends f → e ≡ f
same_end e f q = cc

module _ {K : Type 0} where
  pub asks-not-over : (k : K) (x : Float) (then : Float → Float → Rest K) (o : Ended K) → ask k x then ≡ end o → ⊥
  unfolding is_over
  asks-not-over k x then o e = false≢true (ap is_over e)

  pub same_kept : (k k' : K) (e e' : Ending Why) → end_with k e ≡ end_with k' e' → k ≡ k'
  unfolding reported
  same_kept k k' e e' q = ap reported q

  reason : Ending Why → Rest K → Ending Why
  reason e (ask k x then) = e
  reason e (end o) = o.by

  pub same-reason : (k k' : K) (e e' : Ending Why) → end_with k e ≡ end_with k' e' → e ≡ e'
  unfolding reason
  same-reason k k' e e' q = ap (reason e) q
