-- A run of floats that is read one by one. Assumes nothing.
use mathlib.Core.Path.{◌≡◌, sym, ap, ◌∙◌}
use mathlib.Core.List.{List, ◌++◌}
use Prim.Native.Nat.{ℕ, suc, ◌+◌, ◌-◌, ◌<◌}
use native.Mathlib.Omega.{arith}
use lib.Ieee.{Float}
use lib.ListN.{length, take, drop, set}
use lib.Seq.{append_snoc}
use Rattle.std.proofs.lemmas.List.{take_more_set}
use Rattle.wire.specs.Wire.{float_of}
use Rattle.bodies.specs.Bodies.{floats_of}

-- what was read, and the floats of the rest, are all of them
pub one_more : (all v : List Float) (i n : ℕ) (r next : List ℕ) (y : Float) → y ≡ float_of r → next ≡ drop 8 r
    → length v ≡ n → i < n → all ≡ take i v ++ floats_of (n - i) r
    → all ≡ take (i + 1) (set v i y) ++ floats_of (n - (i + 1)) next
one_more all v i n r next y f e l h a =
    let left : n - i ≡ suc (n - (i + 1)) = omega arith in
    let inside : i < length v = omega arith in
    rw (f, e, take_more_set v i (float_of r) inside)
    (a ∙ ap (λ k. take i v ++ floats_of k r) left
    ∙ sym (append_snoc (take i v) (float_of r) (floats_of (n - (i + 1)) (drop 8 r))))
