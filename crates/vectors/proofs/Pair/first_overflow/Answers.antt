-- `vectors::Pair::first_overflow` meets its contract: the sum is that of the first i products, and those of fewer are
-- finite. Assumes nothing.
use Rattle.std.proofs.Common.{◌≡◌, ◌<◌, true, length, take, sym, ap, ◌∙◌, arith, add-one, below_more}
use lib.Seq.{take_all}
use lib.Ieee.Scale.{finite}
use Rattle.floats.specs.Arithmetic.{◌⊗◌}
use Rattle.vectors.specs.Vectors.{products, left_sum}
use Rattle.vectors.proofs.Elements.{zip_length, zip-at}
use Rattle.vectors.proofs.PartialSums.{sum_first, sum-next, overflow-found}
use Rattle.vectors.proofs.Pair.first_overflow.Goals as goal

pub loop-i-init : goal.loop-i-init
loop-i-init c =
    let a = c.args.self.xs.now in
    let b = c.args.self.ys.now in
    let n : length (products a b) ≡ length a = zip_length ◌⊗◌ a b (omega arith) in
    let first = zip-at ◌⊗◌ a b 0 (omega arith) (omega arith) in
    (sym (sum_first (products a b) (omega arith) ∙ first), λ k l p. absurd (omega arith))

pub returns-then-not-is_finite : goal.returns-then-not-is_finite
returns-then-not-is_finite c =
    let inv = c.loop-i.invariant in
    let e = ap finite (sym inv.0) ∙ sym c.is_finite.ensures ∙ c.if-not-is_finite.true in
    overflow-found _ _ c.loop-i.i (omega arith) (omega arith) e inv.1

pub loop-i-preserved : goal.loop-i-preserved
loop-i-preserved c =
    let inv = c.loop-i.invariant in
    let i = c.loop-i.i in
    let a = c.args.self.xs.now in
    let b = c.args.self.ys.now in
    let n : length (products a b) ≡ length a = zip_length ◌⊗◌ a b (omega arith) in
    let next = zip-at ◌⊗◌ a b i (omega arith) (omega arith) in
    let e = ap finite (sym inv.0) ∙ sym c.is_finite.ensures ∙ c.if-not-is_finite.false in (
      rw (inv.0, ← next, add-one) (sym (sum-next (products a b) i (omega arith) (omega arith))),
      below_more (λ k. 0 < k → finite (left_sum (take k (products a b))) ≡ true) i inv.1 (λ p. e),
    )

pub returns : goal.returns
returns c =
    let inv = c.loop-i.invariant in
    let a = c.args.self.xs.now in
    let b = c.args.self.ys.now in
    let n : length (products a b) ≡ length a = zip_length ◌⊗◌ a b (omega arith) in
    let whole = take_all c.loop-i.i (products a b) (omega arith) in
    let same : c.loop-i.i ≡ length a = omega arith in
    rw (← same)
    (overflow-found _ _ c.loop-i.i (omega arith) (omega arith)
    (ap (λ ps. finite (left_sum ps)) whole ∙ c.requires) inv.1)
