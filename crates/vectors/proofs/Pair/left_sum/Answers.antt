-- `vectors::Pair::left_sum` meets its contract: the sum so far, with the products from i on still to add. Assumes
-- nothing.
use Rattle.std.proofs.Common.{◌≡◌, length, sym, ◌∙◌, arith}
use Rattle.floats.specs.Arithmetic.{◌⊗◌}
use Rattle.vectors.specs.Vectors.{products}
use Rattle.vectors.proofs.Elements.{sum-start, sum_step, sum-end, zip_length, zip-at}
use Rattle.vectors.proofs.Pair.left_sum.Goals as goal

pub loop-i-init : goal.loop-i-init
loop-i-init c =
    let a = c.args.self.xs.now in
    let b = c.args.self.ys.now in
    let n : length (products a b) ≡ length a = zip_length ◌⊗◌ a b (omega arith) in
    let first = zip-at ◌⊗◌ a b 0 (omega arith) (omega arith) in
    sum-start (products a b) (omega arith) ∙ rw first

pub loop-i-preserved : goal.loop-i-preserved
loop-i-preserved c =
    let a = c.args.self.xs.now in
    let b = c.args.self.ys.now in
    let i = c.loop-i.i in
    let n : length (products a b) ≡ length a = zip_length ◌⊗◌ a b (omega arith) in
    let next = zip-at ◌⊗◌ a b i (omega arith) (omega arith) in
    c.loop-i.invariant ∙ sum_step _ (products a b) i (omega arith) ∙ rw next

pub returns : goal.returns
returns c =
    let a = c.args.self.xs.now in
    let b = c.args.self.ys.now in
    let n : length (products a b) ≡ length a = zip_length ◌⊗◌ a b (omega arith) in
    sym (c.loop-i.invariant ∙ sum-end _ (products a b) c.loop-i.i (omega arith))
