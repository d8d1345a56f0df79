-- `vectors::Pair::write_moved` meets its contract: the first i elements are the point's, and the others are what the
-- buffer held. Assumes nothing.
use Rattle.std.proofs.Common.{◌≡◌, ◌∙◌, length, add-one, arith}
use Rattle.vectors.specs.Vectors.{moved, moved_by}
use Rattle.vectors.proofs.Elements.{zip_length, zip-at, store, stored}
use Rattle.vectors.proofs.Pair.write_moved.Goals as goal

pub loop-i-preserved : goal.loop-i-preserved
loop-i-preserved c =
    let a = c.args in
    let m = moved a.self.xs.now a.alpha a.self.ys.now in
    let i = c.loop-i.i in
    let n : length m ≡ length a.self.xs.now = zip_length (moved_by a.alpha) _ _ a.self.alike in
    let v = zip-at (moved_by a.alpha) a.self.xs.now a.self.ys.now i (omega arith) (omega arith) in
    rw (c.loop-i.invariant, ← v, add-one) (store a.out.now m i (omega arith) (omega arith))

pub returns : goal.returns
returns c =
    let a = c.args in
    let m = moved a.self.xs.now a.alpha a.self.ys.now in
    let n : length m ≡ length a.self.xs.now = zip_length (moved_by a.alpha) _ _ a.self.alike in
    c.loop-i.invariant ∙ stored a.out.now m c.loop-i.i (omega arith) (omega arith)
