-- `vectors::point` meets its contract: each test is a row's or a part of one, in the rows' order, and the buffer is
-- lent on only behind the last. Assumes nothing.
use Rattle.std.proofs.Common.{◌≡◌, false, not, ◌||◌, ◌&&◌, eqb, length, sym, ap, ◌∙◌, rules, arith}
use borrow.Author.Tests.{not-false}
use Rattle.refusals.specs.Results.{value}
use Rattle.vectors.specs.Vectors.{bad_length, bad, moved, moved_by}
use Rattle.vectors.proofs.Elements.{zip_length}
use Rattle.vectors.proofs.First.{first-is, first-none}
use Rattle.vectors.proofs.Faults.{bad-at, bad-nowhere}
use Rattle.vectors.proofs.point.Goals as goal

pub returns-in-Some : goal.returns-in-Some
returns-in-Some c =
    let p = c.in_ok-pair.pair in
    let n = length p.xs.now in
    let m = moved p.xs.now c.args.alpha p.ys.now in
    let it = c.in_ok-pair.ensures.same in
    let f : (bad_length n || not (eqb n (length p.ys.now) && eqb n (length c.args.out.now))) ≡ false = search rules in
    let g = sym c.is_finite.ensures ∙ c.if-not-is_finite.false in
    let k = not-false _ c.in_ok-check_supplied.ensures.said in
    let long = zip_length (moved_by c.args.alpha) p.xs.now p.ys.now p.alike in
    let found = first-is (bad m) _ _ c.in-Some.ensures in
    let h = bad-at m _ long _ (sym found) c.in-Some.ensures.below in
    (rw (← it.0, ← it.1, f, g, k, h, found), rw (← it.0, ← it.1, f, g, k, h))

pub returns : goal.returns
returns c =
    let p = c.in_ok-pair.pair in
    let n = length p.xs.now in
    let m = moved p.xs.now c.args.alpha p.ys.now in
    let it = c.in_ok-pair.ensures.same in
    let f : (bad_length n || not (eqb n (length p.ys.now) && eqb n (length c.args.out.now))) ≡ false = search rules in
    let g = sym c.is_finite.ensures ∙ c.if-not-is_finite.false in
    let k = not-false _ c.in_ok-check_supplied.ensures.said in
    let long = zip_length (moved_by c.args.alpha) p.xs.now p.ys.now p.alike in
    let end = first-none (bad m) _ c.in_default.ensures in
    let h = bad-nowhere m _ long _ (sym end) (omega arith) in (
      rw (← it.0, ← it.1, f, g, k, h) (ap value c.write_moved.ensures),
      rw (← it.0, ← it.1, f, g, k, h) c.write_moved.ensures,
    )
