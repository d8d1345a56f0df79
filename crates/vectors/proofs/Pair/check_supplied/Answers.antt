-- `vectors::Pair::check_supplied` meets its contract: it refuses exactly where an index is found. Assumes nothing.
use Rattle.std.proofs.Common.{not, sym, ap, arith}
use Rattle.vectors.specs.declared.Refusal.TheVariants.{SuppliedNotFinite}
use Rattle.vectors.specs.Vectors.{bad_in_any}
use Rattle.vectors.proofs.First.{first-is, first-none}
use Rattle.vectors.proofs.Faults.{bad-in-any, bad-in-none}
use Rattle.vectors.proofs.Pair.check_supplied.Goals as goal

pub returns-in-Some : goal.returns-in-Some
returns-in-Some c =
    let xs = c.args.self.xs.now in
    let ys = c.args.self.ys.now in
    let it = c.in-Some.ensures in
    let found = sym (first-is (bad_in_any xs ys) _ _ it) in record {
      said = (ap not (bad-in-any xs ys c.args.self.alike _ found it.below), ap SuppliedNotFinite found);
      none_bad = tt;
    }

pub returns-in-None : goal.returns-in-None
returns-in-None c =
    let xs = c.args.self.xs.now in
    let ys = c.args.self.ys.now in
    let end = first-none (bad_in_any xs ys) _ c.in-None.ensures in record {
      said = ap not (bad-in-none xs ys c.args.self.alike _ (sym end) (omega arith));
      none_bad = end;
    }
