-- The sums of request 4 hold of the written rules, as one list under a single claim (specs/EndSums.antt): by computing
-- in f64. Assumes nothing.
use mathlib.Core.Path.{◌≡◌, refl, ap, ◌∙◌}
use mathlib.Core.Bool.{false}
use lib.IntN.{negsuc}
use lib.Ieee.{fin, add, sub, mul, div, neg, le, lt, eq, of_bits, of_int}
use Rattle.floats.specs.Numerals.{quarters}
use Rattle.std.specs.Prelude.{Some}
use Rattle.hagerzhang_rules.specs.Rules.{update_of, S2, S3, L2, trial, U3, updating, further, iteration_by}
use Rattle.hagerzhang_rules.specs.MarkedSums.{left}
use Rattle.hagerzhang_rules.specs.EndSums.{asked-by-L2, low-flat, former-M8, EndSums}

-- 1.5 by way of its own form: the checker takes too long where it compares the two quotients as they are written
halves : asked-by-L2 low-flat low-flat ≡ Some (quarters 6)
unfolding L2 add sub mul div lt of_bits of_int
halves =
    let as-halves : asked-by-L2 low-flat low-flat ≡ Some (fin false 3 (negsuc 0)) = refl in
    let as-quarters : fin false 3 (negsuc 0) ≡ quarters 6 = refl in
    as-halves ∙ ap Some as-quarters

pub end-sums : EndSums
unfolding former-M8 left iteration_by further trial U3 updating update_of S2 S3 L2
    add sub mul div neg le lt eq of_bits of_int
end-sums = record {
  low_end = (refl, λ f g. refl, refl, halves);
  both_ends = (refl, λ f g. refl, refl, refl);
  S2-given = (refl, refl, refl);
  S3-given = (refl, refl);
  steps-alone = (refl, refl, refl);
  zeros = λ f g f' g'. refl;
  formerly = (refl, λ f g e. rw e);
}
