-- The sums of request 3 hold of the written rules, as one list under a single claim (specs/StartSums.antt): by
-- computing in f64. Assumes nothing.
use mathlib.Core.Path.{refl}
use lib.Ieee.{add, sub, mul, div, neg, le, lt, of_bits, of_int}
use Rattle.hagerzhang_rules.specs.Rules.{narrowed_of, grown_of, trial, between, U3, enough, growth, starting}
use Rattle.hagerzhang_rules.specs.MarkedSums.{left, steps}
use Rattle.hagerzhang_rules.specs.StartSums.{start, StartSums}

pub start-sums : StartSums
unfolding start left steps starting growth enough trial between U3 narrowed_of grown_of
    add sub mul div neg le lt of_bits of_int
start-sums = record {
  at_once = refl;
  second = (refl, refl);
  steep = (refl, refl);
  third = refl;
  eleven = refl;
  five = refl;
  eleven-first = refl;
  ten = refl;
}
