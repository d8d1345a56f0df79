-- 01, "How tight the contracts are": a program that "hands the state back untouched" would satisfy demand 3's bracket
-- clause, "so that clause is read over 2's rules": where its bracket is one, it stays one, after any answers
-- (`untouched-keeps`). Demand 2 shuts it out (`untouched-shut-out`, specs/Demand2.antt). Assumes nothing.
use mathlib.Core.Path.{◌≡◌, sym, subst}
use mathlib.Core.List.{List, [], ◌∷◌}
use lib.Ieee.{Float}
use Rattle.runs.specs.Asking.{Reply, Machine, reached}
use Rattle.hagerzhang.specs.declared.state.Search.{Search}
use Rattle.hagerzhang.specs.Meaning.{report}
use Rattle.hagerzhang_rules.proofs.Along.{Holds}

pub untouched-keeps : (m : Machine Search) → ((s : Search) (f g : Float) → m.next s f g ≡ s)
    → (L : Float) (s : Search) (ys : List Reply) → Holds L (report s) → Holds L (report (reached m s ys))
unfolding reached
untouched-keeps m same L s [] h = h
untouched-keeps m same L s (y ∷ ys) h =
    subst (λ (c : Search). Holds L (report (reached m c ys))) (sym (same s y.0 y.1))
    (untouched-keeps m same L s ys h)
