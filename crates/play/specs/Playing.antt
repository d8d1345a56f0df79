-- How a search is played, turn by turn: the bookkeeping that the contracts cite, and what `play`'s says (`PlaySaid`).
-- That this tells what 01's rules tell is proved in proofs/ByRules.antt.
use Rattle.std.specs.Prelude.{ℕ, zero, suc, ◌≡◌, List, [], ◌∷◌, ◌++◌, Option, Some, None}
use Rattle.runs.specs.Outcomes.{told}
use Rattle.runs.specs.declared.Outcome.{Outcome}
use Rattle.runs.specs.declared.Outcome.TheVariants.{Ask, Stop, Limit, Refused}
use Rattle.hagerzhang_rules.specs.Rules.{iterations_in}
use Rattle.text.specs.declared.Cursor.{Cursor}
use Rattle.text.specs.Text.{Writes}
use Rattle.curves.specs.declared.Curve.{Curve}
use Rattle.curves.specs.Curves.{value_of, slope_of}
use Rattle.hagerzhang.specs.declared.state.Search.{Search}
use Rattle.hagerzhang.specs.Machine.{Turn, answer_of}
use Rattle.hagerzhang.specs.Meaning.{report}
use Rattle.play.specs.Telling.{Said, text_of}

-- what a turn says
abbrev pub said_of : Turn → Said
said_of t = record {
  told = told t.outcome;
  evaluations = t.search.evaluations.0;
  iterations = iterations_in (report t.search);
}

-- what follows it: the curve answers a step that is asked; any other outcome is the last
unfoldable pub answered_by : Curve → Search → Outcome → Option Turn
answered_by c s (Ask x) = Some (answer_of s (value_of c x) (slope_of c x))
answered_by c s (Stop v x) = None
answered_by c s (Limit x) = None
answered_by c s (Refused k) = None

abbrev pub answered_of : Curve → Turn → Option Turn
answered_of c t = answered_by c t.search t.outcome

-- n turns: what is said in them, and what is left
unfoldable pub said_in : ℕ → Curve → Option Turn → List Said
said_in zero c p = []
said_in (suc n) c None = []
said_in (suc n) c (Some t) = said_of t ∷ said_in n c (answered_of c t)

unfoldable pub left_after : ℕ → Curve → Option Turn → Option Turn
left_after zero c p = p
left_after (suc n) c None = None
left_after (suc n) c (Some t) = left_after n c (answered_of c t)

-- what `play`'s contract says of a result r of so many turns: it is what is left of the play, and the lines of these
-- turns are written
pub record PlaySaid (c : Curve) (from : Option Turn) (turns : ℕ) (before : Cursor) (r : Option Turn) (after : Cursor)
    : Type 0 where
  pub left : r ≡ left_after turns c from
  pub lines : Writes before (text_of (said_in turns c from)) after

-- k chunks of n turns each: their text, and what is left
unfoldable pub chunks : Curve → ℕ → ℕ → Option Turn → List ℕ
chunks c n zero p = []
chunks c n (suc k) p = text_of (said_in n c p) ++ chunks c n k (left_after n c p)

unfoldable pub left_after_chunks : Curve → ℕ → ℕ → Option Turn → Option Turn
left_after_chunks c n zero p = p
left_after_chunks c n (suc k) p = left_after_chunks c n k (left_after n c p)
