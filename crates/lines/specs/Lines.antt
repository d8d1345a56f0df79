-- 01, "Sample curves and jobs": the lines that tell an outcome. Each ends with a newline.
use Rattle.std.specs.Prelude.{ℕ, List, [], ◌∷◌, ◌++◌, Float}
use Rattle.text.specs.Text.{bytes, decimal_of}
use Rattle.text.specs.Figures.{next_text, number_line, floats_line}
use Rattle.runs.specs.declared.Counts.{Counts}
use Rattle.runs.specs.Outcomes.{Word, met, wolfe, approximate, stop, limit, refusal, Told, asks, ends}

-- "both counts as above"
abbrev pub counts_text : ℕ → ℕ → List ℕ
counts_text e i = bytes " evaluations " ++ decimal_of e ++ bytes " iterations " ++ decimal_of i ++ bytes "\n"

-- of what a search has counted
abbrev pub counts_of : Counts → List ℕ
counts_of c = counts_text c.evaluations.0 c.iterations.0

abbrev pub verdict_text : Word → List ℕ
verdict_text met = bytes "met"
verdict_text wolfe = bytes "wolfe"
verdict_text approximate = bytes "approximate"

-- `STOP`, the verdict's word w, the step x and both counts
abbrev pub stop_line : Word → Float → ℕ → ℕ → List ℕ
stop_line w x e i = bytes "STOP " ++ verdict_text w ++ next_text x ++ counts_text e i

-- `LIMIT`, the step x and both counts
abbrev pub limit_line : Float → ℕ → ℕ → List ℕ
limit_line x e i = bytes "LIMIT" ++ next_text x ++ counts_text e i

abbrev pub refused_line : ℕ → List ℕ
refused_line n = number_line (bytes "REFUSED ") n

-- the line for what a search tells, with its evaluations e and its iterations i
abbrev pub outcome_line : Told → ℕ → ℕ → List ℕ
outcome_line (asks x) e i = floats_line (bytes "ASK") (x ∷ [])
outcome_line (ends (stop w x)) e i = stop_line w x e i
outcome_line (ends (limit x)) e i = limit_line x e i
outcome_line (ends (refusal n)) e i = refused_line n
