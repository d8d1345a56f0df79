-- docs/FORMATS.md, "What `cases` writes": the three lines "when the search is left", with what the rules report of it.
use Rattle.std.specs.Prelude.{ℕ, List, [], ◌∷◌, ◌++◌, Float}
use Rattle.text.specs.Text.{bytes}
use Rattle.text.specs.Figures.{floats_line}
use Rattle.lines.specs.Lines.{counts_text}
use Rattle.hagerzhang_rules.specs.declared.Bracket.{Bracket}
use Rattle.hagerzhang_rules.specs.declared.Point.{Point}
use Rattle.hagerzhang_rules.specs.Rules.{Summary, Report, nothing_yet, last}

abbrev pub point_floats : Point → List Float
point_floats p = p.x ∷ p.f ∷ p.g ∷ []

-- `BRACKET none`, `BEST none`, `COUNTS evaluations e iterations i`
abbrev pub no_bracket_text : ℕ → ℕ → List ℕ
no_bracket_text e i = bytes "BRACKET none\nBEST none\nCOUNTS" ++ counts_text e i

-- `BRACKET a.x a.f a.g b.x b.f b.g`, `BEST x f g`
abbrev pub points_text : Bracket → Point → List ℕ
points_text w best =
    floats_line (bytes "BRACKET") (point_floats w.a ++ point_floats w.b)
    ++ floats_line (bytes "BEST") (point_floats best)

-- the same of what the rules report, and the counts
abbrev pub last_text : Summary → ℕ → List ℕ
last_text p e = points_text p.bracket p.best ++ bytes "COUNTS" ++ counts_text e p.iterations

-- after e evaluations; `none` "while the start lasts"
abbrev pub closing_text : Report → ℕ → List ℕ
closing_text nothing_yet e = no_bracket_text e 0
closing_text (last p) e = last_text p e
