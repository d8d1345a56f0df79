-- What is kept, as a report of 01's rules: bracket, best and finished iterations, or none yet.
use Rattle.hagerzhang_rules.specs.Rules.{Report, nothing_yet, last}
use Rattle.hagerzhang_steps.specs.declared.state.Finished.{Finished}
use Rattle.std.specs.Prelude.{Option, None, Some}

abbrev pub last_of : Finished → Report
last_of fin = last (record { bracket = fin.bracket; best = fin.best; iterations = fin.iterations.0 })

unfoldable pub kept_report : Option Finished → Report
kept_report None = nothing_yet
kept_report (Some fin) = last_of fin
