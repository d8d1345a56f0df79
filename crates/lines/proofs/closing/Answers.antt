-- `lines::closing` meets its contract: what the search holds is what the rules report, and what it counts has the
-- iterations of that. Assumes nothing.
use Rattle.std.proofs.Common.{sym, ap, ◌∙◌, subst, Option}
use Rattle.text.specs.Text.{Writes}
use Rattle.text.proofs.Writing.{then}
use Rattle.runs.specs.Counters.{iterations}
use Rattle.runs.specs.declared.Counts.{Counts}
use Rattle.runs.specs.declared.Evaluations.{Evaluations}
use Rattle.hagerzhang_rules.specs.Rules.{iterations_in}
use Rattle.hagerzhang_steps.specs.declared.state.Finished.{Finished}
use Rattle.hagerzhang_steps.specs.Reports.{kept_report}
use Rattle.lines.specs.Lines.{counts_of}
use Rattle.lines.specs.Closing.{no_bracket_text}
use Rattle.lines.proofs.closing.Goals as goal

-- the counts of a search that holds k
abbrev counts : Evaluations → Option Finished → Counts
counts n k = record { evaluations = n; iterations = iterations (iterations_in (kept_report k)) }

pub returns-in_default : goal.returns-in_default
unfolding kept_report
returns-in_default c =
    let none = sym c.held.ensures.exact ∙ c.in_default.is in
    rw none
    (subst (λ k. Writes c.args.page.now (no_bracket_text k.evaluations.0 k.iterations.0) c.no_bracket.new.page)
    (c.counts.ensures ∙ ap (counts c.args.s.evaluations) none) c.no_bracket.ensures)

pub returns : goal.returns
unfolding kept_report
returns c =
    let some = sym c.held.ensures.exact ∙ c.in-Some.is in
    rw some
    (then _ _ c.points.ensures (then _ _ c.word.ensures
    (subst (λ k. Writes c.word.new.self (counts_of k) c.counts-3.new.page)
    (c.counts-2.ensures ∙ ap (counts c.args.s.evaluations) some) c.counts-3.ensures)))
