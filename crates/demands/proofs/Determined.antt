-- 01, "How tight the contracts are": any two results that a contract allows are identical (`all-determined`), over the
-- names that the contracts cite. Assumes nothing.
use mathlib.Core.Path.{sym, ◌∙◌}
use Rattle.text.proofs.Writing.{writes-determined}
use Rattle.vectors.proofs.Determined.{dot-determined, point-determined}
use Rattle.runs.proofs.Determined.{told-determined}
use Rattle.conditions.proofs.Determined.{checked-determined}
use Rattle.curves.proofs.Determined.{numbered-determined}
use Rattle.jobs.proofs.Determined.{read-determined, begin-determined}
use Rattle.play.proofs.Determined.{play-determined}
use Rattle.backtracking.proofs.Determined as trials
use Rattle.hagerzhang.proofs.Determined.{start-determined, answer-determined}
use Rattle.answers.proofs.Determined.{check-determined}
use Rattle.tables.proofs.Determined.{scan-determined}
use Rattle.demands.specs.Determined.{Determined}

pub all-determined : Determined
all-determined = record {
  equation = λ d r q e e'. e ∙ sym e';
  dot = dot-determined;
  checked = checked-determined;
  numbered = numbered-determined;
  read = read-determined;
  begin = begin-determined;
  trials-start = trials.start-determined;
  trials-answer = trials.answer-determined;
  start = start-determined;
  answer = answer-determined;
  list-checked = check-determined;
  scan = scan-determined;
  point = point-determined;
  writing = writes-determined;
  play = play-determined;
  outcome = told-determined;
}
