-- `tables::given` meets its contract: what the answers before this one left, with those from it on still to give.
-- Assumes nothing.
use Rattle.std.proofs.Common.{[], map, get_or, drop, sym, ap, ◌∙◌, length-set, ◌+◌}
use Rattle.std.proofs.lemmas.List.{drop_all}
use Rattle.answers.proofs.Lists.{answer_of, answers-of-chunks}
use Rattle.tables.specs.Tables.{given_to}
use Rattle.tables.proofs.InPlace.{one_turn, with_seat, one-given, none-given}
use Rattle.tables.proofs.given.Goals as goal
use Rattle.tables.proofs.given.Goals.{in-Some, in_default}

pub loop-number-preserved : goal.loop-number-preserved
loop-number-preserved c =
    let l = c.loop-number in
    let cs = c.as_chunks.result.0.now in
    let a = get_or cs l.number-index [] in
    let rest = map answer_of (drop (l.number-index + 1) cs) in
    let turn = l.invariant.1 ∙ one_turn l.table cs l.number-index [] c.loop-number-test.true in
    elim c.match-number.branch [
      | in-Some w ↦ let n = w.in-Some.n in (
        rw w.table-is (length-set l.table.seats n _ ∙ l.invariant.0),
        turn ∙ ap (λ u. given_to u rest)
            (one-given l.table a l.invariant.0 n _ (sym c.number.ensures ∙ w.in-Some.is)
            ∙ ap (with_seat l.table n) (sym w.answer.ensures) ∙ sym w.table-is),
      )
      | in_default w ↦ (
        rw w.table-is l.invariant.0,
        turn ∙ ap (λ u. given_to u rest)
            (none-given l.table a l.invariant.0 (sym c.number.ensures ∙ w.in_default.is) ∙ sym w.table-is),
      )
    ]

pub returns : goal.returns
returns c =
    let l = c.loop-number in
    sym (ap (given_to c.args.t)
    (answers-of-chunks c.args.list.now ∙ ap (map answer_of) (sym c.as_chunks.ensures.front))
    ∙ l.invariant.1 ∙ rw (drop_all l.number-index c.as_chunks.result.0.now c.loop-number-test.false))
