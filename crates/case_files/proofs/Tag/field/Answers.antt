-- `case_files::Tag::field` meets its contract: a body that the tag may not have is malformed. Assumes nothing.
use Rattle.std.proofs.Common.{sym, ◌∙◌}
use Rattle.case_files.proofs.Lengths.{ruled_out}
use Rattle.case_files.proofs.Tag.field.Goals as goal

pub returns-then-not-may_have : goal.returns-then-not-may_have
returns-then-not-may_have c =
    sym (ruled_out _ c.args.body.now c.args.searching (sym c.may_have.ensures ∙ c.if-not-may_have.true))
