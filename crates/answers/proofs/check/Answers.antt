-- `answers::check` meets its contract: the list's whole answers are its arrays of three, and each is looked at. That
-- these are what is looked through is found by rules, so that a part of them is refused for what it leaves out. Assumes
-- nothing.
use Rattle.std.proofs.Common.{◌≡◌, ◌∙◌, ◌%◌, length, sym, rules, arith}
use Rattle.std.proofs.lemmas.Iterator.{YieldsList-from_slice}
use Rattle.std.proofs.lemmas.List.{take_all}
use Rattle.std.proofs.lemmas.Iterator.Search.{all_from_yields_List}
use Rattle.floats.proofs.Branches.{tests}
use Rattle.answers.specs.Answers.{answers_in, size_of, all_named}
use Rattle.answers.proofs.Lists.{names_below, named-in-chunks, is-below}
use Rattle.answers.proofs.check.Goals as goal
use Rattle.answers.proofs.check.Goals.{After-all-named}

looked-at : (c : After-all-named)
    → (length c.args.list.now % 3 ≡ 0)
    × (c.all-named.result ≡ all_named (size_of c.args.n) (answers_in c.args.list.now))
looked-at c =
    let few = c.in_default-empty.len_below in
    let left = c.as_chunks.ensures.back_len in (
      omega arith,
      all_from_yields_List (names_below (size_of c.args.n)) _ _ _ c.all-named.ensures.ran
          (YieldsList-from_slice _ (search (rules, take_all)))
          (λ x b q k. (search (rules, tests), is-below c.args.n _ b (search (rules, tests))))
          ∙ named-in-chunks _ c.args.list.now,
    )

pub returns-then-not-named : goal.returns-then-not-named
returns-then-not-named c =
    let r = looked-at (goal.at.returns-then-not-named c).After-all-named in rw (r.0, sym r.1 ∙ c.if-not-named.true)

pub returns : goal.returns
returns c =
    let r = looked-at (goal.at.returns c).After-all-named in rw (r.0, sym r.1 ∙ c.if-not-named.false)
