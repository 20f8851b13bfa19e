use Rattle.std.proofs.Common.{◌≡◌, sym, subst, ap, ◌∙◌}
use Rattle.mld_ops.specs.PairLists.{row_pair}
use Rattle.mld_ops.specs.declared.pair_lists.PairRow.{PairRow}
use Rattle.graph_index.specs.TermNumbers.{IsOwnEntry}
use Rattle.graph_index.proofs.Moving.{come_members, come_numbered, there_or_not}
use Rattle.graph_index.proofs.Numbers.{row_is, row_own}
use Rattle.graph_index.proofs.numbered.gain.Goals as goal

pub returns-in-Some-clause-numbered : goal.returns-in-Some-clause-numbered
returns-in-Some-clause-numbered c =
    let tables = c.args.tables.now in
    let numbers = c.in-Some.numbers in
    come_numbered tables c.args.numbered.now.pairs c.insert.new.self.pairs c.row_of.result numbers c.requires.numbered
    (subst (λ (row : PairRow). IsOwnEntry tables (numbers, row)) (sym c.row_of.ensures) (row_own tables c.args.pair numbers c.in-Some.ensures.some)) c.insert.ensures.members

pub returns-in-Some-clause-members : goal.returns-in-Some-clause-members
returns-in-Some-clause-members c =
    let tables = c.args.tables.now in
    let numbers = c.in-Some.numbers in
    come_members tables c.args.numbered.now.pairs c.insert.new.self.pairs c.args.pair c.row_of.result numbers c.requires.numbered c.in-Some.ensures.some
    (ap (row_pair tables.paths) c.row_of.ensures ∙ row_is tables c.args.pair numbers c.in-Some.ensures.some) c.insert.ensures.members (there_or_not c.args.numbered.now.pairs numbers)
