use Rattle.std.proofs.Common.{◌∙◌, ap, subst, sym}
use Rattle.mld_ops.specs.PairLists.{row_pair}
use Rattle.mld_ops.specs.declared.pair_lists.PairRow.{PairRow}
use Rattle.graph_index.specs.TermNumbers.{IsOwnEntry}
use Rattle.graph_index.proofs.Entries.{own_more, stand_once_more, members_more}
use Rattle.graph_index.proofs.Numbers.{row_is, row_own}
use Rattle.graph_index.proofs.numbered.add_entry.Goals as goal

pub returns-in_ok-push-clause-own : goal.returns-in_ok-push-clause-own
returns-in_ok-push-clause-own c =
    let tables = c.args.tables.now in
    let numbers = c.in-Some.numbers in
    own_more tables c.args.entries.now.items c.push.new.self.items numbers c.row_of.result c.args.pair c.in_ok-push.ensures.items
    (ap (row_pair tables.paths) c.row_of.ensures ∙ row_is tables c.args.pair numbers c.in-Some.ensures.some) c.requires.own
    (subst (λ (row : PairRow). IsOwnEntry tables (numbers, row)) (sym c.row_of.ensures) (row_own tables c.args.pair numbers c.in-Some.ensures.some))

pub returns-in_ok-push-clause-once : goal.returns-in_ok-push-clause-once
returns-in_ok-push-clause-once c =
    let tables = c.args.tables.now in
    let numbers = c.in-Some.numbers in
    stand_once_more tables c.args.entries.now.items c.push.new.self.items numbers c.row_of.result c.args.pair c.in_ok-push.ensures.items
    (ap (row_pair tables.paths) c.row_of.ensures ∙ row_is tables c.args.pair numbers c.in-Some.ensures.some) c.requires.own c.in-Some.ensures.some c.requires.once c.requires.apart

pub returns-in_ok-push-clause-members : goal.returns-in_ok-push-clause-members
returns-in_ok-push-clause-members c =
    let tables = c.args.tables.now in
    let numbers = c.in-Some.numbers in
    members_more tables c.args.entries.now.items c.push.new.self.items numbers c.row_of.result c.args.pair c.in_ok-push.ensures.items
    (ap (row_pair tables.paths) c.row_of.ensures ∙ row_is tables c.args.pair numbers c.in-Some.ensures.some)
