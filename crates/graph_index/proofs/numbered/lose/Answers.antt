use Rattle.graph_index.proofs.Moving.{gone_members, gone_none}
use Rattle.graph_index.proofs.numbered.lose.Goals as goal

pub returns-in-Some-clause-members : goal.returns-in-Some-clause-members
returns-in-Some-clause-members c =
    gone_members c.args.tables.now c.args.numbered.now.pairs c.remove.new.self.pairs c.args.pair.now c.in-Some.numbers c.requires c.in-Some.ensures.some c.remove.ensures.members

pub returns-in_default-clause-members : goal.returns-in_default-clause-members
returns-in_default-clause-members c = gone_none c.args.tables.now c.args.numbered.now.pairs c.args.pair.now c.requires c.in_default.ensures.none
