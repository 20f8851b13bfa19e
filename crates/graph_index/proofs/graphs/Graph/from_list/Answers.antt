use Rattle.std.proofs.Common.{◌∙◌, ap}
use Rattle.graph_index.specs.Graphs.{GraphValue}
use Rattle.graph_index.proofs.Entries.{ascending_once}
use Rattle.graph_index.proofs.Fitting.{built_own, made_is}
use Rattle.graph_index.proofs.graphs.Graph.from_list.Goals as goal

pub with_numbers-requires-clause-once : goal.with_numbers-requires-clause-once
with_numbers-requires-clause-once c = ascending_once c.args.list.items c.requires

pub graph_of-requires : goal.graph_of-requires
graph_of-requires c =
    built_own c.give_all.new.self c.in_ok-numbered.numbered.pairs c.in_ok-entries.entries.items c.in_ok-numbered.ensures c.in_ok-entries.ensures.own

pub returns : goal.returns
returns c =
    ap (λ (v : GraphValue). v.pairs) c.graph_of.ensures ∙
    made_is c.give_all.new.self.paths c.in_ok-numbered.numbered.pairs c.in_ok-entries.entries.items c.args.list.items c.requires c.in_ok-numbered.ensures c.in_ok-entries.ensures.members
