use Rattle.std.proofs.Common.{◌∙◌}
use Rattle.graph_index.proofs.Fitting.{first_own, first_value, value_ascends}
use Rattle.graph_index.proofs.Ranging.{ok_weaker}
use Rattle.graph_index.proofs.graphs.Graph.into_list.Goals as goal

pub list_of-requires : goal.list_of-requires
list_of-requires c = first_own c.self.inside.parts c.index-parts-0.result c.replace-own.result c.self.invariant c.replace-own.ensures.value

pub returns-clause-pairs : goal.returns-clause-pairs
returns-clause-pairs c =
    ok_weaker c.list_of.result
    (λ list h. h ∙ first_value c.self.inside.parts c.index-parts-0.result c.replace-own.result c.args.self c.self.invariant c.self.view_is c.replace-own.ensures.value) c.list_of.ensures

pub returns-clause-ascending : goal.returns-clause-ascending
returns-clause-ascending c = value_ascends c.self.inside.parts c.args.self c.self.view_is
