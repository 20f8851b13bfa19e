use Rattle.graph_index.proofs.Fitting.{fits_first, pairs_first}
use Rattle.graph_index.proofs.graphs.Graph.prepare.Goals as goal

pub returns-clause-pairs : goal.returns-clause-pairs
returns-clause-pairs c =
    pairs_first c.self.inside.parts c.index-self-0.result c.prepare_parts.new.parts c.args.self.now c.self.invariant c.self.view_is c.prepare_parts.ensures.pairs

pub returns-clause-kept : goal.returns-clause-kept
returns-clause-kept c =
    fits_first c.self.inside.parts c.index-self-0.result c.prepare_parts.new.parts c.args.self.now c.self.invariant c.self.view_is c.prepare_parts.ensures.kept
