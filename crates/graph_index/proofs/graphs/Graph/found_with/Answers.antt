use Rattle.graph_index.proofs.Ranging.{ok_weaker}
use Rattle.graph_index.proofs.Finding.{of_triple_found}
use Rattle.graph_index.proofs.graphs.Graph.found_with.Goals as goal

pub returns-clause-found : goal.returns-clause-found
returns-clause-found g c =
    ok_weaker c.scan.result (λ found h. of_triple_found c.args.self.now.pairs c.args.triple.now found h) c.scan.ensures.found
