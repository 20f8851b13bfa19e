use Rattle.graph_index.proofs.graphs.Graph.with_triple.Given as goal

abbrev pub ghosts-found_with : goal.ghosts-found_with
ghosts-found_with a = record { name = a.blank.name; parts = a.blank.parts }
