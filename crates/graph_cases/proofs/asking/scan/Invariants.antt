use Rattle.graph_cases.proofs.asking.scan.Given as goal

abbrev pub ghosts-pairs_in : goal.ghosts-pairs_in
ghosts-pairs_in a = record { name = a.blank.name; parts = a.blank.parts }
