use Rattle.jrql_eval.proofs.scanning.triples_with.Given as goal

abbrev pub ghosts-pairs_in : goal.ghosts-pairs_in
ghosts-pairs_in a = record { name = a.blank.name; parts = a.blank.parts }
