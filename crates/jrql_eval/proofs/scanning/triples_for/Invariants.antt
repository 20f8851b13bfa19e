use Rattle.jrql_eval.proofs.scanning.triples_for.Given as goal

abbrev pub ghosts-triples_in : goal.ghosts-triples_in
ghosts-triples_in a = record { name = a.blank.name; parts = a.blank.parts }
