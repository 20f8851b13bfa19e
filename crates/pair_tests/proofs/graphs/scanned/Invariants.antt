use Rattle.pair_tests.proofs.graphs.scanned.Given as goal

abbrev pub ghosts-scanned_in : goal.ghosts-scanned_in
ghosts-scanned_in a = record { name = a.blank.name; parts = a.blank.parts }
