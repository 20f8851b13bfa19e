use Rattle.single_value.proofs.values.spares_other.Given as goal

abbrev pub ghosts-pairs_in : goal.ghosts-pairs_in
ghosts-pairs_in a = record { name = a.blank.name; parts = a.blank.parts }
