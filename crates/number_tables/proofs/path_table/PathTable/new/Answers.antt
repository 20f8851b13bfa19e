use Rattle.number_tables.proofs.PathLookups.{empty_paths}
use Rattle.number_tables.proofs.path_table.PathTable.new.Goals as goal

pub invariant_of-result : goal.invariant_of-result
invariant_of-result c = empty_paths c.new.result.items c.new-2.result.elements c.new.ensures.items c.new-2.ensures
