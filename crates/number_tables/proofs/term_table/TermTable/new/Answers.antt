use Rattle.number_tables.proofs.Standings.{empty_table}
use Rattle.number_tables.proofs.term_table.TermTable.new.Goals as goal

pub invariant_of-result : goal.invariant_of-result
invariant_of-result c =
    empty_table c.new.result.items c.new-2.result.items c.new-3.result.items c.new-4.result.elements c.new.ensures.items c.new-2.ensures.items c.new-4.ensures
