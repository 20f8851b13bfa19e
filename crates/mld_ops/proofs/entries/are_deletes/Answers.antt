use Rattle.std.proofs.Common.{rules}
use Rattle.mld_ops.proofs.entries.are_deletes.Goals as goal

pub returns-then-all_covered : goal.returns-then-all_covered
returns-then-all_covered c = search rules
