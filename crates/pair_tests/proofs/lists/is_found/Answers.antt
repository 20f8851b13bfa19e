use Rattle.std.proofs.lemmas.Cmp.{nat_cmp_total}
use Rattle.std.specs.Ordering.{nat_cmp}
use Rattle.chunked_list.proofs.Parting.{parted_ascending}
use Rattle.pair_tests.proofs.lists.is_found.Goals as goal

pub between-requires-clause-first : goal.between-requires-clause-first
between-requires-clause-first c = parted_ascending nat_cmp nat_cmp_total 30 c.args.list.now.elements c.requires

pub between-requires-clause-second : goal.between-requires-clause-second
between-requires-clause-second c = parted_ascending nat_cmp nat_cmp_total 66 c.args.list.now.elements c.requires
