use Rattle.std.proofs.Common.{List, subst}
use Rattle.tree_clock.specs.Lists.{IsAscending}
use Rattle.mld_ops.specs.declared.tagged.Tagged.{Tagged}
use Rattle.mld_ops.specs.Tagged.{tagged_cmp}
use Rattle.graph_cases.proofs.lists.graph_of.Goals as goal

pub from_list-requires : goal.from_list-requires
from_list-requires c =
    subst (λ (pairs : List Tagged). IsAscending tagged_cmp pairs) c.deref.ensures.value (c.is_ascending.ensures.0 c.if-is_ascending.true)
