use Rattle.std.proofs.Common.{subst}
use Rattle.tree_clock.specs.Lists.{IsAscending}
use Rattle.mld_ops.specs.Tagged.{tagged_cmp}
use Rattle.clone_parts.proofs.MakingLaws.{local_ascends}
use Rattle.clone_core.specs.Banked.{BankedClone}
use Rattle.clone_core.specs.View.{local_of}
use Rattle.clone_core.proofs.clones.MldClone.pairs.Goals as goal

pub returns-clause-ascending : goal.returns-clause-ascending
returns-clause-ascending g c =
    subst (λ (clone : BankedClone _). IsAscending tagged_cmp clone.local.pairs) c.self.view_is (local_ascends (local_of c.self.inside) c.self.invariant.0)
