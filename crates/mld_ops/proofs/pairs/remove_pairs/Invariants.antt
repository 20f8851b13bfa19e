use Rattle.std.proofs.Common.{◌≡◌, ◌≤◌, ◌↔◌, take, vec_len, vec_capacity}
use Rattle.mld_ops.specs.Tagged.{tagged_cmp}
use Rattle.mld_ops.specs.declared.tagged.Tagged.{Tagged}
use Rattle.tree_clock.specs.Lists.{Has, IsAscending}
use Rattle.mld_ops.proofs.pairs.remove_pairs.Given as goal

abbrev pub invariant-loop-delete : goal.invariant-loop-delete
invariant-loop-delete l = record {
  ascending : IsAscending tagged_cmp l.pairs.items;
  members : (pair : Tagged) → Has l.pairs.items pair ↔ (Has l.initial.pairs.items pair × ¬ Has (take l.delete-index l.deletes) pair);
  len : vec_len l.pairs ≤ vec_len l.initial.pairs;
  capacity : vec_capacity l.pairs ≡ vec_capacity l.initial.pairs;
}
