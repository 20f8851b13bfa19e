use Rattle.std.proofs.Common.{◌≡◌, ◌++◌, ◌+◌, ◌≤◌, map, length, vec_len, vec_capacity}
use Rattle.mld_model.specs.declared.CloneState.TheVariants as kinds
use Rattle.net_world.proofs.founding.absent_clones.Given as goal

abbrev pub invariant-loop-blank : goal.invariant-loop-blank
invariant-loop-blank g l =
    (l.clones.items ++ map (λ banks. kinds.Absent banks) l.blank-iterator.rest.items ≡ map (λ banks. kinds.Absent banks) l.fn.blanks.items)
    × (vec_len l.clones + length l.blank-iterator.rest.items ≤ vec_capacity l.clones)
