use Rattle.std.proofs.Common.{◌≡◌, ◌≤◌, ◌+◌, length, vec_capacity}
use Rattle.mld_model.specs.World.{clone_count}
use Rattle.mld_replay.proofs.BlankLemmas.{IsBlanking}
use Rattle.mld_replay.proofs.blanks.blanks_of.Given as goal

abbrev pub invariant-loop-one : goal.invariant-loop-one
invariant-loop-one g l = record {
  blanking : IsBlanking g.B.Banks.log g.B.Banks.meter l.fn.banks.items l.blanks.items l.rest.items l.number;
  count : length l.blanks.items + length l.rest.items ≡ clone_count;
  room : clone_count ≤ vec_capacity l.blanks;
}

abbrev pub decreases-loop-one : goal.decreases-loop-one
decreases-loop-one g l = length l.rest.items
