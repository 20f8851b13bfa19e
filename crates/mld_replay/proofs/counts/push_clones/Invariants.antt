use Rattle.std.proofs.Common.{◌≡◌, ◌++◌, drop}
use Rattle.mld_replay.specs.Counts.{clone_lines}
use Rattle.mld_replay.proofs.counts.push_clones.Given as goal

abbrev pub invariant-loop-number : goal.invariant-loop-number
invariant-loop-number l = l.text.items ++ clone_lines l.number (drop l.number l.clones) ≡ l.initial.text.items ++ clone_lines 0 l.clones
