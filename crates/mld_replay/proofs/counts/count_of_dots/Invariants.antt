use Rattle.std.proofs.Common.{◌≡◌, ◌≤◌, ◌+◌, ◌*◌, ◌^◌, drop}
use Rattle.mld_replay.specs.Counts.{count_of_dots}
use Rattle.mld_replay.proofs.counts.count_of_dots.Given as goal

abbrev pub invariant-loop-ticks : goal.invariant-loop-ticks
invariant-loop-ticks l = (l.dots + count_of_dots (drop l.ticks-index l.known) ≡ count_of_dots l.known) × (l.dots ≤ l.ticks-index * 2 ^ 32)
