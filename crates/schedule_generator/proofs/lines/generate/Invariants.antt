use Rattle.std.proofs.Common.{◌≡◌, ◌+◌, ◌-◌, ◌++◌}
use Rattle.schedule_generator.specs.Generated.{lines_from, generated}
use Rattle.schedule_generator.proofs.lines.generate.Given as goal

abbrev pub invariant-loop-number : goal.invariant-loop-number
invariant-loop-number l = l.lines.items ++ lines_from (l.number + 1) l.draws.state (l.n - l.number) ≡ generated l.seed l.n
