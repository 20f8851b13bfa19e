use Rattle.std.proofs.Common.{drop}
use Rattle.std.specs.List.{AllByRecursion}
use Rattle.op_codec.specs.Stored.{IsShortEntry}
use Rattle.clone_parts.proofs.appending.are_short.Given as goal

abbrev pub invariant-loop-entry : goal.invariant-loop-entry
invariant-loop-entry l = AllByRecursion IsShortEntry (drop l.entry-index l.entries) → AllByRecursion IsShortEntry l.entries
