use Rattle.std.proofs.Common.{◌≡◌, take}
use Rattle.jrql_reply.specs.Columns.{columns_from}
use Rattle.jrql_reply.proofs.columns.columns_of.Given as goal

abbrev pub invariant-loop-place : goal.invariant-loop-place
invariant-loop-place l = l.columns.items ≡ columns_from l.names 0 (take l.place l.variables)
