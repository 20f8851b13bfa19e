use Rattle.std.proofs.Common.{◌≡◌, ◌++◌, take, drop}
use Rattle.jrql_patterns.specs.QueryReading.{placed}
use Rattle.jrql_patterns.proofs.columns.place_for.Given as goal

abbrev pub invariant-loop-place : goal.invariant-loop-place
invariant-loop-place l =
    placed l.names.named l.number l.others ≡ take l.place l.others ++ placed l.names.named l.number (drop l.place l.others)
