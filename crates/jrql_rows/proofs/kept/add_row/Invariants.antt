use Rattle.std.proofs.Common.{◌+◌, ◌-◌, ◌≤◌, length, take, vec_len, vec_capacity}
use Rattle.jrql_rows.specs.KeptValues.{AddsRow}
use Rattle.jrql_rows.proofs.kept.add_row.Given as goal

abbrev pub invariant-loop-variable : goal.invariant-loop-variable
invariant-loop-variable l = record {
  adds : AddsRow l.row.graph (take l.variable-index l.columns) l.row.row l.initial.numbers.items l.numbers.items;
  room : vec_len l.numbers + (length l.columns - l.variable-index) ≤ vec_capacity l.numbers;
}
