use Rattle.std.proofs.Common.{◌∙◌, length, sym, ap}
use Rattle.jrql_rows.specs.KeptValues.{KeptValue}
use Rattle.jrql_rows.proofs.RowNumbers.{rows_length}
use Rattle.jrql_rows.proofs.kept.KeptRows.len.Goals as goal

pub returns : goal.returns
returns c =
    sym (rows_length c.self.inside.graph.now (length c.self.inside.columns.now) c.self.inside.rows c.self.inside.numbers.items)
    ∙ ap (λ (v : KeptValue). length v.rows) c.self.view_is
