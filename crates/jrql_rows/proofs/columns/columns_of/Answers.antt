use Rattle.std.proofs.Common.{◌∙◌, ◌++◌, ap, length, map}
use Rattle.std.specs.List.{range_with_len}
use Rattle.jrql_rows.proofs.ColumnLaws.{columns_are}
use Rattle.jrql_rows.proofs.columns.columns_of.Goals as goal

pub returns : goal.returns
returns c =
    columns_are c.args.names.now c.args.hidden c.in_ok-by_name.by_name.items c.sort_names.new.list.items c.add_hidden.new.numbers.items
    c.in_ok-by_name.ensures.numbers c.in_ok-by_name.ensures.names c.sort_names.ensures.same c.sort_names.ensures.by_name
    (c.in_ok-add_hidden.ensures
    ∙ ap (λ l. l ++ range_with_len (length c.args.names.now) c.args.hidden) (c.in_ok-numbers.ensures ∙ ap (map (λ pair. pair.1)) c.deref.ensures.value))
