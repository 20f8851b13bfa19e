use Rattle.std.proofs.Common.{rules}
use Rattle.std.proofs.lemmas.Fn.{always_returns_same}
use Rattle.reply_rows.specs.Rising.{row_order}
use Rattle.reply_rows.proofs.SearchLaws.{row_found}
use Rattle.reply_rows.proofs.row_orders.has_row.Goals as goal

pub returns : goal.returns
returns c =
    row_found c.args.rows.now c.args.row.now c.binary_search_by.result c.is_ok.result c.requires c.binary_search_by.ensures.bound
    (c.binary_search_by.ensures.position (λ other. row_order other c.args.row.now) (always_returns_same _ _ _ (λ a r f k. search rules)))
    c.is_ok.ensures.value
