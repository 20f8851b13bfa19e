use Rattle.std.proofs.Common.{arith, rules}
use Rattle.std.proofs.lemmas.Fn.{always_returns_same}
use Rattle.std.specs.Ordering.{is_lt}
use Rattle.reply_rows.specs.Rising.{row_order}
use Rattle.reply_rows.proofs.SearchLaws.{place_found, row_parted}
use Rattle.reply_rows.proofs.merging.place_of.Goals as goal

pub returns : goal.returns
returns c =
    place_found c.args.rows.now.items c.args.row.now c.partition_point.result (let l = c.partition_point.ensures.bound in omega (arith, l))
    (c.partition_point.ensures.partitioned (λ other. is_lt (row_order other c.args.row.now)) (always_returns_same _ _ _ (λ a r f k. search rules))
    (row_parted c.args.rows.now.items c.args.row.now c.requires))
