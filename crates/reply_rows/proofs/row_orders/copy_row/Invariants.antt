use Rattle.std.proofs.Common.{◌≡◌, take}
use Rattle.reply_rows.proofs.row_orders.copy_row.Given as goal

abbrev pub invariant-loop-place : goal.invariant-loop-place
invariant-loop-place l = l.places.items ≡ take l.place-index l.place-items
