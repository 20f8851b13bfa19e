use Rattle.std.proofs.Common.{arith}
use Rattle.reply_rows.proofs.moves.moved.Goals as goal

pub with-requires-clause-room : goal.with-requires-clause-room
with-requires-clause-room c = let a = c.requires.room.whole in let b = c.without.ensures.len in omega (arith, a, b)
