use Rattle.std.proofs.Common.{Err}
use Rattle.schedule_replies.proofs.queries.reply_to_query.Goals as goal

pub unreachable-requires : goal.unreachable-requires
unreachable-requires g c = absurd (cc (c.requires.opened, (c.in-Err-Closed.ensures.closed c.in-Err-Closed.field-0-0).0 (λ i. Err (c.in-Err-Closed.field-0-is i))))
