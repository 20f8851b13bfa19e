use Rattle.std.proofs.Common.{◌↔◌, IsTrue, subst}
use Rattle.mld_ops.specs.Messages.{snapshot_value}
use Rattle.mld_ops.specs.declared.messages.Give.{Give}
use Rattle.op_codec.specs.Stored.{IsShortSnapshot}
use Rattle.op_codec.proofs.short.is_short_message.Goals as goal

pub returns-in-Range : goal.returns-in-Range
returns-in-Range c = rw c.in-Range.is c.is_short_entry.ensures

pub returns-in-Snapshot : goal.returns-in-Snapshot
returns-in-Snapshot c = rw c.in-Snapshot.is c.is_short_snapshot.ensures

pub returns-in-JoinGive : goal.returns-in-JoinGive
returns-in-JoinGive c =
    rw c.in-JoinGive.is (subst (λ (give : Give). IsTrue c.is_short_snapshot-in-JoinGive.result ↔ IsShortSnapshot (snapshot_value give.snapshot)) c.give.ensures c.is_short_snapshot-in-JoinGive.ensures)
