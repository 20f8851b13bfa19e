use Rattle.std.proofs.Common.{◌∙◌, ap}
use Rattle.mld_ops.specs.Messages.{message_value}
use Rattle.node_model.specs.Sending.{exchange_of, any_peer}
use Rattle.node_model.proofs.TellingLaws.{told_none}
use Rattle.node_model.proofs.parts.tell_others.Goals as goal

pub returns-then-not-has_peer : goal.returns-then-not-has_peer
returns-then-not-has_peer c =
    told_none (message_value c.args.message.now) (exchange_of c.args.parts.now) c.has_peer.result (c.has_peer.ensures ∙ ap any_peer c.deref.ensures.value) c.if-not-has_peer.true
