use Rattle.mld_ops.specs.Messages.{MessageValue}
use Rattle.node_model.specs.Sending.{IsPayload}
use Rattle.node_model.proofs.TellingLaws.{IsSending}
use Rattle.node_model.proofs.sending.send_to_peers.Given as goal

abbrev pub invariant-loop-one : goal.invariant-loop-one
invariant-loop-one l =
    (message : MessageValue) → IsPayload message l.payload → IsSending message l.fn.sent.items l.sent.items l.left.items l.one-iterator.rest.items l.fn.list.items
