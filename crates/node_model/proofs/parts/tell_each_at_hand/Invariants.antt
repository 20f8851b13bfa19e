use Rattle.std.proofs.Common.{◌≡◌, drop, map}
use Rattle.mld_ops.specs.Messages.{message_value}
use Rattle.node_model.specs.Exchanges.{telling_each}
use Rattle.node_model.specs.Sending.{exchange_of}
use Rattle.node_model.proofs.parts.tell_each_at_hand.Given as goal

abbrev pub invariant-loop-message : goal.invariant-loop-message
invariant-loop-message l =
    telling_each (map message_value (drop l.message-index l.messages)) (exchange_of l.parts) ≡ telling_each (map message_value l.messages) (exchange_of l.fn.parts)
