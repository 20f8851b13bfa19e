use Rattle.std.proofs.Common.{◌≡◌, drop, map}
use Rattle.mld_ops.specs.Messages.{CarriesEntry}
use Rattle.node_model.specs.Exchanges.{telling_peers_each}
use Rattle.node_model.specs.Sending.{exchange_of}
use Rattle.node_model.proofs.parts.tell_others_each.Given as goal

abbrev pub invariant-loop-entry : goal.invariant-loop-entry
invariant-loop-entry l =
    telling_peers_each (map CarriesEntry (drop l.entry-index l.entries)) (exchange_of l.parts) ≡ telling_peers_each (map CarriesEntry l.entries) (exchange_of l.fn.parts)
