use Rattle.std.proofs.Common.{◌≡◌, drop}
use Rattle.node_model.specs.Sending.{any_peer}
use Rattle.node_model.proofs.sending.has_peer.Given as goal

abbrev pub invariant-loop-one : goal.invariant-loop-one
invariant-loop-one l = any_peer (drop l.one-index l.list) ≡ any_peer l.list
