use Rattle.std.proofs.Common.{ℕ, MatchResult, sym, ap, subst, arith}
use Rattle.mld_ops.specs.Messages.{MessageValue, message_value}
use Rattle.op_codec.specs.Agreement.{IsRead, IsRefused}
use Rattle.op_codec.specs.MessageBytes.{message_bytes, read_carried, read_message}
use Rattle.op_codec.specs.Reading.{Reading, chain}
use Rattle.op_codec.specs.Stored.{IsMessage}
use Rattle.op_codec.proofs.MessageTrips.{message_one}
use Rattle.op_codec.proofs.ReadWritten.{written_if_ok}
use Rattle.op_codec.proofs.messages.read_message.Goals as goal

pub returns-clause-agrees : goal.returns-clause-agrees
unfolding read_message
returns-clause-agrees c =
    subst (λ (reading : Reading MessageValue). MatchResult c.read_carried.result (λ read. IsRead reading c.args.input.now (message_value read.0) read.1) (IsRefused reading))
    (sym (ap (λ (r : Reading ℕ). chain r (λ kind next rest. read_carried c.args.at kind next rest)) c.in_ok-kind.ensures.found)) c.read_carried.ensures

pub returns-clause-written : goal.returns-clause-written
returns-clause-written c =
    written_if_ok IsMessage message_bytes read_message message_one c.args.input.now c.args.at (λ k. omega (arith, c.type_inv.input k)) message_value c.read_carried.result (returns-clause-agrees c)
