use Rattle.std.proofs.Common.{subst}
use Rattle.mld_ops.specs.Messages.{message_value}
use Rattle.op_codec.specs.Agreement.{IsRefused}
use Rattle.op_codec.specs.MessageBytes.{read_message}
use Rattle.op_codec.specs.declared.faults.CodecFault.{CodecFault}
use Rattle.wire_frames.proofs.Spelled.{whole_spelled, more_spelled, none_spelled}
use Rattle.wire_frames.proofs.assembling.whole_message.Goals as goal

pub returns-then-end-bytes : goal.returns-then-end-bytes
returns-then-end-bytes c = more_spelled c.args.bytes.now (message_value c.in-Ok.message) c.in-Ok.end c.in-Ok.ensures.written c.if-end-bytes.true

pub returns-else-end-bytes : goal.returns-else-end-bytes
returns-else-end-bytes c = whole_spelled c.args.bytes.now (message_value c.in-Ok.message) c.in-Ok.end c.in-Ok.ensures.written c.if-end-bytes.false

pub returns-in-Err-NotInGrammar : goal.returns-in-Err-NotInGrammar
returns-in-Err-NotInGrammar c =
    none_spelled c.args.bytes.now _ (subst (λ (f : CodecFault). IsRefused (read_message 0 c.args.bytes.now) f) c.in-Err-NotInGrammar.field-0-is c.in-Err-NotInGrammar.ensures.agrees)
