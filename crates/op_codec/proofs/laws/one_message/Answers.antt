use Rattle.op_codec.specs.MessageBytes.{message_bytes, read_message}
use Rattle.op_codec.specs.Stored.{IsMessage}
use Rattle.op_codec.proofs.MessageTrips.{message_back, message_one, good_message}
use Rattle.op_codec.proofs.Sequences.{refuses_rightly}
use Rattle.op_codec.proofs.laws.one_message.Goals as goal

pub returns-clause-back : goal.returns-clause-back
returns-clause-back c = message_back

pub returns-clause-one : goal.returns-clause-one
returns-clause-one c = message_one

pub returns-clause-refusals : goal.returns-clause-refusals
returns-clause-refusals c = refuses_rightly IsMessage message_bytes read_message message_back

pub returns-clause-good : goal.returns-clause-good
returns-clause-good c = good_message
