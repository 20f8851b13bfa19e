use Rattle.op_codec.specs.Entries.{entry_bytes, read_entry}
use Rattle.op_codec.specs.Stored.{IsStoredEntry}
use Rattle.op_codec.proofs.EntryTrips.{entry_back, entry_one}
use Rattle.op_codec.proofs.Sequences.{refuses_rightly}
use Rattle.op_codec.proofs.laws.one_entry.Goals as goal

pub returns-clause-back : goal.returns-clause-back
returns-clause-back c = entry_back

pub returns-clause-one : goal.returns-clause-one
returns-clause-one c = entry_one

pub returns-clause-refusals : goal.returns-clause-refusals
returns-clause-refusals c = refuses_rightly IsStoredEntry entry_bytes read_entry entry_back
