use Rattle.op_codec.specs.Clocks.{clock_bytes, read_clock}
use Rattle.op_codec.specs.Stored.{IsStoredClock}
use Rattle.op_codec.proofs.PairTrips.{clock_back, clock_one}
use Rattle.op_codec.proofs.Sequences.{refuses_rightly}
use Rattle.op_codec.proofs.laws.one_clock.Goals as goal

pub returns-clause-back : goal.returns-clause-back
returns-clause-back c = clock_back

pub returns-clause-one : goal.returns-clause-one
returns-clause-one c = clock_one

pub returns-clause-refusals : goal.returns-clause-refusals
returns-clause-refusals c = refuses_rightly IsStoredClock clock_bytes read_clock clock_back
