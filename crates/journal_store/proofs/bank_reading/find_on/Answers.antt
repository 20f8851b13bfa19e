use Rattle.journal_store.proofs.Reading.{metered_past}
use Rattle.journal_store.proofs.bank_reading.find_on.Goals as goal

pub returns-clause-meter : goal.returns-clause-meter
returns-clause-meter g c = metered_past 0 (g.B.Banks.meter c.args.banks.now) (g.B.Banks.meter c.read_bytes.new.banks) c.in_ok-bytes.bytes c.find_in.result c.find_in.ensures.quiet c.in_ok-bytes.ensures.meter
