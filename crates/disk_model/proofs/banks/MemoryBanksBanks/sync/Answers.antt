-- A sync adds a step, or finds its side settled.
use Rattle.disk_model.proofs.Logs.{sync_done}
use Rattle.disk_model.proofs.banks.MemoryBanksBanks.sync.Goals as goal

pub returns-clause-done : goal.returns-clause-done
returns-clause-done c = λ l is. sync_done c.args.side c.args.self.now c.sync_side.new.self c.sync_side.result l c.sync_side.ensures is
