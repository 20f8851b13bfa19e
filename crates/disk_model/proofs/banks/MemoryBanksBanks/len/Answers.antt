-- What reads give is what the log makes.
use Rattle.std.proofs.Common.{◌≡◌, ℕ, List, length, IfOk, subst}
use Rattle.disk_model.proofs.Logs.{read_by_log}
use Rattle.disk_model.proofs.banks.MemoryBanksBanks.len.Goals as goal

pub returns-clause-length : goal.returns-clause-length
returns-clause-length c = λ l is. subst (λ (bytes : List ℕ). IfOk c.size.result (λ n. n ≡ length bytes)) (read_by_log c.args.side c.args.self.now l is) c.size.ensures.length
