-- What reads give is what the log makes.
use Rattle.std.proofs.Common.{◌≡◌, ℕ, ◌+◌, ◌≤◌, List, length, take, drop, OnOk, refl, sym, subst}
use Rattle.disk_model.proofs.Logs.{read_by_log}
use Rattle.disk_model.proofs.banks.MemoryBanksBanks.read_at.Goals as goal

pub read-requires : goal.read-requires
read-requires c = subst (λ (bytes : List ℕ). c.args.at + length c.args.out.now ≤ length bytes) (sym (read_by_log c.args.side c.args.self.now _ refl)) (c.requires _ refl)

pub returns-clause-bytes : goal.returns-clause-bytes
returns-clause-bytes c = λ l is.
    subst (λ (bytes : List ℕ). OnOk c.read.result (c.read.new.out ≡ take (length c.args.out.now) (drop c.args.at bytes))) (read_by_log c.args.side c.args.self.now l is) c.read.ensures.bytes
