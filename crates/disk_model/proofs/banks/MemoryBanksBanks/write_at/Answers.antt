-- What reads give is what the log makes, and a bank that has caught a call stays stopped.
use Rattle.std.proofs.Common.{ℕ, ◌≤◌, List, length, refl, sym, subst}
use Rattle.disk_model.proofs.Logs.{read_by_log, write_stops}
use Rattle.disk_model.proofs.banks.MemoryBanksBanks.write_at.Goals as goal

pub write-requires : goal.write-requires
write-requires c = subst (λ (bytes : List ℕ). c.args.at ≤ length bytes) (sym (read_by_log c.args.side c.args.self.now _ refl)) (c.requires _ refl)

pub returns-clause-stops : goal.returns-clause-stops
returns-clause-stops c = write_stops c.args.side c.args.at c.args.piece.now c.args.self.now c.write.new.self c.write.result c.write.ensures.moves
