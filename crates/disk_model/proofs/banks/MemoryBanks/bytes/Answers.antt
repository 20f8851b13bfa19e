-- What reads give is what the log makes.
use Rattle.std.proofs.Common.{refl, ◌∙◌, ap}
use Rattle.disk_model.specs.BankSteps.{BanksValue, read_of}
use Rattle.disk_model.proofs.Logs.{read_by_log}
use Rattle.disk_model.proofs.banks.MemoryBanks.bytes.Goals as goal

pub returns : goal.returns
returns c = c.bytes.ensures ∙ ap (λ (b : BanksValue). read_of c.args.side b) c.self.view_is ∙ read_by_log c.args.side c.args.self.now _ refl
