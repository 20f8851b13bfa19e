-- A revival leaves what this way to crash leaves, which is one of the pairs that a crash may leave.
use Rattle.std.proofs.Common.{Some, ap, ◌∙◌}
use Rattle.mld_io.specs.declared.banks.Leave.{Leave}
use Rattle.disk_model.specs.BankSteps.{BanksValue, memory_log}
use Rattle.disk_model.specs.CountedCalls.{leave_of}
use Rattle.disk_model.specs.SideSteps.{left_by}
use Rattle.disk_model.proofs.Logs.{cut_revives, cut_leaves}
use Rattle.disk_model.proofs.banks.MemoryBanksCrashBanks.revive.Goals as goal

pub returns-clause-cut : goal.returns-clause-cut
returns-clause-cut c = λ l is.
    cut_revives c.leave.result c.self.inside.store c.cut.new.self l c.cut.ensures.in_order c.cut.ensures.cut (ap (λ (b : BanksValue). Some (memory_log b)) c.self.view_is ∙ is)

pub returns-clause-leaves : goal.returns-clause-leaves
returns-clause-leaves c =
    cut_leaves c.leave.result c.self.inside.store c.cut.new.self c.cut.ensures.in_order c.cut.ensures.cut
    ∙ ap (λ (k : Leave). left_by k c.self.inside.store.first c.self.inside.store.steps) c.leave.ensures
    ∙ ap (λ (b : BanksValue). left_by (leave_of b.calls.arming) b.store.first b.store.steps) c.self.view_is
