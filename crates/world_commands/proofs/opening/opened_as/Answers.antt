use Rattle.std.proofs.Common.{Ok, refl, sym, subst}
use Rattle.crash_laws.specs.clone_core.declared.mounts.Mounted.{Mounted}
use Rattle.mld_model.specs.declared.CloneState.TheVariants as states
use Rattle.schedule_replies.specs.declared.replies.Reply.TheVariants as replies
use Rattle.world_commands.specs.OpeningBanks.{IsOpenedAs}
use Rattle.world_commands.proofs.opening.opened_as.Goals as goal

pub returns-in-Empty : goal.returns-in-Empty
returns-in-Empty g c =
    let P : Mounted g.row.B.Denot → Type 0 =
    λ mounted. IsOpenedAs c.args.named.domain c.args.named.properties.items c.args.number mounted (states.Asking c.new_asker-asker.result, Ok replies.Asking) in
    subst P (sym c.in-Empty.is)
    (record {
      asking = c.new_asker-asker.result;
      state = refl;
      banks = c.new_asker-asker.ensures.banks;
      begins = c.new_asker-asker.ensures.asker;
      answer = refl;
    })
