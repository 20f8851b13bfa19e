use Rattle.std.proofs.Common.{arith, ◌∙◌, ap, insert, remove, List, ℕ}
use Rattle.world_commands.specs.WorldBanks.{BankedState}
use Rattle.world_commands.proofs.Places.{back_at}
use Rattle.world_commands.proofs.states.take_state.Goals as goal

pub returns-clause-back : goal.returns-clause-back
returns-clause-back g c = λ state.
    let items = c.args.clones.now.items in
    ap (λ (l : List (BankedState g.row.B.Denot)). insert l c.args.number state) (c.remove.ensures.items ∙ ap (λ (k : ℕ). remove items k) c.from.ensures)
    ∙ back_at items c.args.number state (omega (arith, c.requires))
