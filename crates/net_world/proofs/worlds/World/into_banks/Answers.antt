use Rattle.std.proofs.Common.{◌≡◌, ◌∙◌, ◌++◌, List, ap, sym, subst, map}
use Rattle.world_commands.specs.WorldBanks.{BankedState, BankedWorld, banks_of_state, AllBanksStandFor}
use Rattle.world_commands.specs.WorldEnds.{KeepAll}
use Rattle.net_world.proofs.EndLemmas.{all_stand}
use Rattle.net_world.proofs.worlds.World.into_banks.Goals as goal

pub returns-clause-stand : goal.returns-clause-stand
returns-clause-stand g c = λ world stands.
    let clones = c.self.inside.parts.clones.items in
    let same : clones ≡ c.args.self.clones = ap (λ (r : BankedWorld g.row.B.Denot). r.clones) c.self.view_is in
    let given : c.stop_all.new.banks.items ≡ map banks_of_state c.args.self.clones =
    c.stop_all.ensures.banks ∙ ap (λ (l : List g.row.B.Denot). l ++ map banks_of_state clones) c.in_ok-banks.ensures.items
    ∙ ap (λ (l : List (BankedState g.row.B.Denot)). map banks_of_state l) same in
    let keeps = subst (λ (l : List (BankedState g.row.B.Denot)). KeepAll g.B.Banks.log l) same c.stop_all.ensures.kept in
    subst (λ (l : List g.row.B.Denot). AllBanksStandFor g.B.Banks.log world l) (sym given)
    (all_stand g.B.Banks.log c.args.self g.met.B.CrashBanks.tells keeps world stands)
