use Rattle.std.proofs.Common.{◌≡◌, ◌∙◌, List, map, subst, ap, sym}
use Rattle.world_commands.specs.WorldBanks.{BankedState, BankedWorld, in_memory, banks_of_state, memory_of, AllBanksStandFor}
use Rattle.world_commands.specs.WorldEnds.{KeepAll}
use Rattle.net_world.specs.WorldSummary.{SummarizesAll}
use Rattle.net_world.proofs.EndLemmas.{all_stand}
use Rattle.net_world.proofs.SummaryLaws.{world_told}
use Rattle.net_world.proofs.worlds.World.into_summary.Goals as goal

pub returns-clause-tells : goal.returns-clause-tells
returns-clause-tells g c =
    let same : c.clones_of.result.items ≡ c.args.self.clones = c.clones_of.ensures ∙ ap (λ (r : BankedWorld g.row.B.Denot). r.clones) c.self.view_is in
    world_told (memory_of c.args.self) c.in_ok-summary.summary
    (subst (λ (cs : List (BankedState g.row.B.Denot)). SummarizesAll (map in_memory cs) c.in_ok-summary.summary.clones.items) same c.in_ok-summary.ensures.tells)

pub returns-clause-banks : goal.returns-clause-banks
returns-clause-banks g c =
    let same : c.clones_of.result.items ≡ c.args.self.clones = c.clones_of.ensures ∙ ap (λ (r : BankedWorld g.row.B.Denot). r.clones) c.self.view_is in
    c.in_ok-summary.ensures.banks ∙ ap (λ (l : List (BankedState g.row.B.Denot)). map banks_of_state l) same

pub returns-clause-stand : goal.returns-clause-stand
returns-clause-stand g c = λ world stands.
    let same : c.clones_of.result.items ≡ c.args.self.clones = c.clones_of.ensures ∙ ap (λ (r : BankedWorld g.row.B.Denot). r.clones) c.self.view_is in
    let given : c.in_ok-summary.banks.items ≡ map banks_of_state c.args.self.clones =
    c.in_ok-summary.ensures.banks ∙ ap (λ (l : List (BankedState g.row.B.Denot)). map banks_of_state l) same in
    let keeps = subst (λ (l : List (BankedState g.row.B.Denot)). KeepAll g.B.Banks.log l) same c.in_ok-summary.ensures.kept in
    subst (λ (l : List g.row.B.Denot). AllBanksStandFor g.B.Banks.log world l) (sym given)
    (all_stand g.B.Banks.log c.args.self g.met.B.CrashBanks.tells keeps world stands)
