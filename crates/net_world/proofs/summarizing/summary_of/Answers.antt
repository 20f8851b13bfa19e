use Rattle.std.proofs.Common.{OnOk, sym, subst}
use Rattle.world_commands.specs.WorldEnds.{KeepsState}
use Rattle.net_world.proofs.SummarizingLaws.{live_keeps}
use Rattle.net_world.proofs.summarizing.summary_of.Goals as goal

pub returns-in-Live-clause-kept : goal.returns-in-Live-clause-kept
returns-in-Live-clause-kept g c =
    subst (λ state. OnOk c.summary_of_live.result (KeepsState g.B.Banks.log state)) (sym c.in-Live.is)
    (live_keeps g.B.Banks.log c.summary_of_live.result c.in-Live.live c.summary_of_live.ensures.banks c.summary_of_live.ensures.kept)
