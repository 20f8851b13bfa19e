use Rattle.node_run.proofs.BeginLaws.{found_begins, found_short, anew_begins, anew_short, refused_short}
use Rattle.node_run.proofs.begins.begin.Goals as goal

pub returns-in-Live-clause-begun : goal.returns-in-Live-clause-begun
returns-in-Live-clause-begun g c =
    let at = c.in-Live in
    found_begins g.B.Banks.log c.args.words c.args.banks at.clone c.run_again.result c.run_again.ensures.ok at.ensures.tells at.ensures.opened at.ensures.synced at.ensures.moments

pub returns-in-Live-clause-short : goal.returns-in-Live-clause-short
returns-in-Live-clause-short g c =
    let at = c.in-Live in
    found_short g.B.Banks.log c.args.words c.args.banks at.clone c.run_again.result c.run_again.ensures.err at.ensures.tells at.ensures.synced at.ensures.moments

pub returns-in-Empty-clause-begun : goal.returns-in-Empty-clause-begun
returns-in-Empty-clause-begun g c =
    let at = c.in-Empty in
    anew_begins g.B.Banks.log c.args.words c.args.banks at.blank c.begin_anew.result c.begin_anew.ensures.begun at.ensures.tells at.ensures.synced at.ensures.moments

pub returns-in-Empty-clause-short : goal.returns-in-Empty-clause-short
returns-in-Empty-clause-short g c =
    let at = c.in-Empty in
    anew_short g.B.Banks.log c.args.words c.args.banks at.blank c.begin_anew.result c.begin_anew.ensures.short at.ensures.tells at.ensures.synced at.ensures.moments

pub returns-in-Refused-clause-short : goal.returns-in-Refused-clause-short
returns-in-Refused-clause-short g c =
    let at = c.in-Refused in
    rw c.mount_stop.ensures (refused_short g.B.Banks.log c.args.words c.args.banks at.banks at.fault at.ensures.tells at.ensures.synced at.ensures.moments)
