use Rattle.std.proofs.Common.{List, sym, subst}
use Rattle.std.proofs.lemmas.Result.{err_from_is_err_and}
use Rattle.mld_ops.specs.declared.tagged.Tagged.{Tagged}
use Rattle.clone_history.specs.PastStates.{MeansAsDots}
use Rattle.clone_history.proofs.TellingLaws.{closed_alike, open_ends, open_gives_too}
use Rattle.clone_history.proofs.past.as_of.Goals as goal

pub returns-in_err-graph-clause-closed : goal.returns-in_err-graph-clause-closed
returns-in_err-graph-clause-closed g c =
    let p = err_from_is_err_and c.from_residual.result c.from_residual.ensures.1 in
    rw (p.1, p.2) (closed_alike c.in_err-graph.field-0.0 c.args.clone.now.closed c.in_err-graph.ensures.closed)

pub returns-in_err-into_list-clause-closed : goal.returns-in_err-into_list-clause-closed
returns-in_err-into_list-clause-closed g c =
    let p = err_from_is_err_and c.from_residual-in_err-into_list.result c.from_residual-in_err-into_list.ensures.1 in
    rw p.1 (open_ends c.in_ok-graph.graph p.0 c.args.clone.now.closed c.in_ok-graph.ensures.closed p.2)

pub returns-clause-meaning : goal.returns-clause-meaning
returns-clause-meaning g c =
    subst (λ (ps : List Tagged). MeansAsDots c.args.clone.now.local c.args.clock.now.ticks ps) (sym c.in_ok-into_list.ensures.pairs) c.in_ok-graph.ensures.meaning

pub returns-clause-closed : goal.returns-clause-closed
returns-clause-closed g c = open_gives_too c.in_ok-graph.graph c.in_ok-into_list.field-0 c.args.clone.now.closed c.in_ok-graph.ensures.closed
