use Rattle.std.proofs.Common.{List, ℕ, subst}
use Rattle.node_model.specs.RequestLines.{SpellsRequest}
use Rattle.node_model.specs.Keepers.{Lives}
use Rattle.node_core.specs.NodeDeeds.{IsDueByCommand, IsDueByRequest}
use Rattle.node_core.proofs.CallLaws.{on_ok, on_err_as, goes_so, stops_so, takes_request}
use Rattle.node_core.proofs.answering.answer_loan.Goals as goal

pub returns-clause-done : goal.returns-clause-done
returns-clause-done g c =
    let old = c.args.clone.now in
    let at = c.in_ok-request in
    let spells = subst (λ (name : List ℕ). SpellsRequest name c.args.line.now at.request) c.domain.ensures.domain at.ensures.ok in
    on_ok c.do_request.result
    (λ goes one is. goes_so g.B.Banks.log g.B.Banks.meter old _ _ c.do_request.new.clone
    (takes_request (Lives old.generation old.local) one c.args.line.now c.args.exchange.now at.request c.greet_client-number.result c.greet_client-number.new.exchange
    c.do_request.new.exchange spells (c.greet_client-number.ensures one is)) goes)
    c.do_request.ensures.done

pub returns-clause-stopped : goal.returns-clause-stopped
returns-clause-stopped g c =
    let old = c.args.clone.now in
    let keeper = Lives old.generation old.local in
    let at = c.in_ok-request in
    let spells = subst (λ (name : List ℕ). SpellsRequest name c.args.line.now at.request) c.domain.ensures.domain at.ensures.ok in
    on_err_as c.do_request.result
    (stops_so g.B.Banks.log g.B.Banks.meter old (IsDueByCommand keeper at.request) (IsDueByRequest keeper c.args.line.now) c.do_request.new.clone.banks
    (λ steps due. (at.request, spells, due)))
    c.do_request.ensures.stopped
