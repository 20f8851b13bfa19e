use Rattle.std.proofs.Common.{List, ℕ, subst}
use Rattle.node_model.specs.RequestLines.{SpellsRequest}
use Rattle.node_model.specs.Keepers.{Asks}
use Rattle.node_core.proofs.CallLaws.{on_ok, takes_request}
use Rattle.node_core.proofs.requests.reply_asking.Goals as goal

pub returns : goal.returns
returns g c =
    let asker = c.args.asker.now.asker in
    let at = c.in_ok-request in
    on_ok c.wait.result
    (λ waits one is. takes_request (Asks asker) one c.args.line.now c.args.exchange.now at.request c.greet_client-number.result c.greet_client-number.new.exchange c.wait.new.exchange
    (subst (λ (name : List ℕ). SpellsRequest name c.args.line.now at.request) c.domain.ensures.domain at.ensures.ok)
    (c.greet_client-number.ensures one is) _ _ (waits asker))
    c.wait.ensures
