use Rattle.std.proofs.Common.{◌≡◌, List, [], ◌∷◌, Err, refl, subst}
use Rattle.clone_core.specs.clone_parts.KeptSteps.{KeptStep, Forked}
use Rattle.clone_core.specs.DurableCalls.{LeavesFronts}
use Rattle.net_world.proofs.FoundingFronts.{forks_alone}
use Rattle.net_world.proofs.founding.given_leaf.Goals as goal

pub unreachable-requires-in-Err-Closed : goal.unreachable-requires-in-Err-Closed
unreachable-requires-in-Err-Closed g c =
    absurd (cc (c.requires.opened, (c.in-Err-Closed.ensures.closed c.in-Err-Closed.field-0-0).0 (λ i. Err (c.in-Err-Closed.field-0-is i))))

pub returns-in-Err-Device-clause-left : goal.returns-in-Err-Device-clause-left
returns-in-Err-Device-clause-left g c =
    let durable = c.in-Err-Device.ensures.durable in
    let one : durable.0 ≡ Forked ∷ [] =
    forks_alone g.B.Banks.log g.B.Banks.meter c.args.first.now.local c.receive.new.self.local c.ask.result c.args.asker.now.asker.id c.in-Err-Device.field-0 durable.0 c.ask.ensures.asks c.in-Err-Device.field-0-is durable.1 in
    (refl, subst (λ (steps : List KeptStep). LeavesFronts g.B.Banks.log g.B.Banks.meter steps c.args.first.now c.receive.new.self.banks) one durable.2.moments)
