use Rattle.std.proofs.Common.{arith, map}
use Rattle.std.proofs.lemmas.Result.{err_from_is_err_and}
use Rattle.world_commands.specs.WorldBanks.{banks_of_state}
use Rattle.net_world.proofs.FaultLemmas.{meters_then, quiet_then, then_fails}
use Rattle.net_world.proofs.SettledSteps.{rest_then}
use Rattle.net_world.proofs.founding.found_each.Goals as goal

pub returns-in_err-found_other-clause-meters : goal.returns-in_err-found_other-clause-meters
returns-in_err-found_other-clause-meters g c =
    meters_then g.B.Banks.meter (map banks_of_state c.args.clones.now.items) (map banks_of_state c.loop-number.clones.items) (map banks_of_state c.found_other.new.clones.items)
    c.loop-number.invariant.1 c.found_other.ensures.meters

pub returns-in_err-found_other-clause-faults : goal.returns-in_err-found_other-clause-faults
returns-in_err-found_other-clause-faults g c =
    let p = err_from_is_err_and c.from_residual-in_err-found_other.result c.from_residual-in_err-found_other.ensures.1 in
    rw (p.1, p.2) (then_fails g.B.Banks.meter (map banks_of_state c.args.clones.now.items) (map banks_of_state c.loop-number.clones.items) (map banks_of_state c.found_other.new.clones.items)
    c.in_err-found_other.field-0.0 c.loop-number.invariant.1 c.loop-number.invariant.2 c.in_err-found_other.ensures.faults)

pub loop-number-preserved : goal.loop-number-preserved
loop-number-preserved g c =
    let old = map banks_of_state c.args.clones.now.items in
    let mid = map banks_of_state c.loop-number.clones.items in
    let new = map banks_of_state c.found_other.new.clones.items in (
      c.in_ok-found_other.ensures.ok,
      meters_then g.B.Banks.meter old mid new c.loop-number.invariant.1 c.found_other.ensures.meters,
      quiet_then g.B.Banks.meter old mid new c.loop-number.invariant.1 c.loop-number.invariant.2 c.in_ok-found_other.ensures.faults,
      omega arith,
      omega (arith, c.loop-number-test.true),
      rest_then c.args.clones.now.items c.loop-number.clones.items c.found_other.new.clones.items c.loop-number.number c.loop-number.invariant.5 c.in_ok-found_other.ensures.rest,
    )

pub returns-in_err-found_other-clause-left : goal.returns-in_err-found_other-clause-left
returns-in_err-found_other-clause-left g c =
    let p = err_from_is_err_and c.from_residual-in_err-found_other.result c.from_residual-in_err-found_other.ensures.1 in
    rw (p.1, p.2) c.in_err-found_other.ensures.left
