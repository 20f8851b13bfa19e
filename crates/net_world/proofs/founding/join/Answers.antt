use Rattle.std.proofs.Common.{refl}
use Rattle.std.proofs.lemmas.Result.{on_ok_weaker, IfErr-weaker}
use Rattle.mld_ops.specs.Messages.{give_value}
use Rattle.net_world.specs.Founding.{giving, taking}
use Rattle.world_commands.proofs.BankLemmas.{goes_on_same}
use Rattle.net_world.proofs.FoundingFronts.{giving_stops, making_stops}
use Rattle.net_world.proofs.FoundingLemmas.{gives_leaf}
use Rattle.net_world.proofs.founding.join.Goals as goal

pub taken_leaf-requires : goal.taken_leaf-requires
taken_leaf-requires g c =
    (c.type_bounds.sync-R, (give_value c.in-Ok.ensures.gives.0, gives_leaf c.args.asker.asker c.args.first.now.local c.given_leaf.new.first.local c.in-Ok.answer c.in-Ok.ensures.gives c.in-Ok.ensures.good))

pub returns-in-Ok : goal.returns-in-Ok
returns-in-Ok g c = record {
  giver = c.in-Ok.ensures.meter;
  taker = c.taken_leaf.ensures.meter;
  ok = on_ok_weaker c.taken_leaf.result.1 (λ taken. record {
    leaf = give_value c.in-Ok.ensures.gives.0;
    forks = c.in-Ok.ensures.gives.2;
    opened = c.in-Ok.ensures.opened;
    lives = taken (give_value c.in-Ok.ensures.gives.0) (gives_leaf c.args.asker.asker c.args.first.now.local c.given_leaf.new.first.local c.in-Ok.answer c.in-Ok.ensures.gives c.in-Ok.ensures.good);
  }) c.taken_leaf.ensures.taken;
  faults = taking c.in-Ok.ensures.faults c.taken_leaf.ensures.faults;
  left = IfErr-weaker c.taken_leaf.result.1 _ _ (λ fault stops.
      making_stops g.B.Banks.log g.B.Banks.meter c.args.number c.args.asker (give_value c.in-Ok.ensures.gives.0) c.args.first.now c.given_leaf.new.first c.taken_leaf.result.0 fault c.in-Ok.ensures.gives.2 c.in-Ok.ensures.opened
      (stops (give_value c.in-Ok.ensures.gives.0) (gives_leaf c.args.asker.asker c.args.first.now.local c.given_leaf.new.first.local c.in-Ok.answer c.in-Ok.ensures.gives c.in-Ok.ensures.good))) c.taken_leaf.ensures.left;
}

pub returns-in-Err : goal.returns-in-Err
returns-in-Err g c = record {
  giver = c.in-Err.ensures.meter;
  taker = goes_on_same (g.B.Banks.meter c.args.asker.banks);
  ok = tt;
  faults = giving c.in-Err.ensures.faults refl;
  left = giving_stops g.B.Banks.log g.B.Banks.meter c.args.number c.args.asker c.args.first.now c.given_leaf.new.first c.in-Err.fault c.in-Err.ensures.left;
}
