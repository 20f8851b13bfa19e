use Rattle.std.proofs.Common.{◌≡◌, ◌+◌, ◌∙◌, List, arith, sym, subst, set, map, length}
use Rattle.std.proofs.lemmas.Option.{slice_get_within}
use Rattle.std.proofs.lemmas.Result.{on_ok_weaker, IfErr-weaker}
use Rattle.mld_model.specs.declared.CloneState.TheVariants as kinds
use Rattle.net_world.specs.Founding.{HasFaultsOfTwo, giving, taking, HasFaultsBy}
use Rattle.schedule_text.specs.ReadLines.{setup_of}
use Rattle.world_commands.specs.States.{HasState, Becomes, IsNewAsker}
use Rattle.world_commands.specs.WorldBanks.{BankedState, banks_of_state, MeterGoesOn, MetersGoOn}
use Rattle.world_commands.proofs.BankLemmas.{meters_set, faults_set, quiet_becomes}
use Rattle.net_world.proofs.FaultLemmas.{meters_then, faults_of, faults_then, then_faults}
use Rattle.net_world.proofs.FoundingFronts.{join_stops_by}
use Rattle.net_world.proofs.FoundingLemmas.{absent_there, giver_there, first_stays, comes_back, one_more}
use Rattle.net_world.proofs.SettledSteps.{other_rest}
use Rattle.net_world.proofs.founding.found_other.Given as given
use Rattle.net_world.proofs.founding.found_other.Goals as goal

pub take_blank-blank-requires : goal.take_blank-blank-requires
take_blank-blank-requires g c =
    absent_there (setup_of c.args.setup.now) c.args.number c.args.clones.now.items (omega (arith, c.requires.below, c.requires.setup.most)) c.requires.founded

pub join_first-state-requires : goal.join_first-state-requires
join_first-state-requires g c =
    let old = c.args.clones.now.items in
    let left = c.take_blank-blank.new.clones.items in
    let taken = c.take_blank-blank.ensures in
    let giver = giver_there (setup_of c.args.setup.now) c.args.number old c.new_asker-asker.result.asker c.requires.some c.requires.below c.requires.setup c.new_asker-asker.ensures.asker.id c.requires.founded in
    let inside = slice_get_within old c.args.number (kinds.Absent c.take_blank-blank.result) taken.was in
    let counted : length left + 1 ≡ length old = omega (arith, taken.len) in
    (c.type_bounds.sync-R, (giver.0, first_stays old left c.args.number (kinds.Absent c.take_blank-blank.result) c.requires.some inside counted (taken.back (kinds.Absent c.take_blank-blank.result)) ∙ giver.1, giver.2))

module _ (g : given.Over) (c : goal.After-put_state g) where
  abbrev state : BankedState g.row.B.Denot
  state = c.join_first-state.result.0

  abbrev between : List (BankedState g.row.B.Denot)
  between = set c.args.clones.now.items c.args.number state

  changes : Becomes c.args.clones.now.items between c.args.number (kinds.Absent c.take_blank-blank.result) state
      × Becomes between c.put_state.new.clones.items 0 (kinds.Live c.join_first-state.ensures.joins.was) (kinds.Live c.join_first-state.ensures.joins.now)
  changes =
      let counted : length c.take_blank-blank.new.clones.items + 1 ≡ length c.args.clones.now.items = omega (arith, c.take_blank-blank.ensures.len) in
      comes_back c.args.clones.now.items c.take_blank-blank.new.clones.items c.join_first-state.new.clones.items c.put_state.new.clones.items c.args.number
      (kinds.Absent c.take_blank-blank.result) state (kinds.Live c.join_first-state.ensures.joins.was) (kinds.Live c.join_first-state.ensures.joins.now)
      c.requires.some c.take_blank-blank.ensures.was counted c.take_blank-blank.ensures.back c.join_first-state.ensures.joins.becomes c.put_state.ensures

  taker : MeterGoesOn (g.B.Banks.meter c.take_blank-blank.result) (g.B.Banks.meter (banks_of_state state))
  taker = subst (λ (b : g.row.B.Denot). MeterGoesOn (g.B.Banks.meter b) (g.B.Banks.meter (banks_of_state state))) c.new_asker-asker.ensures.banks c.join_first-state.ensures.joins.joins.taker

  first : MetersGoOn g.B.Banks.meter (map banks_of_state c.args.clones.now.items) (map banks_of_state between)
  first = meters_set g.B.Banks.meter c.args.clones.now.items between c.args.number (kinds.Absent c.take_blank-blank.result) state changes.0 taker

  second : MetersGoOn g.B.Banks.meter (map banks_of_state between) (map banks_of_state c.put_state.new.clones.items)
  second = meters_set g.B.Banks.meter between c.put_state.new.clones.items 0 (kinds.Live c.join_first-state.ensures.joins.was) (kinds.Live c.join_first-state.ensures.joins.now) changes.1
      c.join_first-state.ensures.joins.joins.giver

-- the first clone before it was asked, and the one who asks
module _ (g : given.Over) (c : goal.After-put_state g) where
  at_first : HasState c.args.clones.now.items 0 (kinds.Live c.join_first-state.ensures.joins.was)
  at_first =
      let old = c.args.clones.now.items in
      let left = c.take_blank-blank.new.clones.items in
      let taken = c.take_blank-blank.ensures in
      let inside = slice_get_within old c.args.number (kinds.Absent c.take_blank-blank.result) taken.was in
      let counted : length left + 1 ≡ length old = omega (arith, taken.len) in
      sym (first_stays old left c.args.number (kinds.Absent c.take_blank-blank.result) c.requires.some inside counted (taken.back (kinds.Absent c.take_blank-blank.result))) ∙ c.join_first-state.ensures.joins.becomes.was

  begins : IsNewAsker (setup_of c.args.setup.now).domain (setup_of c.args.setup.now).properties c.args.number c.new_asker-asker.result.asker
  begins = subst (λ (p : List _). IsNewAsker c.args.setup.now.domain p c.args.number c.new_asker-asker.result.asker) (c.in_ok-named.ensures.properties ∙ c.as_slice.ensures.value)
      (subst (λ (d : List _). IsNewAsker d c.in_ok-named.named.properties.items c.args.number c.new_asker-asker.result.asker) c.in_ok-named.ensures.domain c.new_asker-asker.ensures.asker)

pub returns-clause-ok : goal.returns-clause-ok
returns-clause-ok g c = on_ok_weaker c.join_first-state.result.1 (λ takes.
    let joins = c.join_first-state.ensures.joins in
    one_more (setup_of c.args.setup.now) c.args.number c.args.clones.now.items c.put_state.new.clones.items c.new_asker-asker.result.asker joins.was joins.now (state g c) c.requires.setup c.requires.some (begins g c)
    c.requires.founded (at_first g c) takes (changes g c).1.now) c.join_first-state.ensures.joins.joins.ok

pub returns-clause-left : goal.returns-clause-left
returns-clause-left g c =
    let joins = c.join_first-state.ensures.joins in
    IfErr-weaker c.join_first-state.result.1 _ _ (λ fault stops.
    join_stops_by g.B.Banks.log g.B.Banks.meter g.met.B.CrashBanks.tells (setup_of c.args.setup.now) c.args.number c.args.clones.now.items c.put_state.new.clones.items c.new_asker-asker.result
    c.take_blank-blank.result joins.was joins.now (state g c) fault c.requires.setup c.requires.some c.requires.below (begins g c) c.requires.founded (at_first g c) c.take_blank-blank.ensures.was
    (changes g c).1.now stops) joins.joins.left

pub returns-clause-meters : goal.returns-clause-meters
returns-clause-meters g c =
    meters_then g.B.Banks.meter (map banks_of_state c.args.clones.now.items) (map banks_of_state (between g c)) (map banks_of_state c.put_state.new.clones.items) (first g c) (second g c)

-- the faults of the two clones, one after the other
both_faults : (g : given.Over) (c : goal.After-put_state g)
    → HasFaultsOfTwo c.args.number (g.B.Banks.meter c.join_first-state.ensures.joins.was.banks) (g.B.Banks.meter c.join_first-state.ensures.joins.now.banks)
    (g.B.Banks.meter c.take_blank-blank.result) (g.B.Banks.meter (banks_of_state (state g c))) c.join_first-state.result.1
    → HasFaultsBy g.B.Banks.meter (map banks_of_state c.args.clones.now.items) (map banks_of_state c.put_state.new.clones.items) c.join_first-state.result.1
both_faults g c (giving gave quiet) =
    let meter = g.B.Banks.meter in
    let joins = c.join_first-state.ensures.joins in
    let old = c.args.clones.now.items in
    let new = c.put_state.new.clones.items in
    then_faults meter (map banks_of_state old) (map banks_of_state (between g c)) (map banks_of_state new) c.join_first-state.result.1 (first g c)
    (quiet_becomes meter old (between g c) c.args.number (kinds.Absent c.take_blank-blank.result) (state g c) (changes g c).0 quiet)
    (faults_of meter 0 (map banks_of_state (between g c)) (map banks_of_state new) c.join_first-state.result.1
    (faults_set meter (between g c) new 0 (kinds.Live joins.was) (kinds.Live joins.now) c.join_first-state.result.1 (changes g c).1 gave))
both_faults g c (taking quiet took) =
    let meter = g.B.Banks.meter in
    let joins = c.join_first-state.ensures.joins in
    let old = c.args.clones.now.items in
    let new = c.put_state.new.clones.items in
    faults_then meter (map banks_of_state old) (map banks_of_state (between g c)) (map banks_of_state new) c.join_first-state.result.1 (first g c)
    (faults_of meter c.args.number (map banks_of_state old) (map banks_of_state (between g c)) c.join_first-state.result.1
    (faults_set meter old (between g c) c.args.number (kinds.Absent c.take_blank-blank.result) (state g c) c.join_first-state.result.1 (changes g c).0 took))
    (second g c)
    (quiet_becomes meter (between g c) new 0 (kinds.Live joins.was) (kinds.Live joins.now) (changes g c).1 quiet)

pub returns-clause-faults : goal.returns-clause-faults
returns-clause-faults g c =
    let meter = g.B.Banks.meter in
    let joins = c.join_first-state.ensures.joins in
    both_faults g c
    (subst (λ (b : g.row.B.Denot). HasFaultsOfTwo c.args.number (meter joins.was.banks) (meter joins.now.banks) (meter b) (meter (banks_of_state (state g c))) c.join_first-state.result.1)
    c.new_asker-asker.ensures.banks joins.joins.faults)

pub returns-clause-rest : goal.returns-clause-rest
returns-clause-rest g c = on_ok_weaker c.join_first-state.result.1 (λ takes.
    other_rest c.args.clones.now.items c.put_state.new.clones.items c.args.number (state g c) (kinds.Live c.join_first-state.ensures.joins.now) (changes g c).1.now) c.join_first-state.ensures.joins.joins.ok
