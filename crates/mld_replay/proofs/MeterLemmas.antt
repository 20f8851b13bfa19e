-- The meters of banks, from call to call.
use Rattle.std.proofs.Common.{◌≡◌, ◌≢◌, ℕ, List, refl, sym, ◌∙◌, ap, arith, subst, length, Option, Some, get_or, Err, inl, inr}
use Rattle.std.specs.Prelude.{slice_get}
use Rattle.std.proofs.lemmas.Option.{slice_get_within, slice_get-get_or}
use Rattle.mld_io.specs.Arm.{Meter, Unarmed}
use Rattle.net_world.specs.world_commands.WorldBanks.{MeterGoesOn, MetersGoOn, HadNoFaults, HasFailed, HasFaultsFor, RefusesFounding}
use Rattle.net_world.specs.CrashedWorlds.{AreUnarmed}
use Rattle.net_world.specs.world_commands.declared.faults.WorldFault.{WorldFault}
use Rattle.net_world.specs.world_commands.declared.faults.WorldFault.TheVariants as worlds
use Rattle.net_world.proofs.FaultLemmas.{goes_then, fault_later}
use Rattle.schedule_text.specs.declared.refusals.LineRefusal.{LineRefusal}
use Rattle.schedule_text.specs.declared.refusals.LineRefusal.TheVariants as refusals
use Rattle.mld_replay.specs.BankFaults.{ComeBackWell, HaveFailed, HadRealFault, AreLeft, none_left, all_left, BringsBack, ReturnsBanks}
use Rattle.mld_replay.specs.Stops.{StopBringsBack, stop_of, stop_of_world, fault_at_line}
use Rattle.mld_replay.specs.declared.stops.LineStop.{LineStop}
use Rattle.mld_replay.specs.declared.stops.LineStop.TheVariants as stops
use Rattle.mld_replay.specs.declared.run.RunFault.{RunFault}
use Rattle.mld_replay.specs.declared.run.RunFault.TheVariants as faults

some_is : {B : Type 0} {one other : B} → ◌≡◌ {A = Option B} (Some one) (Some other) → one ≡ other
some_is same = cc

pub goes_on_same : (meter : Meter) → MeterGoesOn meter meter
goes_on_same meter = record { later = omega arith; unarmed = λ is. is; caught = λ is. is }

-- nothing was called
pub meters_same : {B : Type 0} (meter : B → Meter) (banks : List B) → MetersGoOn meter banks banks
meters_same {B = B} meter banks = record {
  count = refl;
  each = λ number was now was_at now_at.
      let same : was ≡ now = some_is (sym was_at ∙ now_at) in
      subst (λ (one : B). MeterGoesOn (meter was) (meter one)) same (goes_on_same (meter was));
}

-- what was there at a number before is there later
there_later : {B : Type 0} (old new : List B) (number : ℕ) (was : B) → length new ≡ length old → slice_get old number ≡ Some was → (now : B) × (slice_get new number ≡ Some now)
there_later old new number was count at = (get_or new number was, slice_get-get_or new number was (omega (arith, count, slice_get_within old number was at)))

-- one call after another
pub meters_then : {B : Type 0} (meter : B → Meter) (old middle new : List B) → MetersGoOn meter old middle → MetersGoOn meter middle new → MetersGoOn meter old new
meters_then meter old middle new one two = record {
  count = two.count ∙ one.count;
  each = λ number was now was_at now_at.
      let there = there_later old middle number was one.count was_at in
      goes_then (meter was) (meter there.0) (meter now) (one.each number was there.0 was_at there.1) (two.each number there.0 now there.1 now_at);
}

-- what isn't armed stays so
pub unarmed_later : {B : Type 0} (meter : B → Meter) (old new : List B) → MetersGoOn meter old new → AreUnarmed meter old → AreUnarmed meter new
unarmed_later meter old new goes unarmed number now now_at =
    let there = there_later new old number now (sym goes.count) now_at in
    (goes.each number there.0 now there.1 now_at).unarmed (unarmed number there.0 there.1)

pub quiet_same : {B : Type 0} (meter : B → Meter) (banks : List B) → HadNoFaults meter banks banks
quiet_same {B = B} meter banks number was now was_at now_at = ap (λ (one : B). (meter one).real_faults) (some_is (sym now_at ∙ was_at))

pub quiet_then : {B : Type 0} (meter : B → Meter) (old middle new : List B) → MetersGoOn meter old middle → HadNoFaults meter old middle → HadNoFaults meter middle new → HadNoFaults meter old new
quiet_then meter old middle new goes one two number was now was_at now_at =
    let there = there_later old middle number was goes.count was_at in
    two number there.0 now there.1 now_at ∙ one number was there.0 was_at there.1

pub well_same : {B : Type 0} (meter : B → Meter) (banks : List B) → ComeBackWell meter banks banks
well_same meter banks = record { meters = meters_same meter banks; quiet = quiet_same meter banks }

pub well_then : {B : Type 0} (meter : B → Meter) (old middle new : List B) → ComeBackWell meter old middle → ComeBackWell meter middle new → ComeBackWell meter old new
well_then meter old middle new one two = record { meters = meters_then meter old middle new one.meters two.meters; quiet = quiet_then meter old middle new one.meters one.quiet two.quiet }

-- a fault since a later time is one since an earlier one
pub failed_later : {B : Type 0} (meter : B → Meter) (clone : ℕ) (old middle new : List B) → ComeBackWell meter old middle → HasFailed meter clone middle new → HasFailed meter clone old new
failed_later meter clone old middle new well fails =
    let there = there_later middle old clone fails.was (sym well.meters.count) fails.before in
    record {
      was = there.0;
      now = fails.now;
      before = there.1;
      behind = fails.behind;
      fault = fault_later (meter there.0) (meter fails.was) (meter fails.now) (well.quiet clone there.0 fails.was there.1 fails.before) fails.fault;
      others = λ other one two differs one_at two_at.
          let between = there_later old middle other one well.meters.count one_at in
          fails.others other between.0 two differs between.1 two_at ∙ well.quiet other one between.0 one_at between.1;
    }

pub have_failed_later : {B : Type 0} (meter : B → Meter) (clone : ℕ) (old middle new : List B) → ComeBackWell meter old middle → HaveFailed meter clone middle new → HaveFailed meter clone old new
have_failed_later meter clone old middle new well fails =
    record { meters = meters_then meter old middle new well.meters fails.meters; failed = failed_later meter clone old middle new well fails.failed }

left_later : {B : Type 0} (meter : B → Meter) (old middle new : List B) → ComeBackWell meter old middle → AreLeft meter middle new → AreLeft meter old new
left_later meter old middle new well (none_left none) = none_left none
left_later meter old middle new well (all_left then) = all_left (well_then meter old middle new well then)

-- so it is of what a line and a run bring back
pub stop_later : {B : Type 0} (meter : B → Meter) (old middle new : List B) (stop : LineStop) → ComeBackWell meter old middle → StopBringsBack meter middle new stop → StopBringsBack meter old new stop
stop_later meter old middle new (stops.Device clone) well back = have_failed_later meter clone old middle new well back
stop_later meter old middle new stops.NoMemory well back = left_later meter old middle new well back
stop_later meter old middle new stop well back = well_then meter old middle new well back

pub back_later : {B : Type 0} (meter : B → Meter) (old middle new : List B) (fault : Option RunFault) → ComeBackWell meter old middle → BringsBack meter middle new fault → BringsBack meter old new fault
back_later meter old middle new (Some (faults.Device clone)) well back = have_failed_later meter clone old middle new well back
back_later meter old middle new (Some faults.NoMemory) well back = left_later meter old middle new well back
back_later meter old middle new fault well back = well_then meter old middle new well back

-- no call had a fault, and none is told
pub back_well : {B : Type 0} (meter : B → Meter) (old new : List B) (fault : RunFault) → ((clone : ℕ) → fault ≢ faults.Device clone) → ComeBackWell meter old new → BringsBack meter old new (Some fault)
back_well meter old new (faults.Device clone) differs well = absurd (differs clone refl)
back_well meter old new faults.NoMemory differs well = all_left well
back_well meter old new fault differs well = well

pub back_same : {B : Type 0} (meter : B → Meter) (banks : List B) (fault : RunFault) → ((clone : ℕ) → fault ≢ faults.Device clone) → BringsBack meter banks banks (Some fault)
back_same meter banks fault differs = back_well meter banks banks fault differs (well_same meter banks)

-- what a world refuses, a line does
pub world_stops : {B : Type 0} (T : Type 0) (meter : B → Meter) (number : ℕ) (old new : List B) (fault : WorldFault) → MetersGoOn meter old new → HasFaultsFor {T = T} number meter old new (Err fault)
    → StopBringsBack meter old new (stop_of_world fault)
world_stops {B = B} T meter number old new (worlds.Device clone) goes fails = record { meters = goes; failed = subst (λ (k : ℕ). HasFailed meter k old new) (sym fails.0) fails.1 }
world_stops T meter number old new worlds.NoMemory goes quiet = all_left (record { meters = goes; quiet = quiet })

-- and what founding refuses
pub founding_stops : {B : Type 0} (meter : B → Meter) (blanks back : List B) (fault : WorldFault) → RefusesFounding meter blanks fault back → StopBringsBack meter blanks back (stop_of_world fault)
founding_stops meter blanks back worlds.NoMemory refuses = none_left refuses
founding_stops meter blanks back (worlds.Device clone) refuses = record { meters = refuses.0; failed = refuses.1 }

-- a line that was not read called nothing
pub unread_stops : {B : Type 0} (meter : B → Meter) (banks : List B) (refusal : LineRefusal) → StopBringsBack meter banks banks (stop_of refusal)
unread_stops meter banks refusals.BadLine = well_same meter banks
unread_stops meter banks refusals.NoMemory = all_left (well_same meter banks)

-- and what ends a line, ends the run
pub run_of_stop : {B : Type 0} (meter : B → Meter) (old new : List B) (stop : LineStop) (number : ℕ) → StopBringsBack meter old new stop → BringsBack meter old new (Some (fault_at_line stop number))
run_of_stop meter old new stops.BadLine number back = back
run_of_stop meter old new (stops.Device clone) number back = back
run_of_stop meter old new stops.NoMemory number back = back

-- banks that are not armed catch no call, so the fault of a clone's was a real one
real_fault : {B : Type 0} (meter : B → Meter) (clone : ℕ) (old new : List B) → AreUnarmed meter old → HaveFailed meter clone old new → HadRealFault meter clone old new
real_fault meter clone old new unarmed fails =
    let f = fails.failed in
    let now_unarmed : (meter f.now).arm ≡ Unarmed = (fails.meters.each clone f.was f.now f.before f.behind).unarmed (unarmed clone f.was f.before) in
    record {
      meters = fails.meters;
      was = f.was;
      now = f.now;
      before = f.before;
      behind = f.behind;
      fault = elim f.fault [
        | inl caught ↦ absurd (cc (sym caught ∙ now_unarmed))
        | inr rose ↦ rose
      ];
      others = f.others;
    }

pub back_unarmed : {B : Type 0} (meter : B → Meter) (old new : List B) (fault : Option RunFault) → AreUnarmed meter old → BringsBack meter old new fault → ReturnsBanks meter old new fault
back_unarmed meter old new (Some (faults.Device clone)) unarmed back = real_fault meter clone old new unarmed back
back_unarmed meter old new (Some faults.NoMemory) unarmed back = back
back_unarmed meter old new fault unarmed back = back
