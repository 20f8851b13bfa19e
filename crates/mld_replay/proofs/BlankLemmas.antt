-- The banks that a run begins with.
use Rattle.std.proofs.Common.{◌≡◌, ◌≢◌, inl, inr, ℕ, zero, suc, ◌+◌, ◌<◌, ◌≤◌, List, [], ◌∷◌, ◌++◌, length, append_assoc, slice_set, get_or, arith, refl, sym, ◌∙◌, ap, subst, Option, None, Some}
use Rattle.std.specs.Prelude.{slice_get, IsSome}
use Rattle.std.proofs.lemmas.Bool.{false≢true, cases_lt}
use Rattle.std.proofs.lemmas.List.{nil_from_length, append-nil, length-append}
use Rattle.std.proofs.lemmas.Option.{slice_get_within, slice_get-get_or}
use Rattle.mld_io.specs.Arm.{Meter}
use Rattle.mld_io.specs.Disk.{Log, Sides, seen, MayLeave}
use Rattle.clone_core.specs.journal_sides.Pairs.{PairReading, KeepsNone, Keeps, Damages, read_banks}
use Rattle.clone_core.specs.journal_sides.SideReadings.{read_side}
use Rattle.clone_core.specs.journal_store.declared.faults.MountFault.TheVariants.{Damaged, Device, NoMemory}
use Rattle.clone_core.specs.journal_store.Crashes.{LeavesNothingNew}
use Rattle.clone_core.specs.journal_store.Mounting.{IsSynced}
use Rattle.clone_core.specs.journal_store.Standing.{KeepsNothing, IsBlankLog}
use Rattle.clone_core.specs.Opening.{TellsClone}
use Rattle.clone_core.specs.declared.mounts.Mounted.{Mounted}
use Rattle.clone_core.specs.declared.mounts.Mounted.TheVariants.{Live, Empty, Refused}
use Rattle.net_world.specs.world_commands.WorldBanks.{MeterGoesOn, MetersGoOn, HadNoFault, HadNoFaults, HasFailed, HadFault}
use Rattle.mld_replay.specs.Filled.{IsFilled, IsFirstFilled, LogsStay}
use Rattle.mld_replay.specs.Looking.{AreEmpty, AreEmptyBefore, StopsLookingAt, StopsLooking}
use Rattle.net_world.proofs.of_world_commands.StopLemmas.{told_log}
use Rattle.net_world.specs.SettledWorlds.{AreBlank}
use Rattle.net_world.proofs.CaughtLemmas.{now_left}
use Rattle.mld_replay.specs.BanksLeft.{LeavesLess, LeaveNoMore}
use Rattle.mld_replay.specs.BankFaults.{ComeBackWell, HaveFailed, all_left, BringsBack}
use Rattle.mld_replay.specs.declared.run.RunFault.{RunFault}
use Rattle.mld_replay.specs.declared.run.RunFault.TheVariants as faults
use Rattle.mld_replay.proofs.MeterLemmas.{goes_on_same, meters_same, meters_then, quiet_same, quiet_then, failed_later}
use Rattle.net_world.proofs.FaultLemmas.{fault_later}

-- ---- what a mount of banks without a byte tells

reads_none : (sides : Sides) → sides.a ≡ [] → sides.b ≡ [] → read_banks sides ≡ KeepsNone
unfolding read_banks read_side
reads_none sides a b = rw (a, b) refl

empty_reads : (now : Option Log) → ¬ IsFilled now → (log : Log) → now ≡ Some log → read_banks (seen log) ≡ KeepsNone
empty_reads now empty log is =
    reads_none (seen log) (nil_from_length (seen log).a (omega (arith, a))) (nil_from_length (seen log).b (omega (arith, b)))
  where
    a : ¬ (0 < length (seen log).a)
    a some = empty (record { log = log; now_is = is; bytes = inl some })

    b : ¬ (0 < length (seen log).b)
    b some = empty (record { log = log; now_is = is; bytes = inr some })

-- a mount found a clone, or damage
abbrev pub FindsBytes : {B : Type 0} → Mounted B → Type 0
FindsBytes (Live clone) = Unit {0}
FindsBytes (Empty blank) = ⊥
FindsBytes (Refused (Damaged side place) banks) = Unit {0}
FindsBytes (Refused Device banks) = ⊥
FindsBytes (Refused NoMemory banks) = ⊥

finds_not : {B : Type 0} (mounted : Mounted B) (reading : PairReading) → reading ≡ KeepsNone → TellsClone mounted reading → ¬ FindsBytes mounted
finds_not (Live clone) reading none tells finds = let both : Keeps _ ≡ KeepsNone = sym tells.reads ∙ none in absurd (cc (both))
finds_not (Empty blank) reading none tells finds = finds
finds_not (Refused (Damaged side place) banks) reading none tells finds = let both : Damages side place ≡ KeepsNone = sym tells ∙ none in absurd (cc (both))
finds_not (Refused Device banks) reading none tells finds = finds
finds_not (Refused NoMemory banks) reading none tells finds = finds

-- it does not where no side has a byte
pub empty_finds_not : {B : Type 0} (mounted : Mounted B) (now : Option Log) → IsSome now → ¬ IsFilled now → ((log : Log) → now ≡ Some log → TellsClone mounted (read_banks (seen log)))
    → ¬ FindsBytes mounted
empty_finds_not mounted None told empty tells finds = absurd (false≢true told)
empty_finds_not mounted (Some log) told empty tells finds = finds_not mounted (read_banks (seen log)) (empty_reads (Some log) empty log refl) (tells log refl) finds

-- ---- one of many banks changes

one_is : {B : Type 0} {one other : B} → ◌≡◌ {A = Option B} (Some one) (Some other) → one ≡ other
one_is same = cc

-- what holds of the old and the new one, and of each with itself, holds of all of them, number by number
set_at : {B : Type 0} (P : B → B → Type 0) (list : List B) (number : ℕ) (was now : B) → slice_get list number ≡ Some was → P was now → ((one : B) → P one one)
    → (place : ℕ) (x y : B) → slice_get list place ≡ Some x → slice_get (slice_set list number now) place ≡ Some y → P x y
set_at P [] number was now at holds same place x y x_at y_at = absurd (cc (at))
set_at {B = B} P (first ∷ rest) zero was now at holds same zero x y x_at y_at =
    subst (λ (b : B). P b y) (one_is (sym at ∙ x_at)) (subst (λ (b : B). P was b) (one_is y_at) holds)
set_at {B = B} P (first ∷ rest) zero was now at holds same (suc place) x y x_at y_at = subst (λ (b : B). P x b) (one_is (sym x_at ∙ y_at)) (same x)
set_at {B = B} P (first ∷ rest) (suc number) was now at holds same zero x y x_at y_at = subst (λ (b : B). P x b) (one_is (sym x_at ∙ y_at)) (same x)
set_at P (first ∷ rest) (suc number) was now at holds same (suc place) x y x_at y_at = set_at P rest number was now at holds same place x y x_at y_at

set_there : {B : Type 0} (list : List B) (number : ℕ) (was now : B) → slice_get list number ≡ Some was → slice_get (slice_set list number now) number ≡ Some now
set_there [] number was now at = absurd (cc (at))
set_there (first ∷ rest) zero was now at = refl
set_there (first ∷ rest) (suc number) was now at = set_there rest number was now at

set_length : {B : Type 0} (list : List B) (number : ℕ) (now : B) → length (slice_set list number now) ≡ length list
set_length [] number now = refl
set_length (first ∷ rest) zero now = refl
set_length (first ∷ rest) (suc number) now = ap (λ (n : ℕ). suc n) (set_length rest number now)

-- and those of another number are what they were
set_other : {B : Type 0} (list : List B) (number : ℕ) (now : B) (other : ℕ) (two : B) → other ≢ number → slice_get (slice_set list number now) other ≡ Some two → slice_get list other ≡ Some two
set_other [] number now other two differs at = at
set_other (first ∷ rest) zero now zero two differs at = absurd (differs refl)
set_other (first ∷ rest) zero now (suc other) two differs at = at
set_other (first ∷ rest) (suc number) now zero two differs at = at
set_other (first ∷ rest) (suc number) now (suc other) two differs at = set_other rest number now other two (λ same. differs (ap (λ (n : ℕ). suc n) same)) at

swap_other : {B : Type 0} (done : List B) (was now : B) (rest : List B) (other : ℕ) (two : B) → other ≢ length done → slice_get (done ++ now ∷ rest) other ≡ Some two
    → slice_get (done ++ was ∷ rest) other ≡ Some two
swap_other [] was now rest zero two differs at = absurd (differs refl)
swap_other [] was now rest (suc other) two differs at = at
swap_other (first ∷ done) was now rest zero two differs at = at
swap_other (first ∷ done) was now rest (suc other) two differs at = swap_other done was now rest other two (λ same. differs (ap (λ (n : ℕ). suc n) same)) at

swap_at : {B : Type 0} (P : B → B → Type 0) (done : List B) (was now : B) (rest : List B) → P was now → ((one : B) → P one one)
    → (place : ℕ) (x y : B) → slice_get (done ++ was ∷ rest) place ≡ Some x → slice_get (done ++ now ∷ rest) place ≡ Some y → P x y
swap_at {B = B} P [] was now rest holds same zero x y x_at y_at = subst (λ (b : B). P b y) (one_is x_at) (subst (λ (b : B). P was b) (one_is y_at) holds)
swap_at {B = B} P [] was now rest holds same (suc place) x y x_at y_at = subst (λ (b : B). P x b) (one_is (sym x_at ∙ y_at)) (same x)
swap_at {B = B} P (first ∷ done) was now rest holds same zero x y x_at y_at = subst (λ (b : B). P x b) (one_is (sym x_at ∙ y_at)) (same x)
swap_at P (first ∷ done) was now rest holds same (suc place) x y x_at y_at = swap_at P done was now rest holds same place x y x_at y_at

swap_there : {B : Type 0} (done : List B) (one : B) (rest : List B) → slice_get (done ++ one ∷ rest) (length done) ≡ Some one
swap_there [] one rest = refl
swap_there (first ∷ done) one rest = swap_there done one rest

swap_length : {B : Type 0} (done : List B) (was now : B) (rest : List B) → length (done ++ now ∷ rest) ≡ length (done ++ was ∷ rest)
swap_length [] was now rest = refl
swap_length (first ∷ done) was now rest = ap (λ (n : ℕ). suc n) (swap_length done was now rest)

-- what is at a number of one list is at that of another as long
there_too : {B : Type 0} (old new : List B) (number : ℕ) (was : B) → length new ≡ length old → slice_get old number ≡ Some was → (now : B) × (slice_get new number ≡ Some now)
there_too old new number was count at = (get_or new number was, slice_get-get_or new number was (omega (arith, count, slice_get_within old number was at)))

-- ---- the look at the banks

-- the banks before this number were looked at: none has bytes, and none had a fault
pub record HasLooked {B : Type 0} (log : B → Option Log) (meter : B → Meter) (old new : List B) (number : ℕ) : Type 0 where
  pub meters : MetersGoOn meter old new
  pub quiet : HadNoFaults meter old new
  pub logs : LogsStay log old new
  pub empty : AreEmptyBefore log old number

pub looked_first : {B : Type 0} (log : B → Option Log) (meter : B → Meter) (banks : List B) → HasLooked log meter banks banks 0
looked_first log meter banks = record {
  meters = meters_same meter banks;
  quiet = quiet_same meter banks;
  logs = λ place was now was_at now_at. ap log (one_is (sym now_at ∙ was_at));
  empty = λ place one before at. absurd (omega (arith, before));
}

-- those of the number were looked at too
meters_set : {B : Type 0} (meter : B → Meter) (banks : List B) (number : ℕ) (was now : B) → slice_get banks number ≡ Some was → MeterGoesOn (meter was) (meter now)
    → MetersGoOn meter banks (slice_set banks number now)
meters_set meter banks number was now at goes = record {
  count = set_length banks number now;
  each = set_at (λ x y. MeterGoesOn (meter x) (meter y)) banks number was now at goes (λ one. goes_on_same (meter one));
}

quiet_set : {B : Type 0} (meter : B → Meter) (banks : List B) (number : ℕ) (was now : B) → slice_get banks number ≡ Some was → HadNoFault (meter was) (meter now)
    → HadNoFaults meter banks (slice_set banks number now)
quiet_set meter banks number was now at quiet = set_at (λ x y. HadNoFault (meter x) (meter y)) banks number was now at quiet (λ one. refl)

failed_set : {B : Type 0} (meter : B → Meter) (banks : List B) (number : ℕ) (was now : B) → slice_get banks number ≡ Some was → HadFault (meter was) (meter now)
    → HasFailed meter number banks (slice_set banks number now)
failed_set {B = B} meter banks number was now at fails = record {
  was = was;
  now = now;
  before = at;
  behind = set_there banks number was now at;
  fault = fails;
  others = λ other one two differs one_at two_at. ap (λ (b : B). (meter b).real_faults) (one_is (sym (set_other banks number now other two differs two_at) ∙ one_at));
}

pub looked_meters : {B : Type 0} (log : B → Option Log) (meter : B → Meter) (old middle : List B) (number : ℕ) (was now : B) → HasLooked log meter old middle number
    → slice_get middle number ≡ Some was → MeterGoesOn (meter was) (meter now) → MetersGoOn meter old (slice_set middle number now)
looked_meters log meter old middle number was now looked at goes = meters_then meter old middle (slice_set middle number now) looked.meters (meters_set meter middle number was now at goes)

pub looked_logs : {B : Type 0} (log : B → Option Log) (meter : B → Meter) (old middle : List B) (number : ℕ) (was now : B) → HasLooked log meter old middle number
    → slice_get middle number ≡ Some was → log now ≡ log was → LogsStay log old (slice_set middle number now)
looked_logs log meter old middle number was now looked at same place first last first_at last_at =
    let there = there_too old middle place first looked.meters.count first_at in
    set_at (λ x y. log y ≡ log x) middle number was now at same (λ one. refl) place there.0 last there.1 last_at ∙ looked.logs place first there.0 first_at there.1

pub looked_more : {B : Type 0} (log : B → Option Log) (meter : B → Meter) (old middle : List B) (number : ℕ) (was now : B) → HasLooked log meter old middle number
    → slice_get middle number ≡ Some was → log now ≡ log was → MeterGoesOn (meter was) (meter now) → HadNoFault (meter was) (meter now) → ¬ IsFilled (log was)
    → HasLooked log meter old (slice_set middle number now) (number + 1)
looked_more {B = B} log meter old middle number was now looked at same goes quiet none = record {
  meters = looked_meters log meter old middle number was now looked at goes;
  quiet = quiet_then meter old middle (slice_set middle number now) looked.meters looked.quiet (quiet_set meter middle number was now at quiet);
  logs = looked_logs log meter old middle number was now looked at same;
  empty = λ place one before there filled. elim (cases_lt place number) [
    | inl earlier ↦ looked.empty place one earlier there filled
    | inr later ↦
        let here : place ≡ number = omega (arith, before, later) in
        let there_now : slice_get old number ≡ Some one = subst (λ (n : ℕ). slice_get old n ≡ Some one) here there in
        none (subst IsFilled (sym (looked.logs number one was there_now at)) filled)
  ];
}

-- the look at those of the number stopped
pub looked_stops : {B : Type 0} (log : B → Option Log) (meter : B → Meter) (old middle : List B) (number : ℕ) (was now : B) (fault : RunFault) → HasLooked log meter old middle number
    → slice_get middle number ≡ Some was → StopsLookingAt number (log was) (meter was) (meter now) fault → StopsLooking log old fault
looked_stops log meter old middle number was now (faults.NotEmpty clone) looked at stops =
    let there = there_too middle old number was (sym looked.meters.count) at in
    let first : IsFirstFilled log old number = record {
      one = there.0;
      at = there.1;
      filled = subst IsFilled (looked.logs number there.0 was there.1 at) stops.1;
      before = λ other empty before other_at. looked.empty other empty before other_at;
    } in
    subst (λ (n : ℕ). IsFirstFilled log old n) (sym stops.0) first
looked_stops log meter old middle number was now (faults.Device clone) looked at stops = subst (λ (n : ℕ). AreEmptyBefore log old n) (sym stops.0) looked.empty
looked_stops log meter old middle number was now faults.NoMemory looked at stops = tt
looked_stops log meter old middle number was now fault looked at stops = absurd stops

-- and no others had a fault
looked_well : {B : Type 0} (log : B → Option Log) (meter : B → Meter) (old middle : List B) (number : ℕ) (was now : B) → HasLooked log meter old middle number
    → slice_get middle number ≡ Some was → MeterGoesOn (meter was) (meter now) → HadNoFault (meter was) (meter now) → ComeBackWell meter old (slice_set middle number now)
looked_well log meter old middle number was now looked at goes quiet = record {
  meters = looked_meters log meter old middle number was now looked at goes;
  quiet = quiet_then meter old middle (slice_set middle number now) looked.meters looked.quiet (quiet_set meter middle number was now at quiet);
}

pub looked_faults : {B : Type 0} (log : B → Option Log) (meter : B → Meter) (old middle : List B) (number : ℕ) (was now : B) (fault : RunFault) → HasLooked log meter old middle number
    → slice_get middle number ≡ Some was → MeterGoesOn (meter was) (meter now) → StopsLookingAt number (log was) (meter was) (meter now) fault
    → BringsBack meter old (slice_set middle number now) (Some fault)
looked_faults log meter old middle number was now (faults.NotEmpty clone) looked at goes stops = looked_well log meter old middle number was now looked at goes stops.2
looked_faults log meter old middle number was now (faults.Device clone) looked at goes stops = record {
  meters = looked_meters log meter old middle number was now looked at goes;
  failed = failed_later meter clone old middle (slice_set middle number now) (record { meters = looked.meters; quiet = looked.quiet })
      (subst (λ (n : ℕ). HasFailed meter n middle (slice_set middle number now)) (sym stops.0) (failed_set meter middle number was now at stops.1));
}
looked_faults log meter old middle number was now faults.NoMemory looked at goes stops = all_left (looked_well log meter old middle number was now looked at goes stops)
looked_faults log meter old middle number was now fault looked at goes stops = absurd stops

-- a side was looked at, and then the look at the other one stopped
pub stops_later : (number : ℕ) (log : Option Log) (first second third : Meter) (fault : RunFault) → MeterGoesOn first second → HadNoFault first second → StopsLookingAt number log second third fault
    → StopsLookingAt number log first third fault
stops_later number log first second third (faults.NotEmpty clone) goes quiet stops = (stops.0, stops.1, stops.2 ∙ quiet)
stops_later number log first second third (faults.Device clone) goes quiet stops =
    (stops.0, fault_later first second third quiet stops.1)
stops_later number log first second third faults.NoMemory goes quiet stops = stops ∙ quiet
stops_later number log first second third fault goes quiet stops = absurd stops

-- all were looked at
pub looked_all : {B : Type 0} (log : B → Option Log) (meter : B → Meter) (old new : List B) (number : ℕ) → HasLooked log meter old new number → length new ≤ number → AreEmpty log old
looked_all log meter old new number looked all = λ place one at.
    looked.empty place one (omega (arith, all, looked.meters.count, slice_get_within old place one at)) at

-- so none has bytes where the logs stayed
pub empty_still : {B : Type 0} (log : B → Option Log) (old new : List B) → length new ≡ length old → LogsStay log old new → AreEmpty log old → AreEmpty log new
empty_still log old new count logs none = λ place one at filled.
    let there = there_too new old place one (sym count) at in none place there.0 there.1 (subst IsFilled (logs place there.0 one there.1 at) filled)

-- ---- what a crash may leave of banks is what it might have left before

less_one : {B : Type 0} (log : B → Option Log) (one : B) → LeavesLess log one one
less_one log one before behind was now image left = let same : behind ≡ before = cc (was, now) in subst (λ l. MayLeave l image) same left

less_same : {B : Type 0} (log : B → Option Log) (banks : List B) → LeaveNoMore log banks banks
less_same {B = B} log banks number was now was_at now_at = let same : was ≡ now = cc (was_at, now_at) in subst (λ (b : B). LeavesLess log was b) same (less_one log was)

-- where logs stayed
pub stay_less : {B : Type 0} (log : B → Option Log) (old new : List B) → LogsStay log old new → LeaveNoMore log old new
stay_less log old new logs number was now was_at now_at before behind told is image left =
    let same : behind ≡ before = cc (logs number was now was_at now_at, told, is) in subst (λ l. MayLeave l image) same left

pub less_then : {B : Type 0} (log : B → Option Log) (tells : (banks : B) → IsSome (log banks)) (old middle new : List B) → length middle ≡ length old → LeaveNoMore log old middle → LeaveNoMore log middle new
    → LeaveNoMore log old new
less_then log tells old middle new count first second number was now was_at now_at before behind told is image left =
    let there = there_too old middle number was count was_at in
    let between : (l : Log) × (log there.0 ≡ Some l) = told_log (log there.0) (tells there.0) in
    first number was there.0 was_at there.1 before between.0 told between.1 image (second number there.0 now there.1 now_at between.0 behind between.1 is image left)

pub less_later : {B : Type 0} (log : B → Option Log) (old middle new : List B) → length middle ≡ length old → LogsStay log old middle → LeaveNoMore log middle new → LeaveNoMore log old new
less_later log old middle new count logs second number was now was_at now_at before behind told is image left =
    let there = there_too old middle number was count was_at in
    second number there.0 now there.1 now_at before behind (logs number was there.0 was_at there.1 ∙ told) is image left

-- a mount leaves no more, and makes blanks of banks without a byte
pub mounted_less : {B : Type 0} (log : B → Option Log) (was now : B) → ((l : Log) → log was ≡ Some l → LeavesNothingNew l (log now)) → LeavesLess log was now
mounted_less log was now moments before behind told is image left = now_left before behind (log now) image (moments before told) is left

pub mounted_blank : {B : Type 0} (log : B → Option Log) (tells : (banks : B) → IsSome (log banks)) (was now : B) → ((l : Log) → log was ≡ Some l → read_banks (seen l) ≡ KeepsNone)
    → ((l : Log) → log was ≡ Some l → IsSynced (Unit {0}) l (log now)) → IsBlankLog (log now)
mounted_blank log tells was now reads synced l is =
    let before : (first : Log) × (log was ≡ Some first) = told_log (log was) (tells was) in
    let sync : IsSynced (Unit {0}) before.0 (log now) = synced before.0 before.1 in
    let same : sync.log ≡ l = cc (sync.now_is, is) in
    subst (λ (one : Log). KeepsNothing one) same (record { none = ap read_banks sync.same ∙ reads before.0 before.1; settled = sync.settled tt })

-- ---- the banks made blanks

-- the first banks were made these blanks, and the rest, which are empty, are left; none had a fault, and a crash leaves no more of them
pub record IsBlanking {B : Type 0} (log : B → Option Log) (meter : B → Meter) (old done rest : List B) (number : ℕ) : Type 0 where
  pub less : LeaveNoMore log old (done ++ rest)
  pub blank : AreBlank log done
  pub meters : MetersGoOn meter old (done ++ rest)
  pub quiet : HadNoFaults meter old (done ++ rest)
  pub empty : AreEmpty log rest
  pub counted : number ≡ length done

pub blanking_first : {B : Type 0} (log : B → Option Log) (meter : B → Meter) (old done rest : List B) → done ≡ [] → rest ≡ old → AreEmpty log old → IsBlanking log meter old done rest 0
blanking_first log meter old done rest none all empty = rw (none, all) (record { less = less_same log old; blank = λ number one at. absurd (cc at); meters = meters_same meter old; quiet = quiet_same meter old; empty = empty; counted = refl })

-- the next ones have no bytes
pub blanking_next : {B : Type 0} (log : B → Option Log) (meter : B → Meter) (old done rest left : List B) (one : B) (number : ℕ) → IsBlanking log meter old done rest number → rest ≡ one ∷ left
    → ¬ IsFilled (log one)
blanking_next {B = B} log meter old done rest left one number blanking is = subst (λ (l : List B). AreEmpty log l) is blanking.empty zero one refl

-- what is in no place of the end of a list is in its front
blank_more : {B : Type 0} (log : B → Option Log) (done : List B) (now : B) → AreBlank log done → IsBlankLog (log now) → AreBlank log (done ++ now ∷ [])
blank_more log [] now blank one zero x at = let same : now ≡ x = cc at in subst (λ b. IsBlankLog (log b)) same one
blank_more log [] now blank one (suc place) x at = absurd (cc at)
blank_more log (first ∷ done) now blank one zero x at = blank zero x at
blank_more log (first ∷ done) now blank one (suc place) x at = blank_more log done now (λ n o there. blank (suc n) o there) one place x at

less_swap : {B : Type 0} (log : B → Option Log) (done : List B) (was now : B) (rest : List B) → LeavesLess log was now → LeaveNoMore log (done ++ was ∷ rest) (done ++ now ∷ rest)
less_swap log done was now rest less = swap_at (λ x y. LeavesLess log x y) done was now rest less (λ one. less_one log one)

less_before : {B : Type 0} (log : B → Option Log) (meter : B → Meter) (old done rest left : List B) (was : B) (number : ℕ) → IsBlanking log meter old done rest number
    → rest ≡ was ∷ left → LeaveNoMore log old (done ++ was ∷ left)
less_before {B = B} log meter old done rest left was number blanking is = subst (λ (l : List B). LeaveNoMore log old (done ++ l)) is blanking.less

less_meters : {B : Type 0} (log : B → Option Log) (meter : B → Meter) (tells : (banks : B) → IsSome (log banks)) (old done rest left : List B) (was now : B) (number : ℕ)
    → IsBlanking log meter old done rest number → rest ≡ was ∷ left → LeavesLess log was now → LeaveNoMore log old (done ++ now ∷ left)
less_meters {B = B} log meter tells old done rest left was now number blanking is less =
    less_then log tells old (done ++ was ∷ left) (done ++ now ∷ left)
    (subst (λ (l : List B). length (done ++ l) ≡ length old) is blanking.meters.count)
    (less_before log meter old done rest left was number blanking is) (less_swap log done was now left less)

module _ {B : Type 0} (meter : B → Meter) (done : List B) (was now : B) (rest : List B) where
  meters_swap : MeterGoesOn (meter was) (meter now) → MetersGoOn meter (done ++ was ∷ rest) (done ++ now ∷ rest)
  meters_swap goes = record {
    count = swap_length done was now rest;
    each = swap_at (λ x y. MeterGoesOn (meter x) (meter y)) done was now rest goes (λ one. goes_on_same (meter one));
  }

  quiet_swap : HadNoFault (meter was) (meter now) → HadNoFaults meter (done ++ was ∷ rest) (done ++ now ∷ rest)
  quiet_swap quiet = swap_at (λ x y. HadNoFault (meter x) (meter y)) done was now rest quiet (λ one. refl)

  failed_swap : HadFault (meter was) (meter now) → HasFailed meter (length done) (done ++ was ∷ rest) (done ++ now ∷ rest)
  failed_swap fails = record {
    was = was;
    now = now;
    before = swap_there done was rest;
    behind = swap_there done now rest;
    fault = fails;
    others = λ other one two differs one_at two_at. ap (λ (b : B). (meter b).real_faults) (one_is (sym (swap_other done was now rest other two differs two_at) ∙ one_at));
  }

-- what is known before the next ones are made a blank
meters_before : {B : Type 0} (log : B → Option Log) (meter : B → Meter) (old done rest left : List B) (was : B) (number : ℕ) → IsBlanking log meter old done rest number
    → rest ≡ was ∷ left → MetersGoOn meter old (done ++ was ∷ left)
meters_before {B = B} log meter old done rest left was number blanking is = subst (λ (l : List B). MetersGoOn meter old (done ++ l)) is blanking.meters

quiet_before : {B : Type 0} (log : B → Option Log) (meter : B → Meter) (old done rest left : List B) (was : B) (number : ℕ) → IsBlanking log meter old done rest number
    → rest ≡ was ∷ left → HadNoFaults meter old (done ++ was ∷ left)
quiet_before {B = B} log meter old done rest left was number blanking is = subst (λ (l : List B). HadNoFaults meter old (done ++ l)) is blanking.quiet

blanking_meters : {B : Type 0} (log : B → Option Log) (meter : B → Meter) (old done rest left : List B) (was now : B) (number : ℕ) → IsBlanking log meter old done rest number
    → rest ≡ was ∷ left → MeterGoesOn (meter was) (meter now) → MetersGoOn meter old (done ++ now ∷ left)
blanking_meters log meter old done rest left was now number blanking is goes =
    meters_then meter old (done ++ was ∷ left) (done ++ now ∷ left) (meters_before log meter old done rest left was number blanking is) (meters_swap meter done was now left goes)

-- they are made a blank
pub blanking_more : {B : Type 0} (log : B → Option Log) (meter : B → Meter) (tells : (banks : B) → IsSome (log banks)) (old done rest left more : List B) (was now : B) (number : ℕ)
    → IsBlanking log meter old done rest number → rest ≡ was ∷ left → more ≡ done ++ now ∷ [] → MeterGoesOn (meter was) (meter now) → HadNoFault (meter was) (meter now)
    → IsBlankLog (log now) → LeavesLess log was now → IsBlanking log meter old more left (number + 1)
blanking_more {B = B} log meter tells old done rest left more was now number blanking is more_is goes quiet blank less = rw more_is (record {
  less = rw (append_assoc done (now ∷ []) left) (less_meters log meter tells old done rest left was now number blanking is less);
  blank = blank_more log done now blanking.blank blank;
  meters = rw (append_assoc done (now ∷ []) left) (blanking_meters log meter old done rest left was now number blanking is goes);
  quiet = rw (append_assoc done (now ∷ []) left)
      (quiet_then meter old (done ++ was ∷ left) (done ++ now ∷ left) (meters_before log meter old done rest left was number blanking is)
      (quiet_before log meter old done rest left was number blanking is) (quiet_swap meter done was now left quiet));
  empty = λ place one at. subst (λ (l : List B). AreEmpty log l) is blanking.empty (suc place) one at;
  counted = one_more done now number blanking.counted;
})
  where
    one_more : {B : Type 0} (done : List B) (now : B) (number : ℕ) → number ≡ length done → number + 1 ≡ length (done ++ now ∷ [])
    one_more done now number counted = rw (length-append done (now ∷ [])) (omega (arith, counted))

-- their device failed
pub blanking_stops : {B : Type 0} (log : B → Option Log) (meter : B → Meter) (old done rest left back : List B) (was now : B) (number : ℕ) → IsBlanking log meter old done rest number
    → rest ≡ was ∷ left → back ≡ done ++ now ∷ left → MeterGoesOn (meter was) (meter now) → HadFault (meter was) (meter now)
    → HaveFailed meter number old back
blanking_stops log meter old done rest left back was now number blanking is back_is goes fails =
    rw (back_is, blanking.counted) (record {
      meters = blanking_meters log meter old done rest left was now number blanking is goes;
      failed = failed_later meter (length done) old (done ++ was ∷ left) (done ++ now ∷ left)
          (record { meters = meters_before log meter old done rest left was number blanking is; quiet = quiet_before log meter old done rest left was number blanking is })
          (failed_swap meter done was now left fails);
    })

-- none is left
all_done : {B : Type 0} (P : List B → Type 0) (done rest : List B) → rest ≡ [] → P (done ++ rest) → P done
all_done {B = B} P done rest none holds = subst P (append-nil done) (subst (λ (l : List B). P (done ++ l)) none holds)

-- what is left of the banks then
pub blanking_less : {B : Type 0} (log : B → Option Log) (meter : B → Meter) (tells : (banks : B) → IsSome (log banks)) (old done rest left back : List B) (was now : B) (number : ℕ)
    → IsBlanking log meter old done rest number → rest ≡ was ∷ left → back ≡ done ++ now ∷ left → LeavesLess log was now → LeaveNoMore log old back
blanking_less log meter tells old done rest left back was now number blanking is back_is less = rw back_is (less_meters log meter tells old done rest left was now number blanking is less)

pub blanking_all : {B : Type 0} (log : B → Option Log) (meter : B → Meter) (old done rest : List B) (number : ℕ) → IsBlanking log meter old done rest number → rest ≡ [] → MetersGoOn meter old done
blanking_all log meter old done rest number blanking none = all_done (λ l. MetersGoOn meter old l) done rest none blanking.meters

pub blanking_quiet : {B : Type 0} (log : B → Option Log) (meter : B → Meter) (old done rest : List B) (number : ℕ) → IsBlanking log meter old done rest number → rest ≡ [] → HadNoFaults meter old done
blanking_quiet log meter old done rest number blanking none = all_done (λ l. HadNoFaults meter old l) done rest none blanking.quiet
