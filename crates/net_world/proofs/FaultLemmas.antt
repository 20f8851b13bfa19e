-- Faults of banks over several changes of clones.
use Rattle.std.proofs.Common.{◌≡◌, ◌∙◌, ℕ, Result, Ok, Err, OnOk, IfErr, List, [], ◌∷◌, Some, refl, ap, sym, subst, arith, inl, inr, map}
use Rattle.std.specs.Prelude.{slice_get}
use Rattle.std.proofs.lemmas.Option.{slice_get_cases, slice_get_within}
use Rattle.mld_io.specs.Arm.{Meter, Metered}
use Rattle.mld_io.specs.Faults.{counted}
use Rattle.clone_core.specs.journal_store.declared.faults.MakeFault.{MakeFault}
use Rattle.mld_model.specs.declared.CloneState.TheVariants as states
use Rattle.clone_core.specs.Banked.{BankedClone}
use Rattle.clone_core.specs.CloneClosing.{FailsToFound}
use Rattle.world_commands.specs.declared.faults.WorldFault.{WorldFault}
use Rattle.world_commands.specs.declared.faults.WorldFault.TheVariants as faults
use Rattle.world_commands.specs.WorldBanks.{BankedState, banks_of_state, MeterGoesOn, MetersGoOn, HadNoFault, HadNoFaults, HadFault, HasFailed, HasFaultsFor}
use Rattle.net_world.specs.CrashedWorlds.{AreUnarmed}
use Rattle.net_world.specs.Founding.{HasFaultsOf, HasFaultsBy, IsMadeFirst}
use Rattle.world_commands.specs.OneCall.{FailsAt, HasFaultsAt}
use Rattle.world_commands.specs.WorldFaults.{fault_of_made}
use Rattle.world_commands.proofs.BankLemmas.{quiet_metered, faults_made}

-- whether the banks of the first clone had a fault, which was made, or was not
pub first_faults : {B U : Type 0} (calls : ℕ) (made : Result (BankedClone B) (MakeFault × B)) (told : BankedState B × Result U WorldFault) (before now : Meter) (Done : Type 0)
    → IsMadeFirst made told → Metered calls before now Done (FailsToFound made) → HasFaultsAt 0 before now told.1
first_faults {B = B} {U = U} calls made told before now Done first metered = by told.1 first.ok first.err
  where
    of_made : (m : Result (BankedClone B) (MakeFault × B)) → made ≡ m → Metered calls before now Done (FailsToFound m)
    of_made m is = subst (λ (r : Result (BankedClone B) (MakeFault × B)). Metered calls before now Done (FailsToFound r)) is metered

    by : (r : Result U WorldFault) → OnOk r ((clone : BankedClone B) × (made ≡ Ok clone) × (told.0 ≡ states.Live clone))
        → IfErr r (λ fault. (refused : MakeFault × B) × (made ≡ Err refused) × (fault ≡ fault_of_made 0 refused.0)) → HasFaultsAt 0 before now r
    by (Ok value) ok err = quiet_metered calls before now Done ⊥ (of_made (Ok ok.0) ok.1) (λ fails. fails)
    by (Err fault) ok err = subst (FailsAt 0 before now) (sym err.2) (faults_made 0 calls before now Done err.0.0 (of_made (Err err.0) err.1))

pub goes_then : (before mid now : Meter) → MeterGoesOn before mid → MeterGoesOn mid now → MeterGoesOn before now
goes_then before mid now first second = record { later = omega (arith, first.later, second.later); unarmed = λ is. second.unarmed (first.unarmed is); caught = λ is. second.caught (first.caught is) }

-- a call that failed later, and none before
pub fault_later : (before mid now : Meter) → HadNoFault before mid → HadFault mid now → HadFault before now
fault_later before mid now quiet fault = elim fault [
  | inl caught ↦ inl caught
  | inr rose ↦ inr (rose ∙ ap counted quiet)
]

-- and one that failed, and none after it
fault_kept : (before mid now : Meter) → MeterGoesOn mid now → HadNoFault mid now → HadFault before mid → HadFault before now
fault_kept before mid now goes quiet fault = elim fault [
  | inl caught ↦ inl (goes.caught caught)
  | inr rose ↦ inr (quiet ∙ rose)
]

module _ {B : Type 0} (meter : B → Meter) where
  -- banks that stand in a place of one list stand there in the other
  stands_too : (old new : List B) (number : ℕ) (was : B) → MetersGoOn meter old new → slice_get old number ≡ Some was → (now : B) × (slice_get new number ≡ Some now)
  stands_too old new number was on at = elim (slice_get_cases new number).1 [
    | inl found ↦ (found.0, found.2)
    | inr past ↦ absurd (omega (arith, past.0, on.count, slice_get_within old number was at))
  ]

  stood_too : (old new : List B) (number : ℕ) (now : B) → MetersGoOn meter old new → slice_get new number ≡ Some now → (was : B) × (slice_get old number ≡ Some was)
  stood_too old new number now on at = elim (slice_get_cases old number).1 [
    | inl found ↦ (found.0, found.2)
    | inr past ↦ absurd (omega (arith, past.0, on.count, slice_get_within new number now at))
  ]

  -- banks that weren't armed still aren't
  pub still_unarmed : (old new : List B) → MetersGoOn meter old new → AreUnarmed meter old → AreUnarmed meter new
  still_unarmed old new on unarmed number now has =
      let was : (b : B) × (slice_get old number ≡ Some b) = stood_too old new number now on has in
      (on.each number was.0 now was.1 has).unarmed (unarmed number was.0 was.1)

  pub meters_then : (old mid new : List B) → MetersGoOn meter old mid → MetersGoOn meter mid new → MetersGoOn meter old new
  meters_then old mid new first second = record {
    count = second.count ∙ first.count;
    each = λ number was now had has.
        let between : (b : B) × (slice_get mid number ≡ Some b) = stands_too old mid number was first had in
        goes_then (meter was) (meter between.0) (meter now) (first.each number was between.0 had between.1) (second.each number between.0 now between.1 has);
  }

  -- banks that had no fault before, and none after
  pub quiet_then : (old mid new : List B) → MetersGoOn meter old mid → HadNoFaults meter old mid → HadNoFaults meter mid new → HadNoFaults meter old new
  quiet_then old mid new on first second number was now had has =
      let between : (b : B) × (slice_get mid number ≡ Some b) = stands_too old mid number was on had in
      second number between.0 now between.1 has ∙ first number was between.0 had between.1

  -- banks that failed, and of which none had a fault before
  then_failed : (old mid new : List B) (number : ℕ) → MetersGoOn meter old mid → HadNoFaults meter old mid → HasFailed meter number mid new → HasFailed meter number old new
  then_failed old mid new number on quiet failed =
      let begun : (b : B) × (slice_get old number ≡ Some b) = stood_too old mid number failed.was on failed.before in
      let same : HadNoFault (meter begun.0) (meter failed.was) = quiet number begun.0 failed.was begun.1 failed.before in
      record {
        was = begun.0;
        now = failed.now;
        before = begun.1;
        behind = failed.behind;
        fault = fault_later (meter begun.0) (meter failed.was) (meter failed.now) same failed.fault;
        others = λ other one two differs had has.
            let between : (b : B) × (slice_get mid other ≡ Some b) = stands_too old mid other one on had in
            failed.others other between.0 two differs between.1 has ∙ quiet other one between.0 had between.1;
      }

  -- banks that failed, and of which none had a fault after
  failed_then : (old mid new : List B) (number : ℕ) → MetersGoOn meter old mid → HasFailed meter number old mid → MetersGoOn meter mid new → HadNoFaults meter mid new
      → HasFailed meter number old new
  failed_then old mid new number first failed second quiet =
      let ended : (b : B) × (slice_get new number ≡ Some b) = stands_too mid new number failed.now second failed.behind in
      let same : HadNoFault (meter failed.now) (meter ended.0) = quiet number failed.now ended.0 failed.behind ended.1 in
      record {
        was = failed.was;
        now = ended.0;
        before = failed.before;
        behind = ended.1;
        fault = fault_kept (meter failed.was) (meter failed.now) (meter ended.0) (second.each number failed.now ended.0 failed.behind ended.1) same failed.fault;
        others = λ other one two differs had has.
            let between : (b : B) × (slice_get mid other ≡ Some b) = stands_too old mid other one first had in
            quiet other between.0 two between.1 has ∙ failed.others other one between.0 differs had between.1;
      }

  -- a fault of one clone is one of a clone
  pub faults_of : {T : Type 0} (number : ℕ) (old new : List B) (r : Result T WorldFault) → HasFaultsFor number meter old new r → HasFaultsBy meter old new r
  faults_of number old new (Ok value) by = by
  faults_of number old new (Err faults.NoMemory) by = by
  faults_of number old new (Err (faults.Device clone)) by = subst (λ (k : ℕ). HasFailed meter k old new) (sym by.0) by.1

  -- so it is of how a call ended
  pub then_fails : (old mid new : List B) (fault : WorldFault) → MetersGoOn meter old mid → HadNoFaults meter old mid → HasFaultsOf meter mid new fault → HasFaultsOf meter old new fault
  then_fails old mid new faults.NoMemory on quiet by = quiet_then old mid new on quiet by
  then_fails old mid new (faults.Device clone) on quiet by = then_failed old mid new clone on quiet by

  pub then_faults : {T : Type 0} (old mid new : List B) (r : Result T WorldFault) → MetersGoOn meter old mid → HadNoFaults meter old mid → HasFaultsBy meter mid new r
      → HasFaultsBy meter old new r
  then_faults old mid new (Ok value) on quiet by = quiet_then old mid new on quiet by
  then_faults old mid new (Err fault) on quiet by = then_fails old mid new fault on quiet by

  pub faults_then : {T : Type 0} (old mid new : List B) (r : Result T WorldFault) → MetersGoOn meter old mid → HasFaultsBy meter old mid r → MetersGoOn meter mid new
      → HadNoFaults meter mid new → HasFaultsBy meter old new r
  faults_then old mid new (Ok value) first by second quiet = quiet_then old mid new first by quiet
  faults_then old mid new (Err faults.NoMemory) first by second quiet = quiet_then old mid new first by quiet
  faults_then old mid new (Err (faults.Device clone)) first by second quiet = failed_then old mid new clone first by second quiet

-- the banks of absent clones
pub banks_of_absent : {B : Type 0} (blanks : List B) → map banks_of_state (map (λ banks. states.Absent banks) blanks) ≡ blanks
banks_of_absent [] = refl
banks_of_absent {B = B} (blank ∷ blanks) = ap (λ (l : List B). blank ∷ l) (banks_of_absent blanks)
