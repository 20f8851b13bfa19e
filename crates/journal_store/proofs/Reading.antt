-- How banks are read: pieces of a side, counts of faults, and what two syncs leave.
use Rattle.std.proofs.Common.{◌≡◌, ℕ, List, [], Option, Some, Result, Ok, Err, take, refl, ap, ◌∙◌, subst, inr}
use Rattle.mld_io.specs.Arm.{Meter, Metered}
use Rattle.mld_io.specs.Disk.{Log, Sides, bytes_of, seen, grown_by, MayLeave, Syncs}
use Rattle.mld_io.proofs.DiskLaws.{LeavesMeanwhile-sync, AtEachMoment-last}
use Rattle.mld_io.specs.declared.banks.Side.{Side}
use Rattle.mld_io.specs.declared.faults.IoFault.{IoFault}
use Rattle.mld_io.specs.declared.faults.IoFault.TheVariants as io
use Rattle.std.specs.Prelude.{IsOk, IsErrOf}
use Rattle.journal_sides.specs.FoundVolumes.{BeginsOpen}
use Rattle.journal_sides.specs.declared.side_reading.Found.{Found}
use Rattle.journal_sides.proofs.SideReading.{closed_side}
use Rattle.journal_store.specs.Crashes.{LeavesNothingNew}
use Rattle.journal_store.specs.Found.{ReadsSame, TellsSide, IsQuiet, IsFailed}
use Rattle.journal_store.specs.Mounting.{IsSynced}
use Rattle.journal_store.specs.declared.faults.MountFault.{MountFault}
use Rattle.journal_store.specs.declared.faults.MountFault.TheVariants.{Damaged, Device, NoMemory}

-- what calls do to a meter, under other names of their ends
pub metered_as : {D F D' F' : Type 0} (n : ℕ) (before now : Meter) → (D' → D) → (F' → F) → (F → F') → Metered n before now D F → Metered n before now D' F'
metered_as n before now is_done is_told is_failed m = record {
  later = m.later;
  real_later = m.real_later;
  lowered = m.lowered;
  done = λ d. m.done (is_done d);
  failed = λ f. m.failed (is_told f);
  cause = λ f. m.cause (is_told f);
  quiet = λ none. m.quiet (λ f. none (is_failed f));
  caught = m.caught;
}

-- a sync leaves no more than a crash might have left before
pub sync_leaves : (old : Log) (before now : Option Log) (side : Side) → LeavesNothingNew old before → ((log : Log) → before ≡ Some log → Syncs side log now) → LeavesNothingNew old now
sync_leaves old before now side leaves syncs =
    LeavesMeanwhile-sync old leaves.added (λ calls image. MayLeave old image) side now leaves.each (syncs (grown_by leaves.added old) leaves.now_is)
    (λ image left same. AtEachMoment-last old leaves.added (λ calls image. MayLeave old image) leaves.each image left)

-- no call leaves no more
pub no_call_leaves : (old : Log) (now : Option Log) → now ≡ Some old → LeavesNothingNew old now
no_call_leaves old now e = record { added = []; now_is = e; each = λ image left. left }

-- nor does one that changed nothing
pub kept_leaves : (old : Log) (before now : Option Log) → LeavesNothingNew old before → now ≡ before → LeavesNothingNew old now
kept_leaves old before now leaves e = record { added = leaves.added; now_is = e ∙ leaves.now_is; each = leaves.each }

-- what was synced stays so while banks are read
pub synced_later : {T T' : Type 0} (old : Log) (mid now : Option Log) → (T' → T) → IsSynced T old mid → now ≡ mid → IsSynced T' old now
synced_later old mid now is synced e = record { log = synced.log; now_is = e ∙ synced.now_is; same = synced.same; settled = λ t. synced.settled (is t) }

-- what is told of a side is told of it as it was before the syncs
pub told_of_old : {T : Type 0} (old : Log) (mid : Option Log) (side : Side) (result : Result (Option Found) MountFault) → IsSynced T old mid
    → ((log : Log) → mid ≡ Some log → TellsSide side (bytes_of side (seen log)) result) → TellsSide side (bytes_of side (seen old)) result
told_of_old old mid side result synced tells = subst (λ (s : Sides). TellsSide side (bytes_of side s) result) synced.same (tells synced.log synced.now_is)

-- where nothing failed, nothing did
pub quiet_not_failed : {X : Type 0} (result : Result X MountFault) → IsQuiet result → IsFailed result → ⊥
quiet_not_failed (Ok x) q f = f
quiet_not_failed (Err (Damaged side place)) q f = cc
quiet_not_failed (Err Device) q f = q
quiet_not_failed (Err NoMemory) q f = cc

-- a first byte that is no open gate is enough
pub closed_piece : (read bytes : List ℕ) → read ≡ take 1 bytes → ¬ BeginsOpen read → ReadsSame read bytes
closed_piece read bytes e n = inr (closed_side read n, closed_side bytes (λ begins. n ([], e ∙ ap (take 1) begins.1)))

-- calls that were done, and then nothing of the device failed
pub metered_past : {X T : Type 0} (n : ℕ) (before now : Meter) (x : T) (result : Result X MountFault) → IsQuiet result
    → Metered n before now (IsOk {T = T} {E = IoFault} (Ok x)) (IsErrOf {T = T} {E = IoFault} (Ok x) io.Failed) → Metered n before now (IsQuiet result) (IsFailed result)
metered_past {T = T} n before now x result quiet m =
    metered_as n before now (λ q. refl) (λ f. absurd (quiet_not_failed result quiet f)) (λ f. absurd (ok_err f)) m
  where
    ok_err : IsErrOf {T = T} {E = IoFault} (Ok x) io.Failed → ⊥
    ok_err f = cc
