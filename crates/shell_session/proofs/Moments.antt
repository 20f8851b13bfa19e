-- What is found on what a crash leaves, at each moment of calls.
use Rattle.std.proofs.Common.{◌≡◌, ℕ, List, [], ◌∷◌, Option, Some, refl, ◌∙◌, ap, subst}
use Rattle.mld_io.specs.Arm.{Arm, Meter}
use Rattle.mld_io.specs.Disk.{Log, Sides, seen, grown_by, MayLeave, LeavesOnly, LeavesMeanwhile}
use Rattle.mld_io.proofs.DiskLaws.{AtEachMoment-last, AtEachMoment-weaken, LeavesMeanwhile-then}
use Rattle.crash_laws.specs.journal_sides.Pairs.{PairReading, KeepsNone, Keeps, Damages, read_banks}
use Rattle.crash_laws.specs.journal_store.Crashes.{LeavesNothingNew}
use Rattle.crash_laws.proofs.of_journal_store.DeviceLaws.{weaken_moments, no_moments}
use Rattle.mld_model.specs.Local.{LocalClone}
use Rattle.crash_laws.specs.clone_parts.KeptSteps.{KeptStep, Created, Appended, Forked, Swapped, after_step, after_steps, ReadsSome, LeavesSome}
use Rattle.crash_laws.specs.clone_core.Banked.{BankedClone, head_of, kept_as, KeepsClone}
use Rattle.crash_laws.specs.clone_core.DurableCalls.{LeavesFronts}
use Rattle.shell_session.specs.Shells.{FoundOnBanks, Stored, found_in, found_after_step, found_after}
use Rattle.shell_session.specs.SessionLines.{ImagesFind, FindsFront, LeavesFront}
use Rattle.shell_session.specs.Sessions.{HasKept}

-- what the banks of a clone keep of it
abbrev pub found_with : ℕ → LocalClone → FoundOnBanks
found_with generation clone = Stored generation (head_of clone) clone.entries

-- ---- what is found after durable steps

step_reads : (step : KeptStep) (reading : PairReading) → found_in (after_step step reading) ≡ found_after_step step (found_in reading)
step_reads (Created head) reading = refl
step_reads (Appended entry) KeepsNone = refl
step_reads (Appended entry) (Keeps kept) = refl
step_reads (Appended entry) (Damages side place) = refl
step_reads Forked KeepsNone = refl
step_reads Forked (Keeps kept) = refl
step_reads Forked (Damages side place) = refl
step_reads (Swapped head entries) KeepsNone = refl
step_reads (Swapped head entries) (Keeps kept) = refl
step_reads (Swapped head entries) (Damages side place) = refl

steps_read : (steps : List KeptStep) (reading : PairReading) → found_in (after_steps steps reading) ≡ found_after steps (found_in reading)
steps_read [] reading = refl
steps_read (step ∷ steps) reading = steps_read steps (after_step step reading) ∙ ap (found_after steps) (step_reads step reading)

-- ---- moments

module _ (found : FoundOnBanks) (steps : List KeptStep) where
  -- nothing was called
  pub same_front : (old now : Option Log) → now ≡ old → LeavesFront found steps old now
  same_front old now same log is alike =
      no_moments log now (λ calls image. FindsFront found steps image) (same ∙ is)
      (λ image left. record { front = []; rest = steps; whole = refl; finds = alike log is image left })

  -- nothing was written
  pub no_more_front : (old now : Option Log) → ((log : Log) → old ≡ Some log → LeavesNothingNew log now) → LeavesFront found steps old now
  no_more_front old now moments log is alike =
      weaken_moments log now (λ calls image. MayLeave log image) (λ calls image. FindsFront found steps image)
      (λ calls image left. record { front = []; rest = steps; whole = refl; finds = alike log is image left }) (moments log is)

  -- some of the steps were made
  some_front : (reading : PairReading) (was is : Arm) (old : Log) (now : Option Log) → found_in reading ≡ found → LeavesSome old now reading steps was is
      → LeavesMeanwhile old now (λ calls image. FindsFront found steps image)
  some_front reading was is old now same some =
      weaken_moments old now (λ calls image. ReadsSome reading steps was image) (λ calls image. FindsFront found steps image)
      (λ calls image reads. record {
        front = reads.front;
        rest = reads.rest;
        whole = reads.whole;
        finds = ap found_in reads.reads ∙ steps_read reads.front reading ∙ ap (found_after reads.front) same;
      }) some.moments

  -- nothing was written, and then some of the steps were made
  pub later_front : (old mid now : Option Log) → ((log : Log) → old ≡ Some log → LeavesNothingNew log mid) → (ImagesFind found old → ImagesFind found mid)
      → LeavesFront found steps mid now → LeavesFront found steps old now
  later_front old mid now first settled second log is alike =
      let early : LeavesMeanwhile log mid (λ calls image. MayLeave log image) = first log is in
      LeavesMeanwhile-then log early.added (λ calls image. FindsFront found steps image) now
      (AtEachMoment-weaken log early.added (λ calls image. MayLeave log image) (λ calls image. FindsFront found steps image)
      (λ calls image left. record { front = []; rest = steps; whole = refl; finds = alike log is image left }) early.each)
      (second (grown_by early.added log) early.now_is (settled alike))

-- what a crash now may leave it might have left before, where nothing was written
pub images_later : (found : FoundOnBanks) (old mid : Option Log) (log : Log) → old ≡ Some log → LeavesNothingNew log mid → ImagesFind found old → ImagesFind found mid
images_later found old mid log is moments alike later told image left =
    let same : later ≡ grown_by moments.added log = cc (told, moments.now_is) in
    let last : LeavesOnly (grown_by moments.added log) (λ other. MayLeave log other) =
    AtEachMoment-last log moments.added (λ calls other. MayLeave log other) moments.each in
    alike log is image (last image (subst (λ (l : Log). MayLeave l image) same left))

module _ {B : Type 0} (log : B → Option Log) (meter : B → Meter) where
  -- a clone's call
  pub fronts : (steps : List KeptStep) (old : BankedClone B) (now : B) → LeavesFronts log meter steps old now
      → LeavesFront (found_with old.generation old.local) steps (log old.banks) (log now)
  fronts [] old now same = same_front (found_with old.generation old.local) [] (log old.banks) (log now) (ap log same)
  fronts (step ∷ steps) old now moments = λ l is alike.
      let some = moments l is in
      some_front (found_with old.generation old.local) (step ∷ steps) (Keeps (kept_as some.0 old.generation old.local)) (meter old.banks).arm (meter now).arm l (log now) refl some.1

  -- a clone is made on banks that keep nothing
  pub made_front : (steps : List KeptStep) (old now : B) → ((l : Log) → log old ≡ Some l → LeavesSome l (log now) KeepsNone steps (meter old).arm (meter now).arm)
      → LeavesFront (found_in KeepsNone) steps (log old) (log now)
  made_front steps old now moments l is alike = some_front (found_in KeepsNone) steps KeepsNone (meter old).arm (meter now).arm l (log now) refl (moments l is)

-- the banks of a clone keep it, whatever a crash leaves of them
pub kept_images : (clone : LocalClone) (generation : ℕ) (now : Option Log) → HasKept clone generation now → ImagesFind (found_with generation clone) now
kept_images clone generation now has log is image left =
    let same : log ≡ has.log = cc (is, has.now_is) in
    let at : image ≡ seen has.log = has.keeps.1.settled image (subst (λ (l : Log). MayLeave l image) same left) in
    ap (λ (sides : Sides). found_in (read_banks sides)) at ∙ ap found_in has.keeps.1.reads

-- and so they do now
pub kept_found : (clone : LocalClone) (generation : ℕ) (log : Log) → KeepsClone clone generation log → found_in (read_banks (seen log)) ≡ found_with generation clone
kept_found clone generation log keeps = ap found_in keeps.1.reads
