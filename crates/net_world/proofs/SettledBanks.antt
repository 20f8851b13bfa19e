-- Banks that stand for a clone of the model: a crash leaves what stands for it too.
use Rattle.std.proofs.Common.{◌≡◌, ℕ, Option, Some, None, MatchOption, ◌∙◌, sym, ap, subst}
use Rattle.mld_io.specs.Disk.{Log, Sides, seen, MayLeave, LeavesOnly}
use Rattle.clone_core.specs.journal_sides.Pairs.{PairReading, KeepsNone, Keeps, read_banks}
use Rattle.clone_core.specs.journal_store.Standing.{KeepsNothing, KeepsJust}
use Rattle.mld_model.specs.Clone.{Stored, kept_of}
use Rattle.mld_model.specs.World.{World, clone_at}
use Rattle.world_commands.specs.crash_laws.CarriedSteps.{owner_at, StandsRead}
use Rattle.world_commands.specs.crash_laws.CrashLines.{ImageStands}
use Rattle.world_commands.specs.WorldBanks.{KeepsNoneNow, KeepsStored, BanksStandFor}

same_log : (first second : Log) (now : Option Log) → now ≡ Some first → now ≡ Some second → first ≡ second
same_log first second now is other = one first second (sym is ∙ other)
  where
    one : (a b : Log) → Some a ≡ Some b → a ≡ b
    one a b same = cc

-- of banks that keep nothing a crash leaves sides that read to nothing
pub nothing_left : (l : Log) → KeepsNothing l → (image : Sides) → MayLeave l image → read_banks image ≡ KeepsNone
nothing_left l keeps image left = ap read_banks (keeps.settled image left) ∙ keeps.none

-- and of banks that keep just this, what reads as that
pub just_left : (l : Log) (reading : PairReading) → read_banks (seen l) ≡ reading → ((image : Sides) → MayLeave l image → image ≡ seen l) → (image : Sides) → MayLeave l image → read_banks image ≡ reading
just_left l reading reads settled image left = ap read_banks (settled image left) ∙ reads

-- so banks that stand for the clone of the number leave what stands for it
pub settled_image : (world : World) (number : ℕ) (now : Option Log) (l : Log) → BanksStandFor world number now → now ≡ Some l → LeavesOnly l (ImageStands world number)
settled_image world number now l stands is image left = by (kept_of (clone_at world number)) stands
  where
    by : (kept : Option Stored) → MatchOption kept (KeepsNoneNow now) (λ stored. KeepsStored world number stored now) → StandsRead (owner_at world number) world.history (read_banks image) kept
    by None none =
        let keeps : KeepsNothing l = subst (λ (one : Log). KeepsNothing one) (same_log none.log l now none.now_is is) none.keeps in
        subst (λ (r : PairReading). StandsRead (owner_at world number) world.history r None) (sym (nothing_left l keeps image left)) tt
    by (Some stored) some =
        let keeps : KeepsJust some.kept l = subst (λ (one : Log). KeepsJust some.kept one) (same_log some.log l now some.now_is is) some.keeps in
        subst (λ (r : PairReading). StandsRead (owner_at world number) world.history r (Some stored)) (sym (just_left l (Keeps some.kept) keeps.reads keeps.settled image left))
        (record { id = some.id; domain = some.domain; properties = some.properties; stands = some.stands })
