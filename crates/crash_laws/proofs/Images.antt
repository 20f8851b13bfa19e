-- What the sides of a device read to: behind a revival, and where they stand for what a clone keeps.
use Rattle.std.proofs.Common.{◌≡◌, List, inl, inr, refl, subst, sym, ap, Option, Some, None, ℕ}
use Rattle.mld_io.specs.Disk.{Log, Sides, grown, seen, MayLeave, IsSettled, Revives}
use Rattle.mld_io.specs.Disk.Call.{Cut}
use Rattle.mld_ops.specs.History.{Operation}
use Rattle.clone_core.specs.journal_sides.Pairs.{Kept, PairReading, KeepsNone, Keeps, Damages, read_banks}
use Rattle.mld_model.specs.Clone.{Stored, kept_of}
use Rattle.mld_io.specs.declared.banks.Side.{Side}
use Rattle.clone_core.specs.journal_store.Standing.{KeepsJust}
use Rattle.mld_model.specs.Local.{LocalClone}
use Rattle.mld_model.specs.StandsFor.{kept_by, LiveAt}
use Rattle.mld_model.specs.World.{World, clone_at}
use Rattle.clone_core.specs.Banked.{kept_as}
use Rattle.crash_laws.specs.CarriedSteps.{Owner, owner_at, IsKeptFor, StandsRead}
use Rattle.crash_laws.specs.CrashLines.{ImageStands}
use Rattle.crash_laws.proofs.Kept.{live_kept}

-- the log of a device that was revived behind a crash
pub record IsRevived (before : Log) (now : Option Log) : Type 0 where
  pub log : Log
  pub now_is : now ≡ Some log
  pub left : MayLeave before (seen log)
  pub settled : IsSettled log

pub revived_reads : (before : Log) (now : Option Log) → Revives before now → IsRevived before now
revived_reads before now revives = elim revives.now_is [
  | inl was_cut ↦ record { log = grown (Cut revives.image) before; now_is = was_cut; left = revives.left; settled = λ image is. is }
  | inr stays ↦ record {
    log = before;
    now_is = stays.0;
    left = subst (λ (image : Sides). MayLeave before image) (stays.1 revives.image revives.left) revives.left;
    settled = stays.1;
  }
]

-- what stands for nothing says that nothing is kept, and what stands for something keeps it
pub stands_nothing : (owner : Owner) (history : List Operation) (reading : PairReading) → StandsRead owner history reading None → reading ≡ KeepsNone
stands_nothing owner history KeepsNone stands = refl
stands_nothing owner history (Keeps kept) stands = absurd stands
stands_nothing owner history (Damages side place) stands = absurd stands

pub stands_kept : (owner : Owner) (history : List Operation) (reading : PairReading) (stored : Stored) → StandsRead owner history reading (Some stored)
    → (kept : Kept) × (reading ≡ Keeps kept) × IsKeptFor owner history kept stored
stands_kept owner history (Keeps kept) stored stands = (kept, refl, stands)
stands_kept owner history KeepsNone stored stands = absurd stands
stands_kept owner history (Damages side place) stored stands = absurd stands

-- ---- sides that stand for what the clone of the number keeps

module _ (world : World) (number : ℕ) (log : Log) where
  -- they keep what stands for it
  pub image_kept : (kept : Kept) (stored : Stored) → kept_of (clone_at world number) ≡ Some stored → read_banks (seen log) ≡ Keeps kept
      → IsKeptFor (owner_at world number) world.history kept stored → ImageStands world number (seen log)
  image_kept kept stored is reads stands =
      subst (λ (r : PairReading). StandsRead (owner_at world number) world.history r (kept_of (clone_at world number))) (sym reads)
      (subst (λ (o : Option Stored). StandsRead (owner_at world number) world.history (Keeps kept) o) (sym is) stands)

  -- they keep nothing, as the clone does
  pub image_none : kept_of (clone_at world number) ≡ None → read_banks (seen log) ≡ KeepsNone → ImageStands world number (seen log)
  image_none is reads =
      subst (λ (r : PairReading). StandsRead (owner_at world number) world.history r (kept_of (clone_at world number))) (sym reads)
      (subst (λ (o : Option Stored). StandsRead (owner_at world number) world.history KeepsNone o) (sym is) tt)

  -- they keep a live clone
  pub image_live : (new : LocalClone) (side : Side) (generation : ℕ) → LiveAt world number new → KeepsJust (kept_as side generation new) log → ImageStands world number (seen log)
  image_live new side generation at keeps =
      image_kept (kept_as side generation new) (kept_by new at.base at.journal) (ap kept_of at.live) keeps.reads (live_kept world number new at side generation)
