-- What banks keep for a clone stands for what the model's clone keeps: behind an entry, a fork, and in a longer history.
use Rattle.std.proofs.Common.{◌≡◌, ℕ, List, [], ◌∷◌, ◌++◌, refl, sym, ap, subst, map, Some}
use Rattle.std.specs.List.{AllZip}
use Rattle.mld_io.specs.declared.banks.Side.{Side}
use Rattle.tree_clock.specs.Path.{zero_letter}
use Rattle.tree_clock.specs.declared.dots.Range.{Range}
use Rattle.mld_ops.specs.Entry.{EntryValue}
use Rattle.mld_ops.specs.History.{Operation, IsNext}
use Rattle.mld_ops.proofs.PickingLaws.{pairs_more}
use Rattle.clone_core.specs.journal_sides.Pairs.{Kept, PairReading, Keeps, with_entry, with_fork}
use Rattle.mld_model.specs.Clone.{Clone, Stored, kept_of, with_range}
use Rattle.mld_model.specs.CloneStep.{left_half}
use Rattle.mld_model.specs.Durable.{DurableStep, AppendsTaken}
use Rattle.mld_model.specs.Local.{LocalClone}
use Rattle.mld_model.specs.Sound.{IsSoundClone}
use Rattle.mld_model.specs.StandsFor.{kept_by, EntryStandsFor, LiveAt}
use Rattle.mld_model.specs.World.{World, clone_at}
use Rattle.mld_model.proofs.StoredLaws.{stored_still_stands}
use Rattle.clone_core.specs.Banked.{kept_as}
use Rattle.clone_core.specs.clone_parts.KeptSteps.{KeptStep, appends}
use Rattle.crash_laws.specs.CarriedSteps.{Owner, owner_at, stored_in, IsKeptFor, Carries, AreAppends}

module _ (owner : Owner) (history : List Operation) (kept : Kept) (stored : Stored) (is : IsKeptFor owner history kept stored) where
  -- once an entry is appended that stands for the range
  pub entry_kept : (entry : EntryValue) (range : Range) → EntryStandsFor history entry range → IsKeptFor owner history (with_entry entry kept) (with_range stored range)
  entry_kept entry range stands = record {
    id = is.id;
    domain = is.domain;
    properties = is.properties;
    stands = record {
      path = is.stands.path;
      base = is.stands.base;
      base_pairs = is.stands.base_pairs;
      entries = pairs_more (EntryStandsFor history) kept.entries stored.journal entry range is.stands.entries stands;
    };
  }

  -- once a fork is
  pub fork_kept : IsKeptFor owner history (with_fork kept) (left_half stored)
  fork_kept = record {
    id = is.id;
    domain = is.domain;
    properties = is.properties;
    stands = record {
      path = ap (λ (path : List ℕ). path ++ zero_letter ∷ []) is.stands.path;
      base = is.stands.base;
      base_pairs = is.stands.base_pairs;
      entries = is.stands.entries;
    };
  }

  -- in a history that has grown by one operation
  pub longer_kept : (next : Operation) → IsNext history next → IsSoundClone history stored → IsKeptFor owner (next ∷ history) kept stored
  longer_kept next is_next sound = record {
    id = is.id;
    domain = is.domain;
    properties = is.properties;
    stands = stored_still_stands history next (stored_in kept) stored is_next sound is.stands;
  }

-- appends of entries that stand for ranges carry those of the ranges
pub appends_carried : (owner : Owner) (history : List Operation) (entries : List EntryValue) (ranges : List Range) (kept : Kept) (stored : Stored)
    → IsKeptFor owner history kept stored → AllZip (EntryStandsFor history) entries ranges
    → Carries owner history (Keeps kept) (Some stored) (appends entries) (map (λ range. AppendsTaken range) ranges)
appends_carried owner history [] [] kept stored is all = is
appends_carried owner history (entry ∷ entries) (range ∷ ranges) kept stored is all = (
  is,
  refl,
  appends_carried owner history entries ranges (with_entry entry kept) (with_range stored range) (entry_kept owner history kept stored is entry range all.0) all.1,
)
appends_carried owner history [] (range ∷ ranges) kept stored is all = absurd all
appends_carried owner history (entry ∷ entries) [] kept stored is all = absurd all

-- they put something behind what is kept
pub appends_are : (entries : List EntryValue) → AreAppends (appends entries)
appends_are [] = tt
appends_are (entry ∷ entries) = appends_are entries

-- what the banks of a live clone keep stands for what the model's clone keeps
pub live_kept : (world : World) (number : ℕ) (old : LocalClone) (at : LiveAt world number old) (side : Side) (generation : ℕ)
    → IsKeptFor (owner_at world number) world.history (kept_as side generation old) (kept_by old at.base at.journal)
live_kept world number old at side generation =
    record { id = at.is.id; domain = at.is.domain; properties = at.is.properties; stands = at.stands.kept }

-- what holds of what a clone keeps in this state holds of what the clone of the number keeps that is in it
pub carried_at : (world : World) (number : ℕ) (clone : Clone) (reading : PairReading) (steps : List KeptStep) (durable : List DurableStep) → clone_at world number ≡ clone
    → Carries (owner_at world number) world.history reading (kept_of clone) steps durable
    → Carries (owner_at world number) world.history reading (kept_of (clone_at world number)) steps durable
carried_at world number clone reading steps durable is c =
    subst (λ (it : Clone). Carries (owner_at world number) world.history reading (kept_of it) steps durable) (sym is) c
