-- What the banks of a clone stand for, before its power was cut and behind that.
use Rattle.std.proofs.Common.{◌≡◌, ℕ, ◌+◌, ◌≤◌, Option, Some, None, MatchOption, refl, sym, ◌∙◌, arith, subst, ap}
use Rattle.std.specs.Prelude.{IsSome}
use Rattle.mld_io.specs.Disk.{Log, Sides, seen, MayLeave, IsSettled}
use Rattle.clone_core.specs.journal_sides.Pairs.{Kept, PairReading, KeepsNone, Keeps, Damages, read_banks}
use Rattle.clone_core.specs.journal_store.Standing.{KeepsJust}
use Rattle.mld_model.specs.Clone.{Stored, kept_of}
use Rattle.mld_model.specs.StandsFor.{CloneStandsFor}
use Rattle.mld_model.specs.World.{World, clone_at}
use Rattle.mld_model.specs.declared.CloneState.TheVariants as states
use Rattle.clone_core.specs.Banked.{kept_as}
use Rattle.world_commands.specs.crash_laws.CarriedSteps.{owner_at, StandsRead, IsUpTo}
use Rattle.world_commands.specs.crash_laws.CrashLines.{ImageStands}
use Rattle.world_commands.proofs.of_crash_laws.Images.{stands_nothing, stands_kept}
use Rattle.world_commands.specs.WorldBanks.{BankedState, in_memory, banks_of_state, KeepsNoneNow, KeepsStored, IsReached, IsDownOn, IsBacked}
use Rattle.world_commands.specs.WorldEnds.{KeepsState}
use Rattle.net_world.proofs.EndLemmas.{stopped_stands}

-- what is read has a limit that is no lower
pub up_more : (less more : ℕ) (reading : PairReading) → less ≤ more → IsUpTo less reading → IsUpTo more reading
up_more less more KeepsNone low up = tt
up_more less more (Keeps kept) low up = omega (arith, low, up)
up_more less more (Damages side place) low up = tt

-- ---- what a crash leaves, and what banks stand for

-- a crash leaves what stands for what the clone keeps, of a generation that so many steps may lead to
pub record ImageDown (world : World) (steps number : ℕ) (image : Sides) : Type 0 where
  pub stands : ImageStands world number image
  pub up : IsUpTo (steps + 1) (read_banks image)

module _ (world : World) (steps number : ℕ) (now : Option Log) (l : Log) (is : now ≡ Some l) where
  same_log : (other : Log) → now ≡ Some other → other ≡ l
  same_log other has = cc (is, has)

  -- what banks that stand for the clone may be left with
  module _ (image : Sides) (left : MayLeave l image) (reached : (log : Log) (kept : Kept) → now ≡ Some log → KeepsJust kept log → IsReached steps kept.generation) where
    left_by : (kept : Option Stored) → MatchOption kept (KeepsNoneNow now) (λ stored. KeepsStored world number stored now)
        → StandsRead (owner_at world number) world.history (read_banks image) kept × IsUpTo (steps + 1) (read_banks image)
    left_by None h =
        let same : image ≡ seen h.log = h.keeps.settled image (subst (λ (o : Log). MayLeave o image) (sym (same_log h.log h.now_is)) left) in
        let reads : KeepsNone ≡ read_banks image = sym h.keeps.none ∙ ap read_banks (sym same) in
        (subst (λ (r : PairReading). StandsRead (owner_at world number) world.history r None) reads tt, subst (λ (r : PairReading). IsUpTo (steps + 1) r) reads tt)
    left_by (Some stored) h =
        let same : image ≡ seen h.log = h.keeps.settled image (subst (λ (o : Log). MayLeave o image) (sym (same_log h.log h.now_is)) left) in
        let reads : Keeps h.kept ≡ read_banks image = sym h.keeps.reads ∙ ap read_banks (sym same) in (
          subst (λ (r : PairReading). StandsRead (owner_at world number) world.history r (Some stored)) reads
              (record { id = h.id; domain = h.domain; properties = h.properties; stands = h.stands }),
          subst (λ (r : PairReading). IsUpTo (steps + 1) r) reads (reached h.log h.kept h.now_is h.keeps),
        )

  pub down_image : (image : Sides) → MayLeave l image → IsDownOn world steps number now → ImageDown world steps number image
  down_image image left down =
      let found = left_by image left down.reached (kept_of (clone_at world number)) down.stands in
      record { stands = found.0; up = found.1 }

  -- what banks that stand for the clone read to
  seen_by : (kept : Option Stored) → MatchOption kept (KeepsNoneNow now) (λ stored. KeepsStored world number stored now)
      → StandsRead (owner_at world number) world.history (read_banks (seen l)) kept
  seen_by None h =
      let reads : KeepsNone ≡ read_banks (seen l) = sym h.keeps.none ∙ ap (λ (o : Log). read_banks (seen o)) (same_log h.log h.now_is) in
      subst (λ (r : PairReading). StandsRead (owner_at world number) world.history r None) reads tt
  seen_by (Some stored) h =
      let reads : Keeps h.kept ≡ read_banks (seen l) = sym h.keeps.reads ∙ ap (λ (o : Log). read_banks (seen o)) (same_log h.log h.now_is) in
      subst (λ (r : PairReading). StandsRead (owner_at world number) world.history r (Some stored)) reads
      (record { id = h.id; domain = h.domain; properties = h.properties; stands = h.stands })

  pub seen_stands : IsDownOn world steps number now → ImageStands world number (seen l)
  seen_stands down = seen_by (kept_of (clone_at world number)) down.stands

  -- banks that were left with what stands for the clone stand for it, once they are settled
  module _ (settled : IsSettled l) where
    settled_by : (kept : Option Stored) → StandsRead (owner_at world number) world.history (read_banks (seen l)) kept
        → MatchOption kept (KeepsNoneNow now) (λ stored. KeepsStored world number stored now)
    settled_by None stands = record {
      log = l;
      now_is = is;
      keeps = record { none = stands_nothing (owner_at world number) world.history (read_banks (seen l)) stands; settled = settled };
    }
    settled_by (Some stored) stands =
        let found = stands_kept (owner_at world number) world.history (read_banks (seen l)) stored stands in
        record {
          log = l;
          now_is = is;
          kept = found.0;
          keeps = record { reads = found.1; settled = settled };
          id = found.2.id;
          domain = found.2.domain;
          properties = found.2.properties;
          stands = found.2.stands;
        }

    pub image_down : ImageDown world steps number (seen l) → IsDownOn world steps number now
    image_down image = record {
      stands = settled_by (kept_of (clone_at world number)) image.stands;
      reached = λ told kept has keeps.
          subst (λ (r : PairReading). IsUpTo (steps + 1) r) keeps.reads (subst (λ (o : Log). IsUpTo (steps + 1) (read_banks (seen o))) (sym (same_log told has)) image.up);
    }

-- ---- the banks of a clone that stopped

module _ {B : Type 0} (log : B → Option Log) where
  -- what they keep has a generation that so many steps may lead to
  stopped_reached : (world : World) (steps number : ℕ) (state : BankedState B) → IsBacked log world steps number state → KeepsState log state
      → (told : Log) (kept : Kept) → log (banks_of_state state) ≡ Some told → KeepsJust kept told → IsReached steps kept.generation
  stopped_reached world steps number (states.Absent banks) backed keeps told kept is just = absurd (cc (just.reads, (keeps told is).none))
  stopped_reached world steps number (states.Asking asking) backed keeps told kept is just = absurd (cc (just.reads, (keeps told is).none))
  stopped_reached world steps number (states.Down banks) backed keeps told kept is just = backed.reached told kept is just
  stopped_reached world steps number (states.Live live) backed keeps told kept is just =
      let found = keeps backed.opened told is in
      let same : kept ≡ kept_as found.0 live.generation live.local = cc (just.reads, found.1.reads) in
      let equal : kept.generation ≡ live.generation = ap (λ (k : Kept). k.generation) same in
      omega (arith, equal, backed.reached)

  pub stopped_down : (world : World) (steps number : ℕ) (state : BankedState B) → CloneStandsFor world number (in_memory state) (clone_at world number)
      → IsBacked log world steps number state → KeepsState log state → IsSome (log (banks_of_state state)) → IsDownOn world steps number (log (banks_of_state state))
  stopped_down world steps number state stands backed keeps some = record {
    stands = stopped_stands log world steps number state (clone_at world number) stands backed refl keeps some;
    reached = stopped_reached world steps number state backed keeps;
  }
