-- What a mount finds stands.
use Rattle.std.proofs.Common.{◌≡◌, Option, Some, None, refl, sym, ap, ◌∙◌, subst}
use Rattle.mld_io.specs.Disk.{Log, Sides, bytes_of, other_side, seen}
use Rattle.journal_sides.specs.declared.side_reading.Found.{Found}
use Rattle.journal_sides.specs.Pairs.{Kept, KeepsNone, read_banks}
use Rattle.journal_sides.specs.SideReadings.{read_side}
use Rattle.journal_sides.specs.StoredVolumes.{EndsAt}
use Rattle.journal_store.specs.Found.{Counts}
use Rattle.journal_store.specs.Mounting.{IsSynced}
use Rattle.journal_store.specs.Standing.{IsBehind, Stands, KeepsNothing}

-- a log that is told is one
same_log : (now : Option Log) (a b : Log) → now ≡ Some a → now ≡ Some b → a ≡ b
same_log now a b x y = cc

-- what counts on banks that are settled stands
pub found_stands : (found : Found) (old log : Log) (now : Option Log) {T : Type 0} → Counts found (seen old) → IsSynced T old now → T → now ≡ Some log → Stands found.side found.generation found.stop log
found_stands found old log now counts synced is e =
    subst (λ (l : Log). Stands found.side found.generation found.stop l) (same_log now synced.log log synced.now_is e) (record {
      volume = counts.on.volume;
      stored = counts.on.stored;
      generation_is = ap (λ (k : Kept). k.generation) counts.on.kept;
      ends = subst (λ (s : Sides). EndsAt counts.on.volume found.stop (bytes_of found.side s)) (sym synced.same) counts.on.ends;
      behind = subst (λ (s : Sides). IsBehind found.generation (read_side (bytes_of (other_side found.side) s))) (sym synced.same) counts.behind;
      settled = synced.settled is;
    })

-- banks that keep nothing and are settled keep nothing
pub nothing_kept : (old log : Log) (now : Option Log) {T : Type 0} → read_banks (seen old) ≡ KeepsNone → IsSynced T old now → T → now ≡ Some log → KeepsNothing log
nothing_kept old log now none synced is e =
    subst KeepsNothing (same_log now synced.log log synced.now_is e) (record { none = ap read_banks synced.same ∙ none; settled = synced.settled is })

-- a log that is told now was told before
pub told_before : {P : Type 0} (before now : Option Log) (log : Log) → (before ≡ None → now ≡ None) → now ≡ Some log → ((old : Log) → before ≡ Some old → P) → P
told_before None now log untold e k = absurd (let n = untold refl in cc)
told_before (Some old) now log untold e k = k old refl
