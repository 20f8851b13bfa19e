-- A clone that compacts its journal stands for one of the model that does.
use Rattle.std.proofs.Common.{◌≡◌, ℕ, List, [], ◌∷◌, ◌++◌, ◌↔◌, inl, inr, refl, sym, subst, arith}
use Rattle.std.specs.List.{AllZip}
use Rattle.tree_clock.specs.declared.dots.Dot.{Dot}
use Rattle.tree_clock.specs.declared.dots.Range.{Range}
use Rattle.tree_clock.specs.Lists.{Has}
use Rattle.tree_clock.specs.Dot.{Knows}
use Rattle.mld_ops.specs.Entry.{EntryValue, IsEntry}
use Rattle.mld_ops.specs.Held.{ranges_of}
use Rattle.mld_ops.specs.History.{Operation, IsDone, IsLawful, dot_at}
use Rattle.mld_ops.specs.Net.{IsNet}
use Rattle.mld_ops.specs.Ready.{last_dot}
use Rattle.mld_ops.proofs.AscendingLaws.{has_left, has_right}
use Rattle.mld_ops.proofs.MeaningLaws.{same_known}
use Rattle.op_fusion.specs.Compacting.{AreCompacted, IsFusedRun, alone, both, AreFusedRuns}
use Rattle.op_fusion.proofs.Runs.{fused_runs_are_compacted, near_all}
use Rattle.op_fusion.proofs.FusedNets.{fused_nets_are_net}
use Rattle.mld_model.specs.Clone.{Stored, known_of}
use Rattle.mld_model.specs.Sound.{IsSoundClone, IsDoneRange}
use Rattle.mld_model.specs.Local.{LocalClone, IsLocal, LocallyCompacts}
use Rattle.mld_model.specs.StandsFor.{EntryStandsFor, LocalStandsFor}
use Rattle.mld_model.proofs.CompactedJournals.{known_compacted}
use Rattle.mld_model.proofs.CompactedLaws.{compacted_leads}
use Rattle.mld_model.proofs.JournalLaws.{journal_done}

-- an entry is the net effect of its own range, and the last dot of this is done
record StandsAlone (history : List Operation) (entry : EntryValue) : Type 0 where
  net : IsNet history entry.range entry
  done : IsDone history (last_dot entry.range)

-- what is fused of a run of such entries is one
run_stands : (history : List Operation) → IsLawful history → (run : List EntryValue) (whole : EntryValue) → IsFusedRun run whole
    → ((entry : EntryValue) → Has run entry → StandsAlone history entry) → StandsAlone history whole
run_stands history lawful run whole (alone entry) all = all entry (inl refl)
run_stands history lawful run whole (both left first next right second fused l r near f) all =
    let one : StandsAlone history first = run_stands history lawful left first l (λ entry h. all entry (has_left left (next ∷ right) entry h)) in
    let two : StandsAlone history second = run_stands history lawful (next ∷ right) second r (λ entry h. all entry (has_right left (next ∷ right) entry h)) in
    let meets = near_all first.range next right second near r in record {
      net = subst (λ (range : Range). IsNet history range fused) (sym f.range)
          (fused_nets_are_net history first.range second.range first second fused lawful meets two.done one.net two.net f);
      done = subst (λ (range : Range). IsDone history (last_dot range)) (sym f.range)
          (subst (λ (path : List ℕ). IsDone history (dot_at path second.range.last)) (sym meets.path) two.done);
    }

-- and so is each of compacted entries
runs_stand : (history : List Operation) (entries compacted : List EntryValue) → IsLawful history
    → ((entry : EntryValue) → Has entries entry → StandsAlone history entry) → AreFusedRuns entries compacted
    → (entry : EntryValue) → Has compacted entry → StandsAlone history entry
runs_stand history entries [] lawful all runs entry h = absurd h
runs_stand history entries (whole ∷ others) lawful all runs entry h =
    let each : (one : EntryValue) → Has (runs.0 ++ runs.1) one → StandsAlone history one =
    subst (λ (es : List EntryValue). (one : EntryValue) → Has es one → StandsAlone history one) runs.2 all in
    elim h [
      | inl same ↦ subst (StandsAlone history) same (run_stands history lawful runs.0 whole runs.3 (λ one k. each one (has_left runs.0 runs.1 one k)))
      | inr more ↦ runs_stand history runs.1 others lawful (λ one k. each one (has_right runs.0 runs.1 one k)) runs.5 entry more
    ]

-- entries that stand for ranges, which are done
stand_alone : (history : List Operation) (entries : List EntryValue) (ranges : List Range) → AllZip (EntryStandsFor history) entries ranges
    → ((range : Range) → Has ranges range → IsDoneRange history range) → (entry : EntryValue) → Has entries entry → StandsAlone history entry
stand_alone history [] [] all done entry h = absurd h
stand_alone history (first ∷ entries) (range ∷ ranges) all done entry (inl same) =
    let whole : IsDoneRange history range = done range (inl refl) in
    subst (StandsAlone history) same (record {
      net = subst (λ (r : Range). IsNet history r first) (sym all.0.same) all.0;
      done = subst (λ (r : Range). IsDone history (last_dot r)) (sym all.0.same)
          (whole.done (last_dot range) (record { path = refl; above = whole.some; below = omega arith }));
    })
stand_alone history (first ∷ entries) (range ∷ ranges) all done entry (inr h) =
    stand_alone history entries ranges all.1 (λ one k. done one (inr k)) entry h
stand_alone history [] (range ∷ ranges) all done entry h = absurd all
stand_alone history (first ∷ entries) [] all done entry h = absurd all

-- and the other way
alone_stand : (history : List Operation) (entries : List EntryValue) → ((entry : EntryValue) → Has entries entry → StandsAlone history entry)
    → AllZip (EntryStandsFor history) entries (ranges_of entries)
alone_stand history [] all = tt
alone_stand history (entry ∷ entries) all = ((all entry (inl refl)).net, alone_stand history entries (λ one h. all one (inr h)))

-- the ranges of entries that stand for ranges are those
pub same_ranges : (history : List Operation) (entries : List EntryValue) (ranges : List Range) → AllZip (EntryStandsFor history) entries ranges → ranges_of entries ≡ ranges
same_ranges history [] [] all = refl
same_ranges history (entry ∷ entries) (range ∷ ranges) all = λ i. all.0.same i ∷ same_ranges history entries ranges all.1 i
same_ranges history [] (range ∷ ranges) all = absurd all
same_ranges history (entry ∷ entries) [] all = absurd all

module _ (history : List Operation) (old new : LocalClone) (stored : Stored) (held : List Range) (lawful : IsLawful history) (sound : IsSoundClone history stored)
    (stands : LocalStandsFor history old stored held) (compacts : LocallyCompacts old new) where
  -- the model's journal is compacted to the ranges of the compacted entries
  pub journal_compacted : AreCompacted stored.journal (ranges_of new.entries)
  journal_compacted =
      subst (λ (ranges : List Range). AreCompacted ranges (ranges_of new.entries)) (same_ranges history old.entries stored.journal stands.kept.entries)
      (fused_runs_are_compacted old.entries new.entries compacts.fused)

  -- and the clone stands for what is kept then
  pub compacted_stands : LocalStandsFor history new (record stored { journal = ranges_of new.entries }) held
  compacted_stands =
      let after : Stored = record stored { journal = ranges_of new.entries } in
      let same : (dot : Dot) → Knows (known_of stored) dot ↔ Knows (known_of after) dot = λ dot. known_compacted stored (ranges_of new.entries) dot journal_compacted in
      let entries : AllZip (EntryStandsFor history) new.entries (ranges_of new.entries) =
      alone_stand history new.entries (runs_stand history old.entries new.entries lawful
      (stand_alone history old.entries stored.journal stands.kept.entries (journal_done history stored.base stored.journal sound.journal)) compacts.fused) in
      let now : LocalStandsFor history (record old { entries = new.entries }) after held = record {
        kept = record { path = stands.kept.path; base = stands.kept.base; base_pairs = stands.kept.base_pairs; entries = entries };
        held = stands.held;
        known = λ dot. (λ c. (same dot).0 ((stands.known dot).0 c), λ k. (stands.known dot).1 ((same dot).1 k));
        pairs = same_known history (known_of stored) (known_of after) old.pairs (λ dot. (same dot).0) (λ dot. (same dot).1) stands.pairs;
      } in
      subst (λ (clone : LocalClone). LocalStandsFor history clone after held) (sym compacts.rest) now

-- a clone whose entries are entries is one once its journal is compacted: its clock and pairs are what the journal leads to
pub compacted_local : (old new : LocalClone) → ((entry : EntryValue) → Has old.entries entry → IsEntry entry) → IsLocal old → LocallyCompacts old new → IsLocal new
compacted_local old new all local compacts =
    let now : IsLocal (record old { entries = new.entries }) = record {
      named = local.named;
      base = local.base;
      base_pairs = local.base_pairs;
      base_covered = local.base_covered;
      leads = compacted_leads old.base old.base_pairs old.entries new.entries old.ticks old.pairs local.base_covered all local.leads compacts.fused;
      covered = local.covered;
      held = local.held;
    } in
    subst IsLocal (sym compacts.rest) now
