-- Runs that nothing stops: each fault but want of memory is ruled out by a clause of `run`.
use Rattle.std.proofs.Common.{◌≡◌, ◌∙◌, ap, subst, refl, arith, ℕ, List, length, Option, None, Some}
use Rattle.mld_io.specs.Faults.{Rose}
use Rattle.schedule_generator.specs.Generated.{generated}
use Rattle.mld_replay.specs.BankFaults.{HadRealFault, ReturnsBanks}
use Rattle.mld_replay.specs.Completeness.{Telling, RunValue, RunClauses, NothingFailed, ReadsGoodLines, completes, lacks_memory, CompletesReplay, CompletesSeed, ReplaysComplete, SeedsComplete, ReplaysReadFew, RunsCompletely}
use Rattle.mld_replay.specs.GeneratedRuns.{EndsGenerated}
use Rattle.mld_replay.specs.Ran.{replay_status, ReplayEnds, says_of, CountsFaults}
use Rattle.mld_replay.specs.ReplayWords.{IsGenerate}
use Rattle.mld_replay.specs.declared.run.RunFault.{RunFault}
use Rattle.mld_replay.specs.declared.run.RunFault.TheVariants as faults
use Rattle.mld_replay.proofs.SummaryLemmas.{some_of_end, within_some}

module _ {S K B : Type 0} (of : Telling S K B) (run : RunValue S K B) (clauses : RunClauses of run) (quiet : NothingFailed of run) where
  -- the counts, said of a fault that is known
  counted_at : (fault : Option RunFault) → run.ran.fault ≡ fault
      → CountsFaults fault (of.read_faults run.source) (of.read_faults run.source_now) (of.write_faults run.sink) (of.write_faults run.sink_now)
  counted_at fault is =
      subst (λ (f : Option RunFault). CountsFaults f (of.read_faults run.source) (of.read_faults run.source_now) (of.write_faults run.sink) (of.write_faults run.sink_now)) is clauses.counts

  status_at : (fault : Option RunFault) → run.ran.fault ≡ fault → run.ran.status ≡ replay_status fault
  status_at fault is = clauses.status ∙ ap replay_status is

  -- the sink did not fail
  not_writing : run.ran.fault ≡ Some faults.WriteFault → ⊥
  not_writing is = quiet.of_sink (counted_at (Some faults.WriteFault) is).write

  -- no device failed
  not_device : (clone : ℕ) → run.ran.fault ≡ Some (faults.Device clone) → ⊥
  not_device clone is =
      let back : HadRealFault of.meter clone run.banks.items run.ran.banks.items = subst (λ (f : Option RunFault). ReturnsBanks of.meter run.banks.items run.ran.banks.items f) is clauses.back in
      let counted_so = back.fault in
      let rose : Rose (of.meter back.was).real_faults (of.meter back.now).real_faults = omega (arith, counted_so) in
      quiet.of_banks clone back.was back.now back.before back.behind rose

  -- no banks had bytes
  not_filled : (clone : ℕ) → run.ran.fault ≡ Some (faults.NotEmpty clone) → ⊥
  not_filled clone is = let first = clauses.filled.names clone is in quiet.empty clone first.one first.at first.filled

  -- ---- a replay

  module _ (bytes : List ℕ) (good : ReadsGoodLines of run bytes) where
    replay_at : (fault : Option RunFault) → run.ran.fault ≡ fault
        → ReplayEnds (says_of of.log run.banks.items run.ran) fault bytes (of.left run.source_now) (of.held run.sink) (of.held run.sink_now)
    replay_at fault is =
        subst (λ (f : Option RunFault). ReplayEnds (says_of of.log run.banks.items run.ran) f bytes (of.left run.source_now) (of.held run.sink) (of.held run.sink_now)) is
        (clauses.ends good.words bytes good.told)

    not_large : (line : ℕ) → run.ran.fault ≡ Some (faults.TooLarge line) → ⊥
    not_large line is = let ends = replay_at (Some (faults.TooLarge line)) is in good.none_large (length ends.done.front) (ends.meets (length ends.done.front) ends.done.counted).large

    replay_ends : (fault : Option RunFault) → run.ran.fault ≡ fault → CompletesReplay of run bytes
    replay_ends None is = completes (status_at None is) is (replay_at None is)
    replay_ends (Some faults.Usage) is = absurd ((clauses.usage.0 is).no_replay good.words)
    replay_ends (Some faults.ReadFault) is = absurd (good.of_source (counted_at (Some faults.ReadFault) is).read)
    replay_ends (Some faults.WriteFault) is = absurd (not_writing is)
    replay_ends (Some (faults.BadLine line)) is = let ends = replay_at (Some (faults.BadLine line)) is in absurd (good.none_bad line ends.text ends.stage ends.verdict)
    replay_ends (Some faults.NoMemory) is = lacks_memory (status_at (Some faults.NoMemory) is) is
    replay_ends (Some (faults.Device clone)) is = absurd (not_device clone is)
    replay_ends (Some (faults.TooLarge line)) is = absurd (not_large line is)
    replay_ends (Some (faults.NotEmpty clone)) is = absurd (not_filled clone is)

  -- ---- the lines of a seed

  module _ (seed count : ℕ) (words : IsGenerate run.words seed count) where
    seed_at : (fault : Option RunFault) → run.ran.fault ≡ fault
        → EndsGenerated (says_of of.log run.banks.items run.ran) fault (generated seed count) (of.held run.sink) (of.held run.sink_now)
    seed_at fault is =
        subst (λ (f : Option RunFault). EndsGenerated (says_of of.log run.banks.items run.ran) f (generated seed count) (of.held run.sink) (of.held run.sink_now)) is
        (clauses.generated seed count words).1

    seed_ends : (fault : Option RunFault) → run.ran.fault ≡ fault → CompletesSeed of run seed count
    seed_ends None is = completes (status_at None is) is (seed_at None is)
    seed_ends (Some faults.Usage) is = absurd (seed_at (Some faults.Usage) is)
    seed_ends (Some faults.ReadFault) is = absurd (seed_at (Some faults.ReadFault) is)
    seed_ends (Some faults.WriteFault) is = absurd (not_writing is)
    seed_ends (Some (faults.BadLine line)) is = absurd (seed_at (Some (faults.BadLine line)) is)
    seed_ends (Some faults.NoMemory) is = lacks_memory (status_at (Some faults.NoMemory) is) is
    seed_ends (Some (faults.Device clone)) is = absurd (not_device clone is)
    seed_ends (Some (faults.TooLarge line)) is = absurd (seed_at (Some (faults.TooLarge line)) is)
    seed_ends (Some (faults.NotEmpty clone)) is = absurd (not_filled clone is)

pub replays_complete : (S K B : Type 0) → ReplaysComplete S K B
replays_complete S K B of run bytes clauses quiet good = replay_ends of run clauses quiet bytes good run.ran.fault refl

pub seeds_complete : (S K B : Type 0) → SeedsComplete S K B
seeds_complete S K B of run seed count clauses quiet words = seed_ends of run clauses quiet seed count words run.ran.fault refl

pub replays_read_few : (S K B : Type 0) → ReplaysReadFew S K B
replays_read_few S K B of run clauses words bytes told =
    within_some bytes (of.left run.source_now) (of.held run.sink) (of.held run.sink_now)
    (some_of_end (says_of of.log run.banks.items run.ran) run.ran.fault bytes (of.left run.source_now) (of.held run.sink) (of.held run.sink_now) (clauses.ends words bytes told))

pub all_of_clauses : {S K B : Type 0} (of : Telling S K B) (run : RunValue S K B) → RunClauses of run → RunsCompletely of run
all_of_clauses {S = S} {K = K} {B = B} of run clauses = record {
  clauses = clauses;
  replay = λ bytes quiet good. replays_complete S K B of run bytes clauses quiet good;
  seed = λ seed count quiet words. seeds_complete S K B of run seed count clauses quiet words;
  few = λ words. replays_read_few S K B of run clauses words;
}
