-- The clauses of a run: what the replay says of its state is said of what the run tells and gives back.
use Rattle.std.specs.Prelude.{Result, Ok, Err, IfErr, IfSome, IsTrue}
use Rattle.std.specs.Result.{result_err}
use Rattle.std.specs.Io.KnownBytes.{Appends}
use Rattle.std.proofs.lemmas.Bool.{cases_lt}
use Rattle.std.proofs.Common.{◌≡◌, ◌≢◌, ◌⊎◌, ◌∙◌, ◌+◌, arith, inl, inr, ap, ℕ, List, [], length, sym, subst, refl, append-nil, Option, Some, None}
use Rattle.mld_io.specs.Arm.{Meter}
use Rattle.mld_io.specs.Disk.{Log}
use Rattle.mld_io.specs.Lines.{lines_of}
use Rattle.mld_model.specs.World.{World}
use Rattle.schedule_text.specs.schedule_model.Runs.{Stage, Running, RunsBefore, Outcome, Finished, BadLine, Verdict}
use Rattle.schedule_text.specs.schedule_model.Laws.{AreOfOneKind}
use Rattle.schedule_text.proofs.of_schedule_model.RunsLaws.{one_kind_of_verdict}
use Rattle.mld_replay.specs.BankFaults.{ComeBackWell, none_left, BringsBack}
use Rattle.mld_replay.specs.Filled.{IsFirstFilled, EndsBefore, LogsStay, RefusesFilledBanks}
use Rattle.mld_replay.specs.Looking.{AreEmpty, StopsLooking, StopsBlanking}
use Rattle.mld_replay.specs.Ran.{Finishes, StopsAtBad, StopsAtLarge, BreaksOff, WritesFront, WritesWhole, WritesSome, Saying, FailsSo, fails_before, fails_amid, RunsShort, short_before, short_amid, short_writing, short_of_banks, ReplayEnds, says_of, Agrees, LeavesAlone, CountsReads, CountsWrites, tells}
use Rattle.input_lines.specs.HowFar.{ReadsJust, ReadsInto, ReadsToNext, MeetsTooLarge, IsReadWithin}
use Rattle.input_lines.specs.Untouched.{AreUntouched, HasNotBegun}
use Rattle.input_lines.proofs.HowFarLemmas.{just_whole, into_first, within_just, within_into, within_large}
use Rattle.mld_replay.specs.BanksLeft.{AreLeftAmid, FailsAmid}
use Rattle.mld_replay.specs.Replaying.{EndsByFault, says_by, IsReplayFault}
use Rattle.mld_replay.specs.Stages.{StageStands, banks_of_stage}
use Rattle.mld_replay.specs.declared.stages.Stage.{Stage as RunningStage}
use Rattle.mld_replay.specs.declared.run.Ran.{Ran}
use Rattle.mld_replay.specs.declared.run.RunFault.{RunFault}
use Rattle.mld_replay.specs.declared.run.RunFault.TheVariants as faults
use Rattle.mld_replay.proofs.MeterLemmas.{back_later}
use Rattle.mld_replay.proofs.RunLemmas.{front_as, whole_as, whole_first}

-- ---- an end of a run says the same of what is told and kept as of the state

finishes_as : (P Q : Stage → Type 0) (bytes : List ℕ) (left before now : Option (List ℕ)) → ((stage : Stage) → P stage → Q stage) → Finishes P bytes left before now → Finishes Q bytes left before now
finishes_as P Q bytes left before now holds ends = record {
  text = ends.text;
  world = ends.world;
  verdict = ends.verdict;
  keeps = ends.keeps;
  all = ends.all;
  fits = ends.fits;
  written = ends.written;
  holds = holds (Running ends.world) ends.holds;
}

bad_as : (P Q : Stage → Type 0) (bytes : List ℕ) (line : ℕ) (left before now : Option (List ℕ)) → ((stage : Stage) → P stage → Q stage) → StopsAtBad P bytes line left before now → StopsAtBad Q bytes line left before now
bad_as P Q bytes line left before now holds ends = record {
  text = ends.text;
  stage = ends.stage;
  verdict = ends.verdict;
  read = ends.read;
  written = ends.written;
  holds = holds ends.stage ends.holds;
}

large_as : (P Q : Stage → Type 0) (bytes : List ℕ) (line : ℕ) (left before now : Option (List ℕ)) → ((stage : Stage) → P stage → Q stage) → StopsAtLarge P bytes line left before now → StopsAtLarge Q bytes line left before now
large_as P Q bytes line left before now holds ends = record {
  text = ends.text;
  stage = ends.stage;
  done = ends.done;
  meets = ends.meets;
  written = ends.written;
  holds = holds ends.stage ends.holds;
}

breaks_as : (P Q : Stage → Type 0) (bytes : List ℕ) (left before now : Option (List ℕ)) → ((stage : Stage) → P stage → Q stage) → BreaksOff P bytes left before now → BreaksOff Q bytes left before now
breaks_as P Q bytes left before now holds ends = record {
  lines = ends.lines;
  read = ends.read;
  text = ends.text;
  stage = ends.stage;
  done = ends.done;
  written = ends.written;
  holds = holds ends.stage ends.holds;
}

-- what is said at an end, whatever the fault is
module _ {B : Type 0} (log : B → Option Log) (running : RunningStage B) (says : Saying) (kept : (stage : Stage) → StageStands log running stage → says.kept stage)
    (amid : (stage : Stage) (rest : List (List ℕ)) → AreLeftAmid log (banks_of_stage running) stage rest → says.left stage rest)
    (failing : (clone : ℕ) (stage : Stage) (rest : List (List ℕ)) → FailsAmid log (banks_of_stage running) clone stage rest → says.failed clone stage rest) (none : banks_of_stage running ≡ [] → says.none)
    (bytes : List ℕ) (left before now : Option (List ℕ)) where
  fails_as : (clone : ℕ) → FailsSo (says_by log running) clone bytes left before now → FailsSo says clone bytes left before now
  fails_as clone (fails_before begun same) = absurd same
  fails_as clone (fails_amid whole) =
      fails_amid (whole_as (FailsAmid log (banks_of_stage running) clone) (says.failed clone) (λ n. ReadsJust bytes left (n + 1)) (λ n. ReadsJust bytes left (n + 1)) bytes before now (failing clone)
      (λ n read. read) whole)

  short_as : RunsShort (says_by log running) bytes left before now → RunsShort says bytes left before now
  short_as (short_before begun same) = absurd same
  short_as (short_amid whole) =
      short_amid (whole_as (AreLeftAmid log (banks_of_stage running)) says.left (ReadsToNext bytes left) (ReadsToNext bytes left) bytes before now amid (λ n read. read) whole)
  short_as (short_writing front) = short_writing (front_as (StageStands log running) says.kept bytes left before now kept front)
  short_as (short_of_banks gone some) = short_of_banks (none gone) some

  ends_as : (fault : Option RunFault) → (IsTrue (tells fault) → (stage : Stage) → StageStands log running stage → says.told stage) → ReplayEnds (says_by log running) fault bytes left before now
      → ReplayEnds says fault bytes left before now
  ends_as None told ends = finishes_as (StageStands log running) says.told bytes left before now (told refl) ends
  ends_as (Some faults.Usage) told ends = ends
  ends_as (Some faults.ReadFault) told ends = breaks_as (StageStands log running) says.told bytes left before now (told refl) ends
  ends_as (Some faults.WriteFault) told ends = front_as (StageStands log running) says.kept bytes left before now kept ends
  ends_as (Some (faults.BadLine line)) told ends = bad_as (StageStands log running) says.told bytes line left before now (told refl) ends
  ends_as (Some faults.NoMemory) told ends = short_as ends
  ends_as (Some (faults.Device clone)) told ends = fails_as clone ends
  ends_as (Some (faults.TooLarge line)) told ends = large_as (StageStands log running) says.told bytes line left before now (told refl) ends
  ends_as (Some (faults.NotEmpty clone)) told ends = ends

-- ---- at each end the text of a run was written, and a front of one reply more at most; and no more was read than the next line

-- it is the text of the lines before a line
some_before : (bytes : List ℕ) (number : ℕ) (text : List ℕ) (stage : Stage) (left before after : Option (List ℕ)) → RunsBefore (lines_of bytes) number text stage → Appends before after text
    → ((lines : ℕ) → number ≡ lines + 1 → ReadsToNext bytes left lines ⊎ MeetsTooLarge bytes left lines) → WritesSome bytes left before after
some_before bytes number text stage left before after runs written read =
    inl (record { lines = runs.front; rest = runs.rest; whole = runs.whole; text = text; stage = stage; runs = runs.runs; read = read (length runs.front) runs.counted; written = written; holds = tt })

-- or of all lines
some_all : (bytes text : List ℕ) (world : World) (left before after : Option (List ℕ)) → Verdict (lines_of bytes) (Finished text world) → Appends before after text
    → ReadsJust bytes left (length (lines_of bytes) + 1) → WritesSome bytes left before after
unfolding Verdict
some_all bytes text world left before after verdict written read =
    inl (record { lines = lines_of bytes; rest = []; whole = sym (append-nil (lines_of bytes)); text = text; stage = verdict.0; runs = verdict.1; read = inl (inr read); written = written; holds = tt })

-- or of those before the first that is bad

some_bad : (bytes : List ℕ) (number : ℕ) (text : List ℕ) (stage : Stage) (left before after : Option (List ℕ)) → Verdict (lines_of bytes) (BadLine number text stage) → Appends before after text
    → ReadsJust bytes left number → WritesSome bytes left before after
unfolding Verdict
some_bad bytes number text stage left before after verdict written read =
    some_before bytes number text stage left before after verdict.before written (λ lines is. inl (inr (subst (λ (n : ℕ). ReadsJust bytes left n) is read)))

-- or of those whose LF was read
some_broken : (P : Stage → Type 0) (bytes : List ℕ) (left before after : Option (List ℕ)) → BreaksOff P bytes left before after → WritesSome bytes left before after
some_broken P bytes left before after ends =
    some_before bytes (ends.lines + 1) ends.text ends.stage left before after ends.done ends.written
    (λ lines is. let same : ends.lines ≡ lines = omega (arith, is) in inl (inl (subst (λ (n : ℕ). ReadsInto bytes left n) same ends.read)))

-- or nothing was written
some_none : (bytes : List ℕ) (left before after : Option (List ℕ)) → HasNotBegun (Some bytes) left before after → WritesSome bytes left before after
some_none bytes left before after begun =
    subst (λ (o : Option (List ℕ)). WritesSome bytes left before o) (sym begun.none_written)
    (inl (whole_first (λ stage rest. Unit {0}) (λ lines. ReadsToNext bytes left lines ⊎ MeetsTooLarge bytes left lines) before bytes tt (inl (inl (into_first bytes left begun.all_left)))))

-- or it is that of the lines before the one under way

some_amid : (P : Stage → List (List ℕ) → Type 0) (Read : ℕ → Type 0) (bytes : List ℕ) (left before now : Option (List ℕ)) → ((lines : ℕ) → Read lines → ReadsToNext bytes left lines)
    → WritesWhole P Read bytes before now → WritesSome bytes left before now
some_amid P Read bytes left before now read whole =
    inl (whole_as P (λ stage rest. Unit {0}) Read (λ lines. ReadsToNext bytes left lines ⊎ MeetsTooLarge bytes left lines) bytes before now (λ stage rest holds. tt) (λ lines so. inl (read lines so)) whole)

some_front : (P : Stage → Type 0) (bytes : List ℕ) (left before now : Option (List ℕ)) → WritesFront P bytes left before now → WritesSome bytes left before now
some_front P bytes left before now front = inr (front_as P (λ stage. Unit {0}) bytes left before now (λ stage holds. tt) front)

some_failed : (says : Saying) (clone : ℕ) (bytes : List ℕ) (left before now : Option (List ℕ)) → FailsSo says clone bytes left before now → WritesSome bytes left before now
some_failed says clone bytes left before now (fails_before begun same) = some_none bytes left before now begun
some_failed says clone bytes left before now (fails_amid whole) = some_amid (says.failed clone) (λ lines. ReadsJust bytes left (lines + 1)) bytes left before now (λ lines read. inr read) whole

some_short : (says : Saying) (bytes : List ℕ) (left before now : Option (List ℕ)) → RunsShort says bytes left before now → WritesSome bytes left before now
some_short says bytes left before now (short_before begun same) = some_none bytes left before now begun
some_short says bytes left before now (short_amid whole) = some_amid says.left (ReadsToNext bytes left) bytes left before now (λ lines read. read) whole
some_short says bytes left before now (short_writing front) = some_front says.kept bytes left before now front
some_short says bytes left before now (short_of_banks none some) = some

pub some_of_end : (says : Saying) (fault : Option RunFault) (bytes : List ℕ) (left before now : Option (List ℕ)) → ReplayEnds says fault bytes left before now → WritesSome bytes left before now
some_of_end says None bytes left before now ends = some_all bytes ends.text ends.world left before now ends.verdict ends.written (just_whole bytes left ends.all ends.fits)
some_of_end says (Some faults.Usage) bytes left before now ends = some_none bytes left before now ends
some_of_end says (Some faults.ReadFault) bytes left before now ends = some_broken says.told bytes left before now ends
some_of_end says (Some faults.WriteFault) bytes left before now ends = some_front says.kept bytes left before now ends
some_of_end says (Some (faults.BadLine line)) bytes left before now ends = some_bad bytes line ends.text ends.stage left before now ends.verdict ends.written ends.read
some_of_end says (Some faults.NoMemory) bytes left before now ends = some_short says bytes left before now ends
some_of_end says (Some (faults.Device clone)) bytes left before now ends = some_failed says clone bytes left before now ends
some_of_end says (Some (faults.TooLarge line)) bytes left before now ends =
    some_before bytes line ends.text ends.stage left before now ends.done ends.written (λ lines is. inr (ends.meets lines is))
some_of_end says (Some (faults.NotEmpty clone)) bytes left before now ends = some_none bytes left before now ends

-- so it was no more than an input may have, and one byte

within_next : (bytes : List ℕ) (left : Option (List ℕ)) (lines : ℕ) → ReadsToNext bytes left lines ⊎ MeetsTooLarge bytes left lines → IsReadWithin bytes left
within_next bytes left lines (inl (inl into)) = within_into bytes left lines into
within_next bytes left lines (inl (inr just)) = within_just bytes left (lines + 1) just
within_next bytes left lines (inr meets) = within_large bytes left lines meets

pub within_some : (bytes : List ℕ) (left before now : Option (List ℕ)) → WritesSome bytes left before now → IsReadWithin bytes left
within_some bytes left before now (inl whole) = within_next bytes left (length whole.lines) whole.read
within_some bytes left before now (inr front) = within_just bytes left (length front.lines + 1) front.read

-- ---- the clauses of the run, where it came to the replay

module _ {B : Type 0} (log : B → Option Log) (fault : Option RunFault) (running : RunningStage B) (ran : Ran B) where
  pub ends_by : (given : List B) (bytes : List ℕ) (left before now : Option (List ℕ)) → EndsByFault log fault running ran → ReplayEnds (says_by log running) fault bytes left before now
      → ReplayEnds (says_of log given ran) ran.fault bytes left before now
  ends_by given bytes left before now (inl whole) ends =
      subst (λ (f : Option RunFault). ReplayEnds (says_of log given ran) f bytes left before now) (sym whole.fault_is)
      (ends_as log running (says_of log given ran) whole.kept (λ stage rest amid. subst (λ (l : List B). AreLeftAmid log l stage rest) (sym whole.banks_are) amid)
      (λ clone stage rest amid. subst (λ (l : List B). FailsAmid log l clone stage rest) (sym whole.banks_are) amid) (λ none. whole.banks_are ∙ none)
      bytes left before now fault (λ has stage stands. record { told = whole.told has stage stands; kept = whole.kept stage stands }) ends)
  ends_by given bytes left before now (inr short) ends =
      subst (λ (f : Option RunFault). ReplayEnds (says_of log given ran) f bytes left before now) (sym short.fault_is)
      (short_of_banks short.banks_are (some_of_end (says_by log running) fault bytes left before now ends))

  -- the meters of the banks go on
  pub back_by : (meter : B → Meter) (banks blanks : List B) → EndsByFault log fault running ran → ComeBackWell meter banks blanks → BringsBack meter blanks (banks_of_stage running) fault
      → BringsBack meter banks ran.banks.items ran.fault
  back_by meter banks blanks (inl whole) well back =
      subst (λ (f : Option RunFault). BringsBack meter banks ran.banks.items f) (sym whole.fault_is)
      (subst (λ (l : List B). BringsBack meter banks l fault) (sym whole.banks_are) (back_later meter banks blanks (banks_of_stage running) fault well back))
  back_by meter banks blanks (inr short) well back = subst (λ (f : Option RunFault). BringsBack meter banks ran.banks.items f) (sym short.fault_is) (none_left short.banks_are)

  -- what want of memory at the end leaves open is left open
  pub said_by : (P : Option RunFault → Type 0) → EndsByFault log fault running ran → P (Some faults.NoMemory) → P fault → P ran.fault
  said_by P (inl whole) memory holds = subst P (sym whole.fault_is) holds
  said_by P (inr short) memory holds = subst P (sym short.fault_is) memory

-- a fault of a replay is of neither kind that comes before

replay_fault : (result : Result (Unit {0}) RunFault) → IfErr result IsReplayFault → IfSome (result_err result) IsReplayFault
replay_fault (Ok done) begun = tt
replay_fault (Err fault) begun = begun

pub replay_alone : (result : Result (Unit {0}) RunFault) (Untouched SameBanks : Type 0) → IfErr result IsReplayFault → LeavesAlone (result_err result) Untouched SameBanks
replay_alone result Untouched SameBanks begun = alone (result_err result) (replay_fault result begun)
  where
    alone : (fault : Option RunFault) → IfSome fault IsReplayFault → LeavesAlone fault Untouched SameBanks
    alone (Some faults.Usage) begun = absurd begun
    alone (Some (faults.NotEmpty clone)) begun = absurd begun
    alone fault begun = tt

pub replay_not_usage : (result : Result (Unit {0}) RunFault) → IfErr result IsReplayFault → result_err result ≢ Some faults.Usage
replay_not_usage (Ok done) begun is = absurd (cc (is))
replay_not_usage (Err fault) begun is = let same : fault ≡ faults.Usage = cc (is) in absurd (subst IsReplayFault same begun)

pub replay_not_filled : (result : Result (Unit {0}) RunFault) (clone : ℕ) → IfErr result IsReplayFault → result_err result ≢ Some (faults.NotEmpty clone)
replay_not_filled (Ok done) clone begun is = absurd (cc (is))
replay_not_filled (Err fault) clone begun is = let same : fault ≡ faults.NotEmpty clone = cc (is) in absurd (subst IsReplayFault same begun)

-- the end of the lines, and the first bad one, agree with whatever is of one kind with them
agrees_at_end : (text : List ℕ) (world : World) (outcome : Outcome) → AreOfOneKind (Finished text world) outcome → Agrees None outcome
agrees_at_end text world (Finished other second) alike = tt
agrees_at_end text world (BadLine number other stage) alike = absurd alike

agrees_at_bad : (line : ℕ) (text : List ℕ) (stage : Stage) (outcome : Outcome) → AreOfOneKind (BadLine line text stage) outcome → Agrees (Some (faults.BadLine line)) outcome
agrees_at_bad line text stage (Finished other world) alike = absurd alike
agrees_at_bad line text stage (BadLine number other second) alike = alike

-- the run agrees with each verdict, by whichever choices
pub agrees_so : (says : Saying) (fault : Option RunFault) (bytes : List ℕ) (left before now : Option (List ℕ)) → ReplayEnds says fault bytes left before now
    → fault ≢ Some faults.Usage → (outcome : Outcome) → Verdict (lines_of bytes) outcome → Agrees fault outcome
agrees_so says None bytes left before now ends usage outcome verdict =
    agrees_at_end ends.text ends.world outcome (one_kind_of_verdict (lines_of bytes) (Finished ends.text ends.world) outcome ends.verdict verdict)
agrees_so says (Some faults.Usage) bytes left before now ends usage outcome verdict = absurd (usage refl)
agrees_so says (Some (faults.BadLine line)) bytes left before now ends usage outcome verdict =
    agrees_at_bad line ends.text ends.stage outcome (one_kind_of_verdict (lines_of bytes) (BadLine line ends.text ends.stage) outcome ends.verdict verdict)
agrees_so says (Some faults.ReadFault) bytes left before now ends usage outcome verdict = tt
agrees_so says (Some faults.WriteFault) bytes left before now ends usage outcome verdict = tt
agrees_so says (Some faults.NoMemory) bytes left before now ends usage outcome verdict = tt
agrees_so says (Some (faults.Device clone)) bytes left before now ends usage outcome verdict = tt
agrees_so says (Some (faults.TooLarge line)) bytes left before now ends usage outcome verdict = tt
agrees_so says (Some (faults.NotEmpty clone)) bytes left before now ends usage outcome verdict = tt

-- ---- where it did not come to the replay

pub left_alone : {S K : Type 0} (source : S) (sink : K) → AreUntouched source source sink sink
left_alone source sink = record { source_is = refl; sink_is = refl }

pub not_begun : (bytes : List ℕ) (given before : Option (List ℕ)) → given ≡ Some bytes → HasNotBegun (Some bytes) given before before
not_begun bytes given before told = record { all_left = told; none_written = refl }

-- the faults of banks before the first line
abbrev pub IsBankFault : RunFault → Type 0
IsBankFault (faults.NotEmpty clone) = Unit {0}
IsBankFault (faults.Device clone) = Unit {0}
IsBankFault faults.NoMemory = Unit {0}
IsBankFault fault = ⊥

pub looking_fault : {B : Type 0} (log : B → Option Log) (banks : List B) (fault : RunFault) → StopsLooking log banks fault → IsBankFault fault
looking_fault log banks (faults.NotEmpty clone) stops = tt
looking_fault log banks (faults.Device clone) stops = tt
looking_fault log banks faults.NoMemory stops = tt
looking_fault log banks fault stops = absurd stops

pub blanking_fault : {B : Type 0} (meter : B → Meter) (banks back : List B) (fault : RunFault) → StopsBlanking meter banks fault back → IsBankFault fault
blanking_fault meter banks back (faults.Device clone) stops = tt
blanking_fault meter banks back faults.NoMemory stops = tt
blanking_fault meter banks back fault stops = absurd stops

module _ (fault : RunFault) (banks : IsBankFault fault) where
  pub bank_ends : (says : Saying) (of : Option RunFault) (given before : Option (List ℕ)) (bytes : List ℕ) → of ≡ Some fault → given ≡ Some bytes → says.same
      → ReplayEnds says of bytes given before before
  bank_ends says of given before bytes is told same = subst (λ (f : Option RunFault). ReplayEnds says f bytes given before before) (sym is) (at fault banks)
    where
      at : (fault : RunFault) → IsBankFault fault → ReplayEnds says (Some fault) bytes given before before
      at (faults.NotEmpty clone) banks = not_begun bytes given before told
      at (faults.Device clone) banks = fails_before (not_begun bytes given before told) same
      at faults.NoMemory banks = short_before (not_begun bytes given before told) same
      at fault banks = absurd banks

  pub bank_alone : (Untouched SameBanks : Type 0) → Untouched → LeavesAlone (Some fault) Untouched SameBanks
  bank_alone Untouched SameBanks untouched = at fault banks
    where
      at : (fault : RunFault) → IsBankFault fault → LeavesAlone (Some fault) Untouched SameBanks
      at (faults.NotEmpty clone) banks = untouched
      at (faults.Device clone) banks = tt
      at faults.NoMemory banks = tt
      at fault banks = absurd banks

  pub bank_reads : (count : ℕ) → CountsReads count count (Some fault)
  bank_reads count = at fault banks
    where
      at : (fault : RunFault) → IsBankFault fault → CountsReads count count (Some fault)
      at (faults.NotEmpty clone) banks = refl
      at (faults.Device clone) banks = refl
      at faults.NoMemory banks = tt
      at fault banks = absurd banks

  pub bank_writes : (count : ℕ) → CountsWrites count count (Some fault)
  bank_writes count = at fault banks
    where
      at : (fault : RunFault) → IsBankFault fault → CountsWrites count count (Some fault)
      at (faults.NotEmpty clone) banks = refl
      at (faults.Device clone) banks = refl
      at faults.NoMemory banks = tt
      at fault banks = absurd banks

  pub bank_not_usage : Some fault ≢ Some faults.Usage
  bank_not_usage is = let same : fault ≡ faults.Usage = cc (is) in absurd (subst IsBankFault same banks)

  pub bank_agrees : (outcome : Outcome) → Agrees (Some fault) outcome
  bank_agrees outcome = at fault banks
    where
      at : (fault : RunFault) → IsBankFault fault → Agrees (Some fault) outcome
      at (faults.NotEmpty clone) banks = tt
      at (faults.Device clone) banks = tt
      at faults.NoMemory banks = tt
      at fault banks = absurd banks

-- the first banks that have bytes are one
one_filled : {B : Type 0} (log : B → Option Log) (banks : List B) (one other : ℕ) → IsFirstFilled log banks one → IsFirstFilled log banks other → one ≡ other
one_filled log banks one other first second = elim (cases_lt one other) [
  | inl below ↦ absurd (second.before one first.one below first.at first.filled)
  | inr above ↦ elim (cases_lt other one) [
    | inl below ↦ absurd (first.before other second.one below second.at second.filled)
    | inr same ↦ omega (arith, above, same)
  ]
]

-- a run that stopped looking at its banks ended before
ends_before : {B : Type 0} (log : B → Option Log) (banks : List B) (fault : RunFault) (number : ℕ) → StopsLooking log banks fault → IsFirstFilled log banks number → EndsBefore (Some fault) number
ends_before log banks faults.NoMemory number stops first = tt
ends_before log banks (faults.NotEmpty clone) number stops first = one_filled log banks clone number stops first
ends_before log banks (faults.Device clone) number stops first = elim (cases_lt number clone) [
  | inl below ↦ absurd (stops number first.one below first.at first.filled)
  | inr above ↦ above
]
ends_before log banks fault number stops first = absurd stops

looking_names : {B : Type 0} (log : B → Option Log) (banks : List B) (fault : RunFault) (clone : ℕ) → StopsLooking log banks fault → Some fault ≡ Some (faults.NotEmpty clone) → IsFirstFilled log banks clone
looking_names log banks fault clone stops is = let same : fault ≡ faults.NotEmpty clone = cc (is) in subst (λ (f : RunFault). StopsLooking log banks f) same stops

pub looking_heeds : {B : Type 0} (log : B → Option Log) (old new : List B) (fault : RunFault) (Untouched : Type 0) → StopsLooking log old fault → LogsStay log old new → Untouched
    → RefusesFilledBanks log old new (Some fault) Untouched
looking_heeds log old new fault Untouched stops logs untouched = record {
  names = λ clone is. looking_names log old fault clone stops is;
  ends = λ clone first. ends_before log old fault clone stops first;
  untouched = λ clone first. untouched;
  logs = λ clone first. logs;
}

-- no banks have bytes
pub empty_heeds : {B : Type 0} (log : B → Option Log) (old new : List B) (fault : Option RunFault) (Untouched : Type 0) → AreEmpty log old → ((clone : ℕ) → fault ≢ Some (faults.NotEmpty clone))
    → RefusesFilledBanks log old new fault Untouched
empty_heeds log old new fault Untouched empty differs = record {
  names = λ clone is. absurd (differs clone is);
  ends = λ clone first. absurd (empty clone first.one first.at first.filled);
  untouched = λ clone first. absurd (empty clone first.one first.at first.filled);
  logs = λ clone first. absurd (empty clone first.one first.at first.filled);
}

pub blanking_not_filled : {B : Type 0} (meter : B → Meter) (banks back : List B) (fault : RunFault) → StopsBlanking meter banks fault back → (clone : ℕ) → Some fault ≢ Some (faults.NotEmpty clone)
blanking_not_filled meter banks back fault stops clone is = let same : fault ≡ faults.NotEmpty clone = cc (is) in absurd (subst (λ (f : RunFault). StopsBlanking meter banks f back) same stops)

-- the words are others, and nothing was called
pub usage_heeds : {B : Type 0} (log : B → Option Log) (banks : List B) (Untouched : Type 0) → Untouched → RefusesFilledBanks log banks banks (Some faults.Usage) Untouched
usage_heeds {B = B} log banks Untouched untouched = record {
  names = λ clone is. absurd (cc (is));
  ends = λ clone first. tt;
  untouched = λ clone first. untouched;
  logs = λ clone first number was now was_at now_at. ap log (one_is (sym now_at ∙ was_at));
}
  where
    one_is : {one other : B} → ◌≡◌ {A = Option B} (Some one) (Some other) → one ≡ other
    one_is same = cc

-- banks that were not made blanks
blanking_back : {B : Type 0} (meter : B → Meter) (banks back : List B) (fault : RunFault) → StopsBlanking meter banks fault back → BringsBack meter banks back (Some fault)
blanking_back meter banks back faults.NoMemory stops = none_left stops
blanking_back meter banks back (faults.Device clone) stops = stops
blanking_back meter banks back fault stops = absurd stops

pub refused_back : {B : Type 0} (meter : B → Meter) (banks looked back : List B) (fault : RunFault) → ComeBackWell meter banks looked → StopsBlanking meter looked fault back
    → BringsBack meter banks back (Some fault)
refused_back meter banks looked back fault well stops = back_later meter banks looked back (Some fault) well (blanking_back meter looked back fault stops)

-- said of equal banks and an equal fault
pub back_told : {B : Type 0} (meter : B → Meter) (old given back : List B) (fault told : Option RunFault) → told ≡ fault → back ≡ given → BringsBack meter old given fault → BringsBack meter old back told
back_told {B = B} meter old given back fault told fault_is back_is brings =
    subst (λ (f : Option RunFault). BringsBack meter old back f) (sym fault_is) (subst (λ (l : List B). BringsBack meter old l fault) (sym back_is) brings)
