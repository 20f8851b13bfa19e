-- The clauses of a run of a generated schedule, from those of the replay of its text and of the report of its counts.
use Rattle.std.specs.Prelude.{IfSome, IsTrue}
use Rattle.std.proofs.lemmas.Fmt.{decimal_injective}
use Rattle.std.proofs.Common.{◌≡◌, ◌≢◌, ◌∙◌, ◌<◌, ◌≤◌, ◌^◌, refl, sym, ap, subst, arith, ℕ, zero, suc, ◌+◌, List, [], ◌∷◌, length, Option, Some, None, Err}
use Rattle.mld_io.specs.Arm.{Meter}
use Rattle.mld_io.specs.Disk.{Log}
use Rattle.mld_io.specs.Faults.{HasWriteCause}
use Rattle.mld_io.specs.declared.faults.WriteFault.{WriteFault}
use Rattle.mld_io.specs.declared.faults.WriteFault.TheVariants as writes
use Rattle.mld_io.specs.Lines.{lines_of, after_line}
use Rattle.mld_io.proofs.LinesLaws.{length-line_size, length-first_line}
use Rattle.schedule_generator.specs.Generated.{drawn_line, lines_from, generated, text_of}
use Rattle.schedule_generator.proofs.GeneratedText.{generated_text, generated_short}
use Rattle.mld_model.specs.World.{World}
use Rattle.schedule_text.specs.schedule_model.Promises.{KeepsPromises}
use Rattle.schedule_text.specs.schedule_model.Runs.{Stage, Running, Outcome, Finished, BadLine, Verdict}
use Rattle.net_world.specs.declared.summaries.Summary.{Summary}
use Rattle.mld_replay.specs.BankFaults.{ComeBackWell, all_left, ReturnsBanks}
use Rattle.mld_replay.specs.Counts.{counts_text}
use Rattle.mld_replay.specs.Filled.{IsFirstFilled, EndsBefore, LogsStay, RefusesFilledBanks}
use Rattle.mld_replay.specs.GeneratedRuns.{AreGivenLines, of_source, of_seed, HasCounts, WritesCounts, WritesSomeCounts, as_replay, at_counts, EndsGenerated, IsFaultWithin, EndedWell, IsCountFault, failed, no_memory, ReportsCounts, not_due, reported, refused}
use Rattle.mld_replay.specs.KeptBanks.{BanksKeep}
use Rattle.mld_replay.specs.Ran.{tells, IsReplay, Finishes, Saying, short_before, says_of, ReplayEnds, EndsAs, Agrees, LeavesAlone, CountsReads, CountsWrites, CountsFaults}
use Rattle.mld_replay.specs.RunSummaries.{TellsOf}
use Rattle.input_lines.specs.TooLarge.{left_after, size_of_lines, IsTooLargeLine}
use Rattle.input_lines.specs.Untouched.{AreUntouched}
use Rattle.mld_replay.specs.ReplayWords.{IsGenerate, command_limit}
use Rattle.mld_replay.specs.Replaying.{run_fault_of_write}
use Rattle.mld_replay.proofs.BlankLemmas.{stay_less}
use Rattle.mld_replay.proofs.SpelledLines.{never_bad}
use Rattle.mld_replay.specs.declared.run.Ran.{Ran}
use Rattle.mld_replay.specs.declared.run.RunFault.{RunFault}
use Rattle.mld_replay.specs.declared.run.RunFault.TheVariants as faults

-- ---- why counts were not written

pub count_fault : {T : Type 0} (fault : WriteFault) (before now : ℕ) → HasWriteCause {T = T} before now (Err fault) → IsCountFault before now (run_fault_of_write fault)
count_fault writes.Failed before now cause = failed refl (cause.failed refl)
count_fault writes.NoMemory before now cause = no_memory refl

-- ---- a replay of a text

-- neither its source nor its sink can fail
pub within_of : (fault : Option RunFault) → fault ≢ Some faults.Usage → CountsFaults fault 0 0 0 0 → IfSome fault IsFaultWithin
within_of None known counts = tt
within_of (Some faults.Usage) known counts = known refl
within_of (Some faults.ReadFault) known counts = let rose = counts.read in omega (arith, rose)
within_of (Some faults.WriteFault) known counts = let rose = counts.write in omega (arith, rose)
within_of (Some (faults.BadLine line)) known counts = tt
within_of (Some faults.NoMemory) known counts = tt
within_of (Some (faults.Device clone)) known counts = tt
within_of (Some (faults.TooLarge line)) known counts = tt
within_of (Some (faults.NotEmpty clone)) known counts = tt

-- what banks that have bytes make of a run, by another word for what is untouched
pub heeds_as : {B : Type 0} (log : B → Option Log) (old new : List B) (fault : Option RunFault) (U V : Type 0) → (U → V) → RefusesFilledBanks log old new fault U → RefusesFilledBanks log old new fault V
heeds_as log old new fault U V holds heeds = record { names = heeds.names; ends = heeds.ends; untouched = λ clone first. holds (heeds.untouched clone first); logs = heeds.logs }

-- memory ran out before banks were looked at
pub memory_heeds : {B : Type 0} (log : B → Option Log) (banks : List B) (Untouched : Type 0) → Untouched → RefusesFilledBanks log banks banks (Some faults.NoMemory) Untouched
memory_heeds {B = B} log banks Untouched untouched = record {
  names = λ clone is. absurd (cc (is));
  ends = λ clone first. tt;
  untouched = λ clone first. untouched;
  logs = λ clone first number was now was_at now_at. ap log (one_is (sym now_at ∙ was_at));
}
  where
    one_is : {one other : B} → ◌≡◌ {A = Option B} (Some one) (Some other) → one ≡ other
    one_is same = cc

-- ---- the report of its counts

-- where no clone is founded nothing is told of one
told_some : (told : Option Summary) (world : World) → TellsOf told (Running world) → (summary : Summary) × (told ≡ Some summary)
told_some None world tells = absurd tells
told_some (Some summary) world tells = (summary, refl)

-- the counts of a replay that ended well
has_counts : {B : Type 0} (log : B → Option Log) (ran : Ran B) (P : Stage → Type 0) → ((stage : Stage) → EndsAs log ran stage → P stage) → (given : List (List ℕ)) (left : Option (List ℕ)) (lines : ℕ) (summary : Summary)
    → lines_of (text_of given) ≡ given → lines ≡ length given → ran.world ≡ Some summary → Finishes (EndsAs log ran) (text_of given) left None None → HasCounts P given (counts_text lines summary.clones.items)
has_counts log ran P holds given left lines summary own counted told ends = record {
  text = ends.text;
  world = ends.world;
  verdict = subst (λ (ls : List (List ℕ)). Verdict ls (Finished ends.text ends.world)) own ends.verdict;
  keeps = subst (λ (ls : List (List ℕ)). KeepsPromises ls ends.world) own ends.keeps;
  holds = holds (Running ends.world) ends.holds;
  summary = summary;
  told = subst (λ (o : Option Summary). TellsOf o (Running ends.world)) told ends.holds.told;
  counts_are = ap (λ (n : ℕ). counts_text n summary.clones.items) counted;
}

-- the text of these lines has just them, and none of them is bad or too large
pub record NeverStops (given : List (List ℕ)) : Type 0 where
  pub own : lines_of (text_of given) ≡ given
  pub bad : (number : ℕ) (text : List ℕ) (stage : Stage) → ¬ Verdict given (BadLine number text stage)
  pub large : (before : ℕ) → ¬ IsTooLargeLine (text_of given) before

-- no line of so short a text is too large
sizes : (before : ℕ) (bytes : List ℕ) → size_of_lines before bytes + length (left_after before bytes) ≡ length bytes
sizes zero bytes = omega arith
sizes (suc before) bytes = let rest = sizes before (after_line bytes) in let first = length-line_size bytes in omega (arith, rest, first)

pub never_large : (bytes : List ℕ) → length bytes ≤ 1048576 → (before : ℕ) → ¬ IsTooLargeLine bytes before
never_large bytes short before large =
    let all = sizes before bytes in
    let line = length-line_size (left_after before bytes) in
    let first = length-first_line (left_after before bytes) in
    large.too_large (omega (arith, short, all, line, first), omega (arith, short, all, line, first))

-- the counts were not due
quiet_end : {B : Type 0} (log : B → Option Log) (old : List B) (ran : Ran B) (given : List (List ℕ)) → NeverStops given → (left before after : Option (List ℕ)) (fault : Option RunFault) → IfSome fault IsFaultWithin → ran.fault ≡ fault
    → ReplayEnds (says_of log old ran) fault (text_of given) left None None → ((summary : Summary) → ¬ EndedWell ran summary) → after ≡ before
    → EndsGenerated (says_of log old ran) fault given before after
quiet_end log old ran given never left before after None within is ends due same =
    let told = told_some ran.world ends.world ends.holds.told in
    absurd (due told.0 (record { no_fault = is; told = told.1 }))
quiet_end log old ran given never left before after (Some faults.Usage) within is ends due same = within
quiet_end log old ran given never left before after (Some faults.ReadFault) within is ends due same = within
quiet_end log old ran given never left before after (Some faults.WriteFault) within is ends due same = absurd within
quiet_end log old ran given never left before after (Some (faults.BadLine line)) within is ends due same =
    absurd (never.bad line ends.text ends.stage (subst (λ (ls : List (List ℕ)). Verdict ls (BadLine line ends.text ends.stage)) never.own ends.verdict))
quiet_end log old ran given never left before after (Some faults.NoMemory) within is ends due same = as_replay (record { none_written = same; left = left; ends = ends })
quiet_end log old ran given never left before after (Some (faults.Device clone)) within is ends due same = record { none_written = same; left = left; ends = ends }
quiet_end log old ran given never left before after (Some (faults.TooLarge line)) within is ends due same =
    absurd (never.large (length ends.done.front) (ends.meets (length ends.done.front) ends.done.counted).large)
quiet_end log old ran given never left before after (Some (faults.NotEmpty clone)) within is ends due same = same

-- what may be said of a fault of counting
module _ (before now : ℕ) (fault : RunFault) where
  count_fault_is : (P : RunFault → Type 0) → IsCountFault before now fault → P faults.WriteFault → P faults.NoMemory → P fault
  count_fault_is P (failed is rose) write memory = subst P (sym is) write
  count_fault_is P (no_memory is) write memory = subst P (sym is) memory

  count_fault_counts : IsCountFault before now fault → CountsWrites before now (Some fault)
  count_fault_counts (failed is rose) = subst (λ (f : RunFault). CountsWrites before now (Some f)) (sym is) rose
  count_fault_counts (no_memory is) = subst (λ (f : RunFault). CountsWrites before now (Some f)) (sym is) tt

  count_fault_no_bank : IsCountFault before now fault → (clone : ℕ) → Some fault ≢ Some (faults.NotEmpty clone)
  count_fault_no_bank (failed is rose) clone e = let same : faults.WriteFault ≡ faults.NotEmpty clone = cc (is, e) in absurd (cc (same))
  count_fault_no_bank (no_memory is) clone e = let same : faults.NoMemory ≡ faults.NotEmpty clone = cc (is, e) in absurd (cc (same))

-- the counts of the sink's faults, where nothing was written and the source and the sink in memory can't fail
writes_still : (count : ℕ) (fault : Option RunFault) → IfSome fault IsFaultWithin → CountsWrites count count fault
writes_still count None within = refl
writes_still count (Some faults.Usage) within = absurd within
writes_still count (Some faults.ReadFault) within = absurd within
writes_still count (Some faults.WriteFault) within = absurd within
writes_still count (Some (faults.BadLine line)) within = refl
writes_still count (Some faults.NoMemory) within = tt
writes_still count (Some (faults.Device clone)) within = refl
writes_still count (Some (faults.TooLarge line)) within = refl
writes_still count (Some (faults.NotEmpty clone)) within = refl

module _ {B : Type 0} (ran next : Ran B) (lines : ℕ) (Untouched : Type 0) (before after : Option (List ℕ)) (count now : ℕ) where
  -- what holds of a run holds of it reported, unless its counts were refused
  report_as : (P : Ran B → Type 0) → ReportsCounts ran next lines Untouched before after count now → P ran
      → ((summary : Summary) (fault : RunFault) → EndedWell ran summary → IsCountFault count now fault → next.fault ≡ Some fault → next.banks ≡ ran.banks → next.world ≡ None → P next) → P next
  report_as P (not_due due same untouched) holds otherwise = subst P (sym same) holds
  report_as P (reported summary well same written quiet) holds otherwise = subst P (sym same) holds
  report_as P (refused summary well fault cause is banks none size written) holds otherwise = otherwise summary fault well cause is banks none

  pub report_ends : (log : B → Option Log) (old : List B) (given : List (List ℕ)) → NeverStops given → lines ≡ length given → IfSome ran.fault IsFaultWithin
      → ((left : Option (List ℕ)) × ReplayEnds (says_of log old ran) ran.fault (text_of given) left None None) → (Untouched → after ≡ before)
      → ReportsCounts ran next lines Untouched before after count now → EndsGenerated (says_of log old next) next.fault given before after
  report_ends log old given never counted within ends held (not_due due same untouched) =
      subst (λ (r : Ran B). EndsGenerated (says_of log old r) r.fault given before after) (sym same)
      (quiet_end log old ran given never ends.0 before after ran.fault within refl ends.1 due (held untouched))
  report_ends log old given never counted within ends held (reported summary well same written quiet) =
      let done : Finishes (EndsAs log ran) (text_of given) ends.0 None None =
      subst (λ (f : Option RunFault). ReplayEnds (says_of log old ran) f (text_of given) ends.0 None None) well.no_fault ends.1 in
      let whole : WritesCounts (EndsAs log ran) given before after = record {
        counts = counts_text lines summary.clones.items;
        has = has_counts log ran (EndsAs log ran) (λ stage holds. holds) given ends.0 lines summary never.own counted well.told done;
        written = written;
      } in
      subst (λ (r : Ran B). EndsGenerated (says_of log old r) r.fault given before after) (sym same)
      (subst (λ (f : Option RunFault). EndsGenerated (says_of log old ran) f given before after) (sym well.no_fault) whole)
  report_ends log old given never counted within ends held (refused summary well fault cause is banks none size written) =
      let done : Finishes (EndsAs log ran) (text_of given) ends.0 None None =
      subst (λ (f : Option RunFault). ReplayEnds (says_of log old ran) f (text_of given) ends.0 None None) well.no_fault ends.1 in
      let kept : (stage : Stage) → EndsAs log ran stage → BanksKeep log next.banks.items stage =
      λ stage holds. subst (λ (bs : List B). BanksKeep log bs stage) (sym (ap (λ b. b.items) banks)) holds.kept in
      let front : WritesSomeCounts (BanksKeep log next.banks.items) given before after = record {
        counts = counts_text lines summary.clones.items;
        has = has_counts log ran (BanksKeep log next.banks.items) kept given ends.0 lines summary never.own counted well.told done;
        size = size;
        written = written;
      } in
      subst (λ (f : Option RunFault). EndsGenerated (says_of log old next) f given before after) (sym is)
      (count_fault_is count now fault (λ f. EndsGenerated (says_of log old next) (Some f) given before after) cause front (at_counts front))

  pub report_filled : (log : B → Option Log) (old : List B) → RefusesFilledBanks log old ran.banks.items ran.fault (Unit {0}) → ReportsCounts ran next lines Untouched before after count now
      → RefusesFilledBanks log old next.banks.items next.fault Untouched
  report_filled log old heeds (not_due due same untouched) =
      subst (λ (r : Ran B). RefusesFilledBanks log old r.banks.items r.fault Untouched) (sym same) (heeds_as log old ran.banks.items ran.fault (Unit {0}) Untouched (λ _. untouched) heeds)
  report_filled log old heeds (reported summary well same written quiet) =
      let none_first : (clone : ℕ) → ¬ IsFirstFilled log old clone = λ clone first. subst (λ (f : Option RunFault). EndsBefore f clone) well.no_fault (heeds.ends clone first) in
      let no_fault : next.fault ≡ None = ap (λ (r : Ran B). r.fault) same ∙ well.no_fault in record {
        names = λ clone is. absurd (cc (no_fault, is));
        ends = λ clone first. absurd (none_first clone first);
        untouched = λ clone first. absurd (none_first clone first);
        logs = λ clone first. absurd (none_first clone first);
      }
  report_filled log old heeds (refused summary well fault cause is banks none size written) =
      let none_first : (clone : ℕ) → ¬ IsFirstFilled log old clone = λ clone first. subst (λ (f : Option RunFault). EndsBefore f clone) well.no_fault (heeds.ends clone first) in record {
        names = λ clone e. absurd (count_fault_no_bank count now fault cause clone (sym is ∙ e));
        ends = λ clone first. absurd (none_first clone first);
        untouched = λ clone first. absurd (none_first clone first);
        logs = λ clone first. absurd (none_first clone first);
      }

  pub report_untouched : (clone : ℕ) → ReportsCounts ran next lines Untouched before after count now → next.fault ≡ Some (faults.NotEmpty clone) → Untouched
  report_untouched clone (not_due due same untouched) is = untouched
  report_untouched clone (reported summary well same written quiet) is = let no_fault : next.fault ≡ None = ap (λ (r : Ran B). r.fault) same ∙ well.no_fault in absurd (cc (no_fault, is))
  report_untouched clone (refused summary well fault cause is_fault banks none size written) is = absurd (count_fault_no_bank count now fault cause clone (sym is_fault ∙ is))

  pub report_back : (meter : B → Meter) (old : List B) → ReturnsBanks meter old ran.banks.items ran.fault → ReportsCounts ran next lines Untouched before after count now
      → ReturnsBanks meter old next.banks.items next.fault
  report_back meter old back reports = report_as (λ (r : Ran B). ReturnsBanks meter old r.banks.items r.fault) reports back (λ summary fault well cause is banks none.
      let all : ComeBackWell meter old ran.banks.items = subst (λ (f : Option RunFault). ReturnsBanks meter old ran.banks.items f) well.no_fault back in
      let here : ComeBackWell meter old next.banks.items = subst (λ (bs : List B). ComeBackWell meter old bs) (sym (ap (λ b. b.items) banks)) all in
      subst (λ (f : Option RunFault). ReturnsBanks meter old next.banks.items f) (sym is)
      (count_fault_is count now fault (λ f. ReturnsBanks meter old next.banks.items (Some f)) cause here (all_left here)))

  pub report_silent : (¬ IsTrue (tells ran.fault) → ran.world ≡ None) → ReportsCounts ran next lines Untouched before after count now → ¬ IsTrue (tells next.fault) → next.world ≡ None
  report_silent silent reports = report_as (λ (r : Ran B). ¬ IsTrue (tells r.fault) → r.world ≡ None) reports silent (λ summary fault well cause is banks none _. none)

  pub report_counts : IfSome ran.fault IsFaultWithin → (Untouched → now ≡ count) → ReportsCounts ran next lines Untouched before after count now → CountsWrites count now next.fault
  report_counts within held (not_due due same untouched) =
      subst (λ (r : Ran B). CountsWrites count now r.fault) (sym same) (subst (λ (n : ℕ). CountsWrites count n ran.fault) (sym (held untouched)) (writes_still count ran.fault within))
  report_counts within held (reported summary well same written quiet) =
      let no_fault : next.fault ≡ None = ap (λ (r : Ran B). r.fault) same ∙ well.no_fault in
      subst (λ (f : Option RunFault). CountsWrites count now f) (sym no_fault) quiet
  report_counts within held (refused summary well fault cause is banks none size written) =
      subst (λ (f : Option RunFault). CountsWrites count now f) (sym is) (count_fault_counts count now fault cause)

  pub report_exact : (outcome : Outcome) → Agrees ran.fault outcome → ReportsCounts ran next lines Untouched before after count now → Agrees next.fault outcome
  report_exact outcome agrees reports = report_as (λ (r : Ran B). Agrees r.fault outcome) reports agrees (λ summary fault well cause is banks none.
      subst (λ (f : Option RunFault). Agrees f outcome) (sym is) (count_fault_is count now fault (λ f. Agrees (Some f) outcome) cause tt tt))

-- memory ran out before there was a text
pub out_of_text : {B : Type 0} (log : B → Option Log) (old : List B) (ran : Ran B) (given : List (List ℕ)) (before : Option (List ℕ)) → LogsStay log old ran.banks.items
    → ran.fault ≡ Some faults.NoMemory → EndsGenerated (says_of log old ran) ran.fault given before before
out_of_text log old ran given before stay is = subst (λ (f : Option RunFault). EndsGenerated (says_of log old ran) f given before before) (sym is) (as_replay (record {
  none_written = refl;
  left = Some (text_of given);
  ends = short_before (record { all_left = refl; none_written = refl }) (stay_less log old ran.banks.items stay);
}))

-- each of the same banks keeps its log
pub logs_same : {B : Type 0} (log : B → Option Log) (banks : List B) → LogsStay log banks banks
logs_same {B = B} log banks = λ number was now was_at now_at. ap log (one_is (sym now_at ∙ was_at))
  where
    one_is : {one other : B} → ◌≡◌ {A = Option B} (Some one) (Some other) → one ≡ other
    one_is same = cc

-- ---- the run by its words

-- the words of a seed are not those of a replay, and name one seed and number
pub not_both : (words : List (List ℕ)) (seed count : ℕ) → IsReplay words → ¬ IsGenerate words seed count
not_both words seed count replay generate = ends_apart (sym replay ∙ generate.whole)
  where
    ends_apart : {a b c d : List ℕ} → ◌≡◌ {A = List (List ℕ)} (a ∷ []) (b ∷ c ∷ d ∷ []) → ⊥
    ends_apart e = let lengths : 1 ≡ 3 = ap length e in omega (arith, lengths)

pub one_seed : (words : List (List ℕ)) (seed count other more : ℕ) → IsGenerate words seed count → IsGenerate words other more → (other ≡ seed) × (more ≡ count)
one_seed words seed count other more first second =
    let same = parts (sym second.whole ∙ first.whole) in
    let few : count ≤ 10000 = first.few in
    let fewer : more ≤ 10000 = second.few in
    (decimal_injective other seed second.small first.small same.0, decimal_injective more count (omega (arith, fewer)) (omega (arith, few)) same.1)
  where
    parts : {a b c d e f : List ℕ} → ◌≡◌ {A = List (List ℕ)} (a ∷ b ∷ c ∷ []) (d ∷ e ∷ f ∷ []) → (b ≡ e) × (c ≡ f)
    parts h = (cc, cc)

-- neither usage nor a read fault comes of a seed
pub generated_known : (says : Saying) (fault : Option RunFault) (given : List (List ℕ)) (before after : Option (List ℕ)) → EndsGenerated says fault given before after → fault ≢ Some faults.Usage
generated_known says fault given before after ends is = subst (λ (f : Option RunFault). EndsGenerated says f given before after) is ends

pub generated_reads : (says : Saying) (fault : Option RunFault) (given : List (List ℕ)) (before after : Option (List ℕ)) (count : ℕ) → EndsGenerated says fault given before after → CountsReads count count fault
generated_reads says None given before after count ends = refl
generated_reads says (Some faults.Usage) given before after count ends = refl
generated_reads says (Some faults.ReadFault) given before after count ends = absurd ends
generated_reads says (Some faults.WriteFault) given before after count ends = refl
generated_reads says (Some (faults.BadLine line)) given before after count ends = refl
generated_reads says (Some faults.NoMemory) given before after count ends = tt
generated_reads says (Some (faults.Device clone)) given before after count ends = refl
generated_reads says (Some (faults.TooLarge line)) given before after count ends = refl
generated_reads says (Some (faults.NotEmpty clone)) given before after count ends = refl

pub generated_alone : {S K : Type 0} (says : Saying) (fault : Option RunFault) (given : List (List ℕ)) (before after : Option (List ℕ)) (source : S) (sink held : K) (SameBanks : Type 0)
    → EndsGenerated says fault given before after → ((clone : ℕ) → fault ≡ Some (faults.NotEmpty clone) → held ≡ sink) → LeavesAlone fault (AreUntouched source source sink held) SameBanks
generated_alone says None given before after source sink held SameBanks ends same = tt
generated_alone says (Some faults.Usage) given before after source sink held SameBanks ends same = absurd ends
generated_alone says (Some faults.ReadFault) given before after source sink held SameBanks ends same = tt
generated_alone says (Some faults.WriteFault) given before after source sink held SameBanks ends same = tt
generated_alone says (Some (faults.BadLine line)) given before after source sink held SameBanks ends same = absurd ends
generated_alone says (Some faults.NoMemory) given before after source sink held SameBanks ends same = tt
generated_alone says (Some (faults.Device clone)) given before after source sink held SameBanks ends same = tt
generated_alone says (Some (faults.TooLarge line)) given before after source sink held SameBanks ends same = absurd ends
generated_alone says (Some (faults.NotEmpty clone)) given before after source sink held SameBanks ends same = record { source_is = refl; sink_is = same clone refl }

-- how many lines there are
counted_lines : (count number x : ℕ) → length (lines_from number x count) ≡ count
counted_lines zero number x = refl
counted_lines (suc count) number x = ap suc (counted_lines count (number + 1) (drawn_line number x).state)

pub counted : (seed count given : ℕ) → given ≡ count → given + 1 ≡ length (generated seed count)
counted seed count given same = let lines = counted_lines count 1 seed in omega (arith, same, lines)

-- the lines of a seed never stop a run
pub seed_never_stops : (seed count : ℕ) → count ≤ command_limit → NeverStops (generated seed count)
seed_never_stops seed count few =
    let small : count < 2 ^ 32 = omega (arith, few) in
    let short = generated_short seed count small in record {
      own = generated_text seed count small;
      bad = λ number text stage. never_bad seed count number text stage small;
      large = never_large (text_of (generated seed count)) (omega (arith, few, short));
    }

-- a run agrees with each verdict on the lines that its words give
pub exact_source : (fault : Option RunFault) (words : List (List ℕ)) (left : Option (List ℕ)) (lines : List (List ℕ)) → IsReplay words → AreGivenLines words left lines → (outcome : Outcome) → Verdict lines outcome
    → ((bytes : List ℕ) → left ≡ Some bytes → (outcome : Outcome) → Verdict (lines_of bytes) outcome → Agrees fault outcome) → Agrees fault outcome
exact_source fault words left lines replay (of_source bytes said told is) outcome verdict exact = exact bytes told outcome (subst (λ (ls : List (List ℕ)). Verdict ls outcome) is verdict)
exact_source fault words left lines replay (of_seed seed count said is) outcome verdict exact = absurd (not_both words seed count replay said)

pub exact_seed : (fault : Option RunFault) (words : List (List ℕ)) (left : Option (List ℕ)) (lines : List (List ℕ)) (seed count : ℕ) → IsGenerate words seed count → AreGivenLines words left lines → (outcome : Outcome)
    → Verdict lines outcome → ((outcome : Outcome) → Verdict (generated seed count) outcome → Agrees fault outcome) → Agrees fault outcome
exact_seed fault words left lines seed count generate (of_source bytes said told is) outcome verdict exact = absurd (not_both words seed count said generate)
exact_seed fault words left lines seed count generate (of_seed other more said is) outcome verdict exact =
    let same = one_seed words seed count other more generate said in
    let lines_are : generated other more ≡ generated seed count = ap (λ (s : ℕ). generated s more) same.0 ∙ ap (λ (n : ℕ). generated seed n) same.1 in
    exact outcome (subst (λ (ls : List (List ℕ)). Verdict ls outcome) (is ∙ lines_are) verdict)

-- and ends as one of the seed that they name
pub ends_of_seed : (says : Saying) (fault : Option RunFault) (words : List (List ℕ)) (before after : Option (List ℕ)) (other more seed count : ℕ) → IsGenerate words seed count → IsGenerate words other more
    → EndsGenerated says fault (generated seed count) before after → EndsGenerated says fault (generated other more) before after
ends_of_seed says fault words before after other more seed count generate said ends =
    let same = one_seed words seed count other more generate said in
    let lines_are : generated seed count ≡ generated other more = ap (λ (s : ℕ). generated s count) (sym same.0) ∙ ap (λ (n : ℕ). generated other n) (sym same.1) in
    subst (λ (ls : List (List ℕ)). EndsGenerated says fault ls before after) lines_are ends
