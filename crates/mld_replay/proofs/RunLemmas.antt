-- A replay from line to line, and how it ends.
use Rattle.std.proofs.Common.{◌≡◌, ◌≢◌, ◌⊎◌, ℕ, ◌+◌, ◌≤◌, ◌<◌, false, List, [], ◌∷◌, ◌++◌, ◌↔◌, refl, sym, ◌∙◌, ap, arith, subst, length, Option, None, Some, append_assoc, append-nil, length-append, get_or, map, take, drop, Bool, Err, Result, Ok, inl, inr}
use Rattle.std.specs.Prelude.{IsTrue, nat_eq, OnOk, IfErr}
use Rattle.std.specs.Result.{result_err}
use Rattle.mld_io.specs.Faults.{Rose, HasWriteCause}
use Rattle.mld_io.specs.declared.faults.WriteFault.{WriteFault}
use Rattle.mld_io.specs.declared.faults.WriteFault.TheVariants as writes
use Rattle.std.proofs.lemmas.List.{take-append-drop}
use Rattle.std.specs.Cmp.Lexicographic.{pointwise}
use Rattle.tree_clock.specs.DotLaws.{path_eq-Decides}
use Rattle.std.specs.Io.KnownBytes.{Appends}
use Rattle.mld_io.specs.Disk.{Log}
use Rattle.mld_io.specs.Lines.{lines_of, after_line}
use Rattle.mld_io.proofs.LinesLaws.{first_of_lines_lem}
use Rattle.schedule_text.specs.schedule_model.Runs.{Stage, Waiting, Acts, Runs, bad_line, no_domain, IsBad, Verdict}
use Rattle.mld_replay.specs.Ran.{Saying, Finishes, StopsAtBad, StopsAtLarge, BreaksOff, WritesFront, WritesWhole, fails_amid, short_amid, short_writing, short_of_banks, ReplayEnds, CountsReads, CountsWrites}
use Rattle.mld_replay.specs.BanksLeft.{AreLeftAmid, FailsAmid}
use Rattle.mld_replay.specs.Replaying.{says_by, run_fault_of_input, run_fault_of_write, IsReplayFault, IsLineFault}
use Rattle.mld_replay.specs.Stages.{StageStands, IsStandingStage, ActsWell, EndsWell, steps_of_stage, banks_of_stage}
use Rattle.mld_replay.specs.declared.stages.Stage.{Stage as RunningStage}
use Rattle.mld_replay.specs.declared.stages.Stage.TheVariants as stages
use Rattle.schedule_text.proofs.of_schedule_model.PromisesLaws.{promises_kept}
use Rattle.mld_replay.specs.declared.run.RunFault.{RunFault}
use Rattle.mld_replay.specs.declared.run.RunFault.TheVariants as faults
use Rattle.mld_replay.specs.declared.stops.LineStop.{LineStop}
use Rattle.mld_replay.specs.declared.stops.LineStop.TheVariants as stops
use Rattle.mld_replay.specs.Stops.{fault_at_line, FaultLeaves}
use Rattle.mld_replay.specs.ReplayUnderWay.{IsReplayUnderWay}
use Rattle.input_lines.specs.TooLarge.{BreaksLimits}
use Rattle.input_lines.specs.Taken.{TakesLine, IsLeft, KnowsEnd}
use Rattle.input_lines.specs.HowFar.{IsCutPast, IsBrokenOff, ReadsJust, ReadsInto, ReadsToNext, MeetsTooLarge}
use Rattle.input_lines.specs.InputFaults.{HasReadCause}
use Rattle.input_lines.specs.declared.faults.InputFault.{InputFault}
use Rattle.input_lines.specs.declared.faults.InputFault.TheVariants as inputs
use Rattle.input_lines.proofs.TakenLemmas.{left_first, taken_left, all_fit, takes_some}
use Rattle.input_lines.proofs.HowFarLemmas.{just_done, just_all, meets_large, into_next}

-- a run goes on by one line
runs_more : (stage middle next : Stage) (lines : List (List ℕ)) (text line more : List ℕ) → Runs stage lines text middle → Acts middle line more next
    → Runs stage (lines ++ line ∷ []) (text ++ more) next
runs_more stage middle next [] text line more runs acts =
    let P : List ℕ → Type 0 = λ t. Runs stage (line ∷ []) (t ++ more) next in
    let Q : Stage → Type 0 = λ s. Acts s line more next in
    subst P (sym runs.0) (more, [], next, subst Q runs.1 acts, (refl, refl), sym (append-nil more))
runs_more stage middle next (one ∷ lines) text line more (front, rest, between, acts_one, runs_rest, whole) acts =
    (front, rest ++ more, between, acts_one, runs_more between middle next lines rest line more runs_rest acts, ap (λ t. t ++ more) whole ∙ append_assoc front rest more)

appends_more : (before middle after : Option (List ℕ)) (text more : List ℕ) → Appends before middle text → Appends middle after more → Appends before after (text ++ more)
appends_more None middle after text more h k = tt
appends_more (Some xs) None after text more h k = absurd h
appends_more (Some xs) (Some ys) None text more h k = absurd k
appends_more (Some xs) (Some ys) (Some zs) text more h k = k ∙ ap (λ t. t ++ more) h ∙ append_assoc xs text more

pub appends_nothing : (before : Option (List ℕ)) → Appends before before []
appends_nothing None = tt
appends_nothing (Some xs) = sym (append-nil xs)

-- no step is made while no domain line has come
waiting_steps : {B : Type 0} (log : B → Option Log) (running : RunningStage B) → StageStands log running Waiting → steps_of_stage running ≡ 0
waiting_steps log (stages.Waiting blanks) stands = refl
waiting_steps log (stages.SetUp setup blanks) stands = absurd stands
waiting_steps log (stages.Running world) stands = absurd stands
waiting_steps log (stages.Over banks) stands = absurd stands

-- nothing is done yet
pub under_way_first : {B : Type 0} (log : B → Option Log) (given before : Option (List ℕ)) (size : ℕ) (running : RunningStage B) → size ≡ 0 → StageStands log running Waiting
    → IsReplayUnderWay log given given before before size running 0
under_way_first log given before size running nothing stands = record {
  lines = [];
  text = [];
  stage = Waiting;
  counted = refl;
  runs = (refl, refl);
  stands = stands;
  steps = omega (arith, waiting_steps log running stands);
  left_of = left_first given size nothing;
  written = appends_nothing before;
}

-- the one word of a list is the text, or the list is another
pub one_word : {X : Type 0} (f : X → List ℕ) (words : List X) (word : X) (spelled text : List ℕ) (same : Bool) → 1 ≤ length words → length words < 2
    → word ≡ get_or words 0 word → spelled ≡ f word → same ≡ pointwise nat_eq spelled text → IsTrue same ↔ (map f words ≡ text ∷ [])
one_word f [] word spelled text same some few is spells tests = absurd (omega (arith, some))
one_word f (first ∷ []) word spelled text same some few is spells tests =
    let e : spelled ≡ f first = spells ∙ ap f is in
    (λ h. ap (λ t. t ∷ []) (sym e ∙ (path_eq-Decides spelled text).0 (sym tests ∙ h)), λ h. tests ∙ (path_eq-Decides spelled text).1 (e ∙ heads_same (f first) text h))
  where
    heads_same : (a b : List ℕ) → a ∷ [] ≡ b ∷ [] → a ≡ b
    heads_same a b h = cc
one_word f (first ∷ second ∷ words) word spelled text same some few is spells tests = absurd (omega (arith, few))

-- one more line is done
pub under_way_more : {B : Type 0} (log : B → Option Log) (given left rest before now after : Option (List ℕ)) (size grown : ℕ) (running next : RunningStage B) (done : ℕ) (line text : List ℕ)
    → IsReplayUnderWay log given left before now size running done
    → ((bytes : List ℕ) → left ≡ Some bytes → TakesLine size bytes rest grown (Some line))
    → ((stage : Stage) → StageStands log running stage → ActsWell log stage line text next) → steps_of_stage next ≤ steps_of_stage running + 1
    → Appends now after text → IsReplayUnderWay log given rest before after grown next (done + 1)
under_way_more log given left rest before now after size grown running next done line text way takes acts few writes =
    let act : ActsWell log way.stage line text next = acts way.stage way.stands in
    record {
      lines = way.lines ++ line ∷ [];
      text = way.text ++ text;
      stage = act.next;
      counted = omega (arith, way.counted, length-append way.lines (line ∷ []));
      runs = runs_more Waiting way.stage act.next way.lines way.text line text way.runs act.acts;
      stands = act.stands;
      steps = omega (arith, few, way.steps);
      left_of = taken_left given left size grown done way.lines line rest way.left_of takes;
      written = appends_more before now after way.text text way.written writes;
    }

-- ---- between two lines the whole text is written

pub whole_first : (P : Stage → List (List ℕ) → Type 0) (Read : ℕ → Type 0) (before : Option (List ℕ)) (bytes : List ℕ) → P Waiting (lines_of bytes) → Read 0 → WritesWhole P Read bytes before before
whole_first P Read before bytes holds read =
    record { lines = []; rest = lines_of bytes; whole = refl; text = []; stage = Waiting; runs = (refl, refl); read = read; written = appends_nothing before; holds = holds }

pub whole_of_way : {B : Type 0} (log : B → Option Log) (P : Stage → List (List ℕ) → Type 0) (Read : ℕ → Type 0) (given left before now : Option (List ℕ)) (size : ℕ) (running : RunningStage B) (done : ℕ)
    → (way : IsReplayUnderWay log given left before now size running done) → (bytes : List ℕ) → given ≡ Some bytes
    → ((rest : List ℕ) → left ≡ Some rest → P way.stage (lines_of rest)) → Read done → WritesWhole P Read bytes before now
whole_of_way log P Read given left before now size running done way bytes is holds read =
    let at : IsLeft bytes left size done way.lines = way.left_of bytes is in
    record {
      lines = way.lines;
      rest = lines_of at.rest;
      whole = at.whole;
      text = way.text;
      stage = way.stage;
      runs = way.runs;
      read = subst Read way.counted read;
      written = way.written;
      holds = holds at.rest at.is;
    }

-- the lines still to come, where the next line was taken
pub line_there : {B : Type 0} (log : B → Option Log) (given left rest before now : Option (List ℕ)) (size grown : ℕ) (running : RunningStage B) (done : ℕ) (line : List ℕ)
    → (way : IsReplayUnderWay log given left before now size running done) → ((bytes : List ℕ) → left ≡ Some bytes → TakesLine size bytes rest grown (Some line))
    → (bytes : List ℕ) → given ≡ Some bytes → (others : List (List ℕ)) × (lines_of bytes ≡ way.lines ++ line ∷ others)
line_there log given left rest before now size grown running done line way takes bytes is =
    let at : IsLeft bytes left size done way.lines = way.left_of bytes is in
    let taken : TakesLine size at.rest rest grown (Some line) = takes at.rest at.is in
    let lines : lines_of at.rest ≡ line ∷ lines_of (after_line at.rest) = first_of_lines_lem at.rest taken.0 ∙ ap (λ l. l ∷ lines_of (after_line at.rest)) (sym taken.1) in
    (lines_of (after_line at.rest), at.whole ∙ ap (λ ls. way.lines ++ ls) lines)

-- and where there was none
pub none_there : {B : Type 0} (log : B → Option Log) (given left rest before now : Option (List ℕ)) (size : ℕ) (running : RunningStage B) (done : ℕ)
    → (way : IsReplayUnderWay log given left before now size running done)
    → ((bytes : List ℕ) → given ≡ Some bytes → (behind : List ℕ) → left ≡ Some behind → (behind ≡ []) × (rest ≡ Some []))
    → (bytes : List ℕ) → given ≡ Some bytes → lines_of bytes ≡ way.lines ++ []
none_there log given left rest before now size running done way none bytes is =
    let at : IsLeft bytes left size done way.lines = way.left_of bytes is in
    at.whole ∙ ap (λ b. way.lines ++ lines_of b) (none bytes is at.rest at.is).0

pub whole_with : {B : Type 0} (log : B → Option Log) (P : Stage → List (List ℕ) → Type 0) (Read : ℕ → Type 0) (given left before now : Option (List ℕ)) (size : ℕ) (running : RunningStage B) (done : ℕ)
    → (way : IsReplayUnderWay log given left before now size running done) → (bytes : List ℕ) (rest : List (List ℕ)) → lines_of bytes ≡ way.lines ++ rest → P way.stage rest → Read done
    → WritesWhole P Read bytes before now
whole_with log P Read given left before now size running done way bytes rest whole holds read =
    record { lines = way.lines; rest = rest; whole = whole; text = way.text; stage = way.stage; runs = way.runs; read = subst Read way.counted read; written = way.written; holds = holds }

-- it says the same of weaker properties
pub whole_as : (P Q : Stage → List (List ℕ) → Type 0) (Read Other : ℕ → Type 0) (bytes : List ℕ) (before now : Option (List ℕ)) → ((stage : Stage) (rest : List (List ℕ)) → P stage rest → Q stage rest)
    → ((lines : ℕ) → Read lines → Other lines) → WritesWhole P Read bytes before now → WritesWhole Q Other bytes before now
whole_as P Q Read Other bytes before now holds read whole = record {
  lines = whole.lines;
  rest = whole.rest;
  whole = whole.whole;
  text = whole.text;
  stage = whole.stage;
  runs = whole.runs;
  read = read (length whole.lines) whole.read;
  written = whole.written;
  holds = holds whole.stage whole.rest whole.holds;
}

-- one more line was read, and nothing behind it
pub just_more : {B : Type 0} (log : B → Option Log) (given left rest before now : Option (List ℕ)) (size grown : ℕ) (running : RunningStage B) (done : ℕ) (line : List ℕ)
    → IsReplayUnderWay log given left before now size running done → ((bytes : List ℕ) → left ≡ Some bytes → TakesLine size bytes rest grown (Some line))
    → (bytes : List ℕ) → given ≡ Some bytes → ReadsJust bytes rest (done + 1)
just_more log given left rest before now size grown running done line way takes bytes is =
    just_done bytes rest grown (done + 1) (way.lines ++ line ∷ []) (taken_left given left size grown done way.lines line rest way.left_of takes bytes is)

-- or there was none
pub just_none : {B : Type 0} (log : B → Option Log) (given left rest before now : Option (List ℕ)) (size : ℕ) (running : RunningStage B) (done : ℕ)
    → IsReplayUnderWay log given left before now size running done
    → ((bytes : List ℕ) → given ≡ Some bytes → (behind : List ℕ) → left ≡ Some behind → (behind ≡ []) × (rest ≡ Some []))
    → (bytes : List ℕ) → given ≡ Some bytes → ReadsJust bytes rest (done + 1)
just_none log given left rest before now size running done way none bytes is =
    let at : IsLeft bytes left size done way.lines = way.left_of bytes is in just_all bytes left rest size done way.lines at (none bytes is at.rest at.is)

-- ---- the reply to a line was cut short

pub front_of_reply : {B : Type 0} (log : B → Option Log) (given left rest before now after : Option (List ℕ)) (size grown : ℕ) (running next : RunningStage B) (done : ℕ) (line text : List ℕ)
    → IsReplayUnderWay log given left before now size running done
    → ((bytes : List ℕ) → left ≡ Some bytes → TakesLine size bytes rest grown (Some line))
    → ((stage : Stage) → StageStands log running stage → ActsWell log stage line text next)
    → (n : ℕ) → Appends now after (take n text) → (bytes : List ℕ) → given ≡ Some bytes → WritesFront (StageStands log next) bytes rest before after
front_of_reply log given left rest before now after size grown running next done line text way takes acts n writes bytes is =
    let act : ActsWell log way.stage line text next = acts way.stage way.stands in
    let there = line_there log given left rest before now size grown running done line way takes bytes is in
    record {
      lines = way.lines;
      line = line;
      rest = there.0;
      whole = there.1;
      text = way.text;
      stage = way.stage;
      runs = way.runs;
      reply = text;
      next = act.next;
      acts = act.acts;
      front = take n text;
      behind = drop n text;
      of_reply = take-append-drop n text;
      read = subst (λ (k : ℕ). ReadsJust bytes rest (k + 1)) way.counted (just_more log given left rest before now size grown running done line way takes bytes is);
      written = appends_more before now after way.text (take n text) way.written writes;
      holds = act.stands;
    }

-- a front says the same of a weaker property
pub front_as : (P Q : Stage → Type 0) (bytes : List ℕ) (left before now : Option (List ℕ)) → ((stage : Stage) → P stage → Q stage) → WritesFront P bytes left before now → WritesFront Q bytes left before now
front_as P Q bytes left before now holds front = record {
  lines = front.lines;
  line = front.line;
  rest = front.rest;
  whole = front.whole;
  text = front.text;
  stage = front.stage;
  runs = front.runs;
  reply = front.reply;
  next = front.next;
  acts = front.acts;
  front = front.front;
  behind = front.behind;
  of_reply = front.of_reply;
  read = front.read;
  written = front.written;
  holds = holds front.next front.holds;
}

-- the state stands for some stage
pub standing_from : {B : Type 0} (log : B → Option Log) (given left before now : Option (List ℕ)) (size : ℕ) (running : RunningStage B) (done : ℕ) → IsReplayUnderWay log given left before now size running done → IsStandingStage log running
standing_from log given left before now size running done way = record { stage = way.stage; stands = way.stands }

-- the source is at its end, and the clones are founded
pub finishes : {B : Type 0} (log : B → Option Log) (given left rest before now : Option (List ℕ)) (size : ℕ) (running next : RunningStage B) (done : ℕ) → IsReplayUnderWay log given left before now size running done
    → ((bytes : List ℕ) → given ≡ Some bytes → (behind : List ℕ) → left ≡ Some behind → (behind ≡ []) × (rest ≡ Some []))
    → ((stage : Stage) → StageStands log running stage → EndsWell log stage next) → (bytes : List ℕ) → given ≡ Some bytes → Finishes (StageStands log next) bytes rest before now
unfolding Verdict
finishes log given left rest before now size running next done way none ends bytes is =
    let at : IsLeft bytes left size done way.lines = way.left_of bytes is in
    let end : (at.rest ≡ []) × (rest ≡ Some []) = none bytes is at.rest at.is in
    let lines : lines_of bytes ≡ way.lines = at.whole ∙ ap (λ b. way.lines ++ lines_of b) end.0 ∙ append-nil way.lines in
    let ended : EndsWell log way.stage next = ends way.stage way.stands in
    let P : List (List ℕ) → Type 0 = λ ls. Runs Waiting ls way.text way.stage in
    let runs : Runs Waiting (lines_of bytes) way.text way.stage = subst P (sym lines) way.runs in
    record {
      text = way.text;
      world = ended.world;
      verdict = (way.stage, runs, ended.founds);
      keeps = promises_kept (lines_of bytes) way.text way.stage ended.world runs ended.founds;
      all = end.1;
      fits = all_fit bytes left size done way.lines at end.0;
      written = way.written;
      holds = ended.stands;
    }

-- the source is at its end, and no line was a domain line
pub ends_waiting : {B : Type 0} (log : B → Option Log) (given left rest before now : Option (List ℕ)) (size : ℕ) (running : RunningStage B) (done : ℕ) → IsReplayUnderWay log given left before now size running done
    → ((bytes : List ℕ) → given ≡ Some bytes → (behind : List ℕ) → left ≡ Some behind → (behind ≡ []) × (rest ≡ Some []))
    → ((stage : Stage) → StageStands log running stage → stage ≡ Waiting) → (bytes : List ℕ) → given ≡ Some bytes → StopsAtBad (StageStands log running) bytes (done + 1) rest before now
unfolding Verdict
ends_waiting log given left rest before now size running done way none waits bytes is =
    let at : IsLeft bytes left size done way.lines = way.left_of bytes is in
    let end : (at.rest ≡ []) × (rest ≡ Some []) = none bytes is at.rest at.is in
    record {
      text = way.text;
      stage = way.stage;
      verdict = record {
        before = record { front = way.lines; rest = lines_of at.rest; whole = at.whole; counted = ap (λ n. n + 1) way.counted; runs = way.runs };
        bad = no_domain (ap lines_of end.0) (waits way.stage way.stands);
      };
      read = just_all bytes left rest size done way.lines at end;
      written = way.written;
      holds = way.stands;
    }

-- a line that was taken is bad
pub stops_bad : {B : Type 0} (log : B → Option Log) (given left rest before now : Option (List ℕ)) (size grown : ℕ) (running : RunningStage B) (done : ℕ) (line : List ℕ) → IsReplayUnderWay log given left before now size running done
    → ((bytes : List ℕ) → left ≡ Some bytes → TakesLine size bytes rest grown (Some line)) → ((stage : Stage) → StageStands log running stage → IsBad stage line)
    → (bytes : List ℕ) → given ≡ Some bytes → StopsAtBad (StageStands log running) bytes (done + 1) rest before now
unfolding Verdict
stops_bad log given left rest before now size grown running done line way takes bad bytes is =
    let at : IsLeft bytes left size done way.lines = way.left_of bytes is in
    let taken : TakesLine size at.rest rest grown (Some line) = takes at.rest at.is in
    record {
      text = way.text;
      stage = way.stage;
      verdict = record {
        before = record { front = way.lines; rest = lines_of at.rest; whole = at.whole; counted = ap (λ n. n + 1) way.counted; runs = way.runs };
        bad = bad_line line (lines_of (after_line at.rest), first_of_lines_lem at.rest taken.0 ∙ ap (λ l. l ∷ lines_of (after_line at.rest)) (sym taken.1)) (bad way.stage way.stands);
      };
      read = just_more log given left rest before now size grown running done line way takes bytes is;
      written = way.written;
      holds = way.stands;
    }

-- the line of the number is too large
pub stops_large : {B : Type 0} (log : B → Option Log) (given left rest before now : Option (List ℕ)) (size : ℕ) (running : RunningStage B) (done number : ℕ) (fault : InputFault) → IsReplayUnderWay log given left before now size running done
    → fault ≡ inputs.TooLarge number → number ≡ done + 1 → ((bytes : List ℕ) → left ≡ Some bytes → BreaksLimits size bytes) → ((bytes : List ℕ) → left ≡ Some bytes → IsBrokenOff size fault bytes rest)
    → (bytes : List ℕ) → given ≡ Some bytes → StopsAtLarge (StageStands log running) bytes number rest before now
stops_large log given left rest before now size running done number fault way large counts breaks broken bytes is =
    let at : IsLeft bytes left size done way.lines = way.left_of bytes is in
    let cut : IsCutPast size at.rest rest = subst (λ (f : InputFault). IsBrokenOff size f at.rest rest) large (broken at.rest at.is) in
    let meets : MeetsTooLarge bytes rest done = meets_large bytes left rest size done way.lines at (breaks at.rest at.is) cut in
    record {
      text = way.text;
      stage = way.stage;
      done = record { front = way.lines; rest = lines_of at.rest; whole = at.whole; counted = counts ∙ ap (λ n. n + 1) way.counted; runs = way.runs };
      meets = λ lines is_lines. let same : done ≡ lines = omega (arith, counts, is_lines) in subst (λ (k : ℕ). MeetsTooLarge bytes rest k) same meets;
      written = way.written;
      holds = way.stands;
    }

-- reading failed in the line behind those done
pub breaks_off : {B : Type 0} (log : B → Option Log) (given left rest before now : Option (List ℕ)) (size : ℕ) (running : RunningStage B) (done : ℕ) → IsReplayUnderWay log given left before now size running done
    → (bytes : List ℕ) → given ≡ Some bytes → ReadsInto bytes rest done → BreaksOff (StageStands log running) bytes rest before now
breaks_off log given left rest before now size running done way bytes is read =
    let at : IsLeft bytes left size done way.lines = way.left_of bytes is in
    record {
      lines = done;
      read = read;
      text = way.text;
      stage = way.stage;
      done = record { front = way.lines; rest = lines_of at.rest; whole = at.whole; counted = ap (λ n. n + 1) way.counted; runs = way.runs };
      written = way.written;
      holds = way.stands;
    }

-- a part of that line was read
pub part_read : {B : Type 0} (log : B → Option Log) (given left rest before now : Option (List ℕ)) (size : ℕ) (running : RunningStage B) (done : ℕ) (ended : Bool) (fault : InputFault) → IsReplayUnderWay log given left before now size running done
    → KnowsEnd ended given left done → ended ≡ false → ((bytes : List ℕ) → left ≡ Some bytes → IsBrokenOff size fault bytes rest)
    → (bytes : List ℕ) → given ≡ Some bytes → ((line : ℕ) → fault ≢ inputs.TooLarge line) → ReadsInto bytes rest done
part_read log given left rest before now size running done ended fault way knows not_yet broken bytes is fits =
    into_next given left rest size done way.lines ended fault knows not_yet fits broken bytes is (way.left_of bytes is)

-- ---- the run ends so

-- where a line could not be read
pub ends_reading : (says : Saying) (fault : InputFault) (bytes : List ℕ) (left before after : Option (List ℕ)) (done : ℕ)
    → (((line : ℕ) → fault ≢ inputs.TooLarge line) → ReadsInto bytes left done) → (ReadsInto bytes left done → BreaksOff says.told bytes left before after)
    → ((at : ℕ) → fault ≡ inputs.TooLarge at → StopsAtLarge says.told bytes at left before after)
    → (ReadsInto bytes left done → WritesWhole says.left (ReadsToNext bytes left) bytes before after) → ReplayEnds says (Some (run_fault_of_input fault)) bytes left before after
ends_reading says inputs.ReadFault bytes left before after done read breaks large whole = breaks (read (λ line is. absurd (cc (is))))
ends_reading says (inputs.TooLarge at) bytes left before after done read breaks large whole = large at refl
ends_reading says inputs.NoMemory bytes left before after done read breaks large whole = short_amid (whole (read (λ line is. absurd (cc (is)))))

-- where the next line was not done, or the lines not ended: these lines were to come, and this is left of the banks
pub ends_stopped : {B : Type 0} (log : B → Option Log) (given left before now : Option (List ℕ)) (size : ℕ) (running next : RunningStage B) (done : ℕ)
    → (way : IsReplayUnderWay log given left before now size running done) → (bytes : List ℕ) (lines : List (List ℕ)) (rest : Option (List ℕ)) (fault : RunFault) → lines_of bytes ≡ way.lines ++ lines
    → IsLineFault fault → ((at : ℕ) → fault ≡ faults.BadLine at → StopsAtBad (StageStands log next) bytes at rest before now) → FaultLeaves log running (banks_of_stage next) lines fault
    → ReadsJust bytes rest (done + 1) → ReplayEnds (says_by log next) (Some fault) bytes rest before now
ends_stopped log given left before now size running next done way bytes lines rest (faults.BadLine at) whole doing bad amid read = bad at refl
ends_stopped log given left before now size running next done way bytes lines rest (faults.Device clone) whole doing bad amid read =
    fails_amid (whole_with log (FailsAmid log (banks_of_stage next) clone) (λ n. ReadsJust bytes rest (n + 1)) given left before now size running done way bytes lines whole (amid way.stage way.stands) read)
ends_stopped log given left before now size running next done way bytes lines rest faults.NoMemory whole doing bad amid read = elim (amid way.stage way.stands) [
  | inl none ↦
      short_of_banks none (inl (whole_with log (λ stage behind. Unit {0}) (λ n. ReadsToNext bytes rest n ⊎ MeetsTooLarge bytes rest n) given left before now size running done way bytes lines whole tt
      (inl (inr read))))
  | inr some ↦ short_amid (whole_with log (AreLeftAmid log (banks_of_stage next)) (ReadsToNext bytes rest) given left before now size running done way bytes lines whole some (inr read))
]
ends_stopped log given left before now size running next done way bytes lines rest fault whole doing bad amid read = absurd doing

-- where its reply could not be written
pub ends_writing : (says : Saying) (fault : WriteFault) (bytes : List ℕ) (left before after : Option (List ℕ)) → WritesFront says.kept bytes left before after
    → ReplayEnds says (Some (run_fault_of_write fault)) bytes left before after
ends_writing says writes.Failed bytes left before after front = front
ends_writing says writes.NoMemory bytes left before after front = short_writing front

-- where there were no more lines
pub ends_lines : {B : Type 0} (log : B → Option Log) (given left before now : Option (List ℕ)) (size : ℕ) (running next : RunningStage B) (done : ℕ)
    → (way : IsReplayUnderWay log given left before now size running done) → (bytes : List ℕ) (rest : Option (List ℕ)) (result : Result (Unit {0}) RunFault) → lines_of bytes ≡ way.lines ++ []
    → IfErr result IsLineFault → OnOk result (Finishes (StageStands log next) bytes rest before now)
    → ((at : ℕ) → result ≡ Err (faults.BadLine at) → StopsAtBad (StageStands log next) bytes at rest before now) → IfErr result (FaultLeaves log running (banks_of_stage next) [])
    → ReadsJust bytes rest (done + 1) → ReplayEnds (says_by log next) (result_err result) bytes rest before now
ends_lines log given left before now size running next done way bytes rest (Ok value) whole ending finished bad amid read = finished
ends_lines log given left before now size running next done way bytes rest (Err fault) whole ending finished bad amid read =
    ends_stopped log given left before now size running next done way bytes [] rest fault whole ending (λ at is. bad at (ap (λ (f : RunFault). Err f) is)) amid read

-- ---- the faults of its parts are faults of the replay

pub reading_replays : (fault : InputFault) → IsReplayFault (run_fault_of_input fault)
reading_replays inputs.ReadFault = tt
reading_replays (inputs.TooLarge line) = tt
reading_replays inputs.NoMemory = tt

pub line_replays : (fault : RunFault) → IsLineFault fault → IsReplayFault fault
line_replays (faults.Device clone) doing = tt
line_replays (faults.BadLine line) doing = tt
line_replays faults.NoMemory doing = tt
line_replays fault doing = absurd doing

pub writing_replays : (fault : WriteFault) → IsReplayFault (run_fault_of_write fault)
writing_replays writes.Failed = tt
writing_replays writes.NoMemory = tt

pub end_replays : (result : Result (Unit {0}) RunFault) → IfErr result IsLineFault → IfErr result IsReplayFault
end_replays (Ok done) ending = tt
end_replays (Err fault) ending = line_replays fault ending

-- no part tells of another's failure

pub not_of_reading : (fault : InputFault) (clone : ℕ) → run_fault_of_input fault ≢ faults.Device clone
not_of_reading inputs.ReadFault clone is = absurd (cc (is))
not_of_reading (inputs.TooLarge line) clone is = absurd (cc (is))
not_of_reading inputs.NoMemory clone is = absurd (cc (is))

pub not_of_writing : (fault : WriteFault) (clone : ℕ) → run_fault_of_write fault ≢ faults.Device clone
not_of_writing writes.Failed clone is = absurd (cc (is))
not_of_writing writes.NoMemory clone is = absurd (cc (is))

pub reading_not_writing : (fault : InputFault) → Some (run_fault_of_input fault) ≢ Some faults.WriteFault
reading_not_writing inputs.ReadFault is = absurd (cc (is))
reading_not_writing (inputs.TooLarge line) is = absurd (cc (is))
reading_not_writing inputs.NoMemory is = absurd (cc (is))

pub line_not_reading : (fault : RunFault) → IsLineFault fault → Some fault ≢ Some faults.ReadFault
line_not_reading fault doing is = let same : fault ≡ faults.ReadFault = cc (is) in subst IsLineFault same doing

pub line_not_writing : (fault : RunFault) → IsLineFault fault → Some fault ≢ Some faults.WriteFault
line_not_writing fault doing is = let same : fault ≡ faults.WriteFault = cc (is) in subst IsLineFault same doing

pub writing_not_reading : (fault : WriteFault) → Some (run_fault_of_write fault) ≢ Some faults.ReadFault
writing_not_reading writes.Failed is = absurd (cc (is))
writing_not_reading writes.NoMemory is = absurd (cc (is))

pub end_not_reading : (result : Result (Unit {0}) RunFault) → IfErr result IsLineFault → result_err result ≢ Some faults.ReadFault
end_not_reading (Ok done) ending is = absurd (cc (is))
end_not_reading (Err fault) ending is = let same : fault ≡ faults.ReadFault = cc (is) in subst IsLineFault same ending

pub end_not_writing : (result : Result (Unit {0}) RunFault) → IfErr result IsLineFault → result_err result ≢ Some faults.WriteFault
end_not_writing (Ok done) ending is = absurd (cc (is))
end_not_writing (Err fault) ending is = let same : fault ≡ faults.WriteFault = cc (is) in subst IsLineFault same ending

-- ---- the counts of faults

-- no other part than the reading of a line calls the source, and none but the writing of a reply the sink

pub reads_counted : {T : Type 0} (first before now : ℕ) (fault : InputFault) → HasReadCause {T = T} before now (Err fault) → before ≡ first → CountsReads first now (Some (run_fault_of_input fault))
reads_counted first before now inputs.ReadFault cause same = subst (λ (n : ℕ). Rose n now) same (cause.failed refl)
reads_counted first before now (inputs.TooLarge line) cause same = cause.quiet (λ is. absurd (cc (is))) ∙ same
reads_counted first before now inputs.NoMemory cause same = tt

pub writes_counted : {T : Type 0} (first before now : ℕ) (fault : WriteFault) → HasWriteCause {T = T} before now (Err fault) → before ≡ first → CountsWrites first now (Some (run_fault_of_write fault))
writes_counted first before now writes.Failed cause same = subst (λ (n : ℕ). Rose n now) same (cause.failed refl)
writes_counted first before now writes.NoMemory cause same = tt

-- the count is what it was, and no other fault is told

pub reads_same : (before now : ℕ) (fault : Option RunFault) → fault ≢ Some faults.ReadFault → now ≡ before → CountsReads before now fault
reads_same before now (Some faults.ReadFault) differs same = absurd (differs refl)
reads_same before now (Some faults.NoMemory) differs same = tt
reads_same before now fault differs same = same

pub writes_same : (before now : ℕ) (fault : Option RunFault) → fault ≢ Some faults.WriteFault → now ≡ before → CountsWrites before now fault
writes_same before now (Some faults.WriteFault) differs same = absurd (differs refl)
writes_same before now (Some faults.NoMemory) differs same = tt
writes_same before now fault differs same = same

-- a line that was taken and not done, said of equal values

pub stops_bad_at : {B : Type 0} (log : B → Option Log) (given left rest before now : Option (List ℕ)) (size grown : ℕ) (running : RunningStage B) (done : ℕ) (taken : Option (List ℕ)) (piece line : List ℕ) (at : ℕ)
    → IsReplayUnderWay log given left before now size running done → taken ≡ Some piece → line ≡ piece → ((bytes : List ℕ) → left ≡ Some bytes → TakesLine size bytes rest grown taken)
    → at ≡ done + 1 → ((stage : Stage) → StageStands log running stage → IsBad stage line) → (next : RunningStage B) → next ≡ running
    → (bytes : List ℕ) → given ≡ Some bytes → StopsAtBad (StageStands log next) bytes at rest before now
stops_bad_at {B = B} log given left rest before now size grown running done taken piece line at way is same takes counts bad next kept bytes told =
    let P : ℕ → Type 0 = λ n. StopsAtBad (StageStands log running) bytes n rest before now in
    let Q : RunningStage B → Type 0 = λ w. StopsAtBad (StageStands log w) bytes at rest before now in
    subst Q (sym kept) (subst P (sym counts) (stops_bad log given left rest before now size grown running done line way (takes_some left rest taken size grown piece line is same takes) bad bytes told))

-- the end of the source while no domain line has come, said of an equal state and number

pub ends_waiting_at : {B : Type 0} (log : B → Option Log) (given left rest before now : Option (List ℕ)) (size : ℕ) (running : RunningStage B) (done at : ℕ)
    → IsReplayUnderWay log given left before now size running done → ((bytes : List ℕ) → given ≡ Some bytes → (behind : List ℕ) → left ≡ Some behind → (behind ≡ []) × (rest ≡ Some []))
    → at ≡ done + 1 → ((stage : Stage) → StageStands log running stage → stage ≡ Waiting) → (next : RunningStage B) → next ≡ running
    → (bytes : List ℕ) → given ≡ Some bytes → StopsAtBad (StageStands log next) bytes at rest before now
ends_waiting_at {B = B} log given left rest before now size running done at way none counts waits next kept bytes told =
    let P : ℕ → Type 0 = λ n. StopsAtBad (StageStands log running) bytes n rest before now in
    let Q : RunningStage B → Type 0 = λ w. StopsAtBad (StageStands log w) bytes at rest before now in
    subst Q (sym kept) (subst P (sym counts) (ends_waiting log given left rest before now size running done way none waits bytes told))

-- the fault of a bad line came from a stop at a bad line
pub bad_fault : {T U : Type 0} (stop : LineStop) (number at : ℕ) (fault : RunFault) → fault ≡ fault_at_line stop number → ◌≡◌ {A = Result T RunFault} (Err fault) (Err (faults.BadLine at))
    → (◌≡◌ {A = Result U LineStop} (Err stop) (Err stops.BadLine)) × (at ≡ number)
bad_fault {U = U} stop number at fault is same = let fault_is : fault ≡ faults.BadLine at = cc in bad_stop stop number at (sym is ∙ fault_is)
  where
    bad_stop : (stop : LineStop) (number at : ℕ) → fault_at_line stop number ≡ faults.BadLine at → (◌≡◌ {A = Result U LineStop} (Err stop) (Err stops.BadLine)) × (at ≡ number)
    bad_stop stops.BadLine number at same = (refl, cc)
    bad_stop (stops.Device clone) number at same = absurd (cc)
    bad_stop stops.NoMemory number at same = absurd (cc)

pub err_same : {T : Type 0} (fault other : RunFault) → fault ≡ other → ◌≡◌ {A = Result T RunFault} (Err fault) (Err other)
err_same fault other same = ap (λ (f : RunFault). Err f) same

-- what a good end gives, it gives on
pub on_ok : {A B : Type 0} (result : Result (Unit {0}) RunFault) → (A → B) → OnOk result A → OnOk result B
on_ok (Ok done) f h = f h
on_ok (Err fault) f h = tt
