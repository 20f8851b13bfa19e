-- A run of the shell from line to line, and how it ends.
use Rattle.std.proofs.Common.{◌≡◌, ◌≢◌, ℕ, ◌+◌, Bool, false, List, [], ◌∷◌, ◌++◌, refl, sym, ◌∙◌, ap, arith, subst, length, Option, None, Some, append_assoc, append-nil, length-append, take}
use Rattle.std.specs.Io.KnownBytes.{Appends}
use Rattle.mld_io.specs.Disk.{Log, seen, grown_by, MayLeave, LeavesOnly, LeavesMeanwhile}
use Rattle.mld_io.proofs.DiskLaws.{AtEachMoment-last}
use Rattle.mld_io.specs.Lines.{lines_of}
use Rattle.shell_session.specs.journal_sides.Pairs.{read_banks}
use Rattle.shell_session.specs.clone_parts.KeptSteps.{KeptStep}
use Rattle.input_lines.specs.TooLarge.{left_after, BreaksLimits, IsTooLargeLine}
use Rattle.input_lines.specs.Taken.{TakesLine, IsLeft, KnowsEnd}
use Rattle.input_lines.specs.HowFar.{IsBrokenOff, ReadsInto}
use Rattle.input_lines.proofs.TakenLemmas.{left_first, taken_left, all_fit, large_next}
use Rattle.input_lines.proofs.HowFarLemmas.{into_next, into_first}
use Rattle.shell_session.specs.Shells.{Shell, Shut, FoundOnBanks, found_in, found_of, found_after}
use Rattle.shell_session.specs.ShellRuns.{ShellLine, ShellRuns}
use Rattle.shell_session.proofs.RunLaws.{steps_lead}
use Rattle.shell_session.proofs.FrontLaws.{moments_then}
use Rattle.shell_session.specs.declared.sessions.Session.{Session}
use Rattle.shell_session.specs.declared.sessions.Session.TheVariants as sessions
use Rattle.shell_session.specs.Sessions.{session_banks, SessionStands}
use Rattle.shell_session.specs.SessionLines.{ImagesFind, FindsFront, LeavesFront, DoesLine, StopsLine}
use Rattle.shell_session.specs.RunEnds.{LeavesDone}
use Rattle.shell_run.specs.Inputs.{AreFirstLines, AreAllLines, AreReadLines, AreLinesBefore, AreLinesUpTo, IfTold}
use Rattle.shell_run.specs.ShellEnds.{LinesDone, ShellEdges, StopsBetweenLines, StopsWithinLine, StopsWriting, between, within, writing, ShellEnds}
use Rattle.shell_run.specs.declared.faults.FolderFault.{FolderFault}
use Rattle.shell_run.specs.declared.faults.FolderFault.TheVariants as words_faults
use Rattle.shell_run.specs.ShellStatuses.{fault_of_line, fault_of_words, shell_fault_of_input, shell_fault_of_write}
use Rattle.input_lines.specs.declared.faults.InputFault.{InputFault}
use Rattle.input_lines.specs.declared.faults.InputFault.TheVariants as inputs
use Rattle.mld_io.specs.declared.faults.WriteFault.{WriteFault}
use Rattle.mld_io.specs.declared.faults.WriteFault.TheVariants as writes
use Rattle.shell_session.specs.declared.faults.SessionFault.{SessionFault}
use Rattle.shell_session.specs.declared.faults.SessionFault.TheVariants as line_faults
use Rattle.shell_run.specs.ShellUnderWay.{IsShellUnderWay}
use Rattle.shell_run.proofs.StandingLemmas.{session_finds}

-- ---- runs and texts

-- a run goes on by one line
runs_more : (shell middle next : Shell) (lines : List (List ℕ)) (text line more : List ℕ) (steps added : List KeptStep) → ShellRuns shell lines text steps middle
    → ShellLine middle line more added next → ShellRuns shell (lines ++ line ∷ []) (text ++ more) (steps ++ added) next
runs_more shell middle next [] text line more steps added runs does = (
  more,
  [],
  added,
  [],
  next,
  subst (λ (s : Shell). ShellLine s line more added next) runs.2 does,
  (refl, refl, refl),
  ap (λ (t : List ℕ). t ++ more) runs.0 ∙ sym (append-nil more),
  ap (λ (s : List KeptStep). s ++ added) runs.1 ∙ sym (append-nil added),
)
runs_more shell middle next (one ∷ lines) text line more steps added (front, rest, first, later, inner, does_one, runs_rest, whole, whole_steps) does = (
  front,
  rest ++ more,
  first,
  later ++ added,
  inner,
  does_one,
  runs_more inner middle next lines rest line more later added runs_rest does,
  ap (λ (t : List ℕ). t ++ more) whole ∙ append_assoc front rest more,
  ap (λ (s : List KeptStep). s ++ added) whole_steps ∙ append_assoc first later added,
)

appends_more : (before middle after : Option (List ℕ)) (text more : List ℕ) → Appends before middle text → Appends middle after more → Appends before after (text ++ more)
appends_more None middle after text more h k = tt
appends_more (Some xs) None after text more h k = absurd h
appends_more (Some xs) (Some ys) None text more h k = absurd k
appends_more (Some xs) (Some ys) (Some zs) text more h k = k ∙ ap (λ t. t ++ more) h ∙ append_assoc xs text more

appends_nothing : (before : Option (List ℕ)) → Appends before before []
appends_nothing None = tt
appends_nothing (Some xs) = sym (append-nil xs)

-- what is found where a run led to
led : (found : FoundOnBanks) (done : LinesDone found) → found_of done.shell ≡ found_after done.steps found
led found done = steps_lead (Shut found) done.lines done.text done.steps done.shell done.runs

-- ---- what a crash leaves

-- no step is under way
leaves_done : (found : FoundOnBanks) (done : LinesDone found) (old now : Option Log) → LeavesFront found done.steps old now
    → (ImagesFind found old → ImagesFind (found_of done.shell) now) → LeavesDone found done.steps [] old now
leaves_done found done old now moments settled = record {
  moments = subst (λ (s : List KeptStep). LeavesFront found s old now) (sym (append-nil done.steps)) moments;
  settled = λ images log told image left. record {
    front = [];
    rest = [];
    whole = refl;
    finds = settled images log told image left ∙ led found done;
  };
}

-- some are
leaves_due : (found : FoundOnBanks) (done : LinesDone found) (due : List KeptStep) (old now after : Option Log) (first : Log) → old ≡ Some first
    → LeavesFront found done.steps old now → (ImagesFind found old → ImagesFind (found_of done.shell) now) → LeavesFront (found_of done.shell) due now after
    → LeavesDone found done.steps due old after
leaves_due found done due old now after first told moments settled later = record {
  moments = moments_then found (found_of done.shell) done.steps due old now after (led found done) moments settled later;
  settled = λ images log is image left.
      let one : LeavesMeanwhile first now (λ calls sides. FindsFront found done.steps sides) = moments first told images in
      let two : LeavesMeanwhile (grown_by one.added first) after (λ calls sides. FindsFront (found_of done.shell) due sides) =
      later (grown_by one.added first) one.now_is (settled images) in
      let last : LeavesOnly (grown_by two.added (grown_by one.added first)) (λ sides. FindsFront (found_of done.shell) due sides) =
      AtEachMoment-last (grown_by one.added first) two.added (λ calls sides. FindsFront (found_of done.shell) due sides) two.each in
      let same : log ≡ grown_by two.added (grown_by one.added first) = some_is log (grown_by two.added (grown_by one.added first)) (sym is ∙ two.now_is) in
      let finds : FindsFront (found_of done.shell) due image = last image (subst (λ (l : Log). MayLeave l image) same left) in
      record {
        front = finds.front;
        rest = finds.rest;
        whole = finds.whole;
        finds = finds.finds ∙ ap (found_after finds.front) (led found done);
      };
}
  where
    some_is : (a b : Log) → ◌≡◌ {A = Option Log} (Some a) (Some b) → a ≡ b
    some_is a b h = cc

-- ---- under way

-- nothing is done yet
pub way_first : {B : Type 0} (log : B → Option Log) (banks : B) (session : Session B) (given before : Option (List ℕ)) (size : ℕ) (first : Log) → session ≡ sessions.Shut banks → size ≡ 0 → log banks ≡ Some first
    → IsShellUnderWay log (found_in (read_banks (seen first))) (log banks) given given before before size session 0
way_first {B = B} log banks session given before size first is nothing told =
    let found : FoundOnBanks = found_in (read_banks (seen first)) in
    let P : Session B → Type 0 = λ s. IsShellUnderWay log found (log banks) given given before before size s 0 in
    let way : P (sessions.Shut banks) = record {
      done = record { lines = []; text = []; steps = []; shell = Shut found; runs = (refl, refl, refl) };
      counted = refl;
      stands = record { log = first; now_is = told; finds = refl };
      left_of = left_first given size nothing;
      written = appends_nothing before;
      moments = λ l is_l images. record {
        added = [];
        now_is = is_l;
        each = λ image left. record { front = []; rest = []; whole = refl; finds = images l is_l image left };
      };
      settled = λ images. images;
    } in
    subst P (sym is) way

-- one more line is done and answered
pub way_more : {B : Type 0} (log : B → Option Log) (found : FoundOnBanks) (old : Option Log) (given left rest before now after : Option (List ℕ)) (size grown : ℕ) (session next : Session B) (count : ℕ) (line had reply : List ℕ)
    → IsShellUnderWay log found old given left before now size session count
    → ((bytes : List ℕ) → left ≡ Some bytes → TakesLine size bytes rest grown (Some line))
    → ((shell : Shell) → SessionStands log session shell → DoesLine log shell line (session_banks session) had next reply) → had ≡ []
    → Appends now after reply → IsShellUnderWay log found old given rest before after grown next (count + 1)
way_more log found old given left rest before now after size grown session next count line had reply way takes does none writes =
    let act : DoesLine log way.done.shell line (session_banks session) had next reply = does way.done.shell way.stands in
    let same : reply ≡ act.text = act.written ∙ ap (λ (t : List ℕ). t ++ act.text) none in
    record {
      done = record {
        lines = way.done.lines ++ line ∷ [];
        text = way.done.text ++ act.text;
        steps = way.done.steps ++ act.steps;
        shell = act.shell;
        runs = runs_more (Shut found) way.done.shell act.shell way.done.lines way.done.text line act.text way.done.steps act.steps way.done.runs act.does;
      };
      counted = omega (arith, way.counted, length-append way.done.lines (line ∷ []));
      stands = act.stands;
      left_of = taken_left given left size grown count way.done.lines line rest way.left_of takes;
      written = appends_more before now after way.done.text act.text way.written (subst (λ (t : List ℕ). Appends now after t) same writes);
      moments = moments_then found (found_of way.done.shell) way.done.steps act.steps old (log (session_banks session)) (log (session_banks next)) (led found way.done) way.moments way.settled act.moments;
      settled = λ images. act.settled (way.settled images);
    }

-- ---- the lines that were done, where the source tells its bytes

first_of_way : (bytes : List ℕ) (left : Option (List ℕ)) (size count : ℕ) (lines : List (List ℕ)) → count ≡ length lines → IsLeft bytes left size count lines → AreFirstLines bytes lines
first_of_way bytes left size count lines counted at = record {
  rest = lines_of at.rest;
  whole = at.whole;
  fits = λ before below large. at.fits before (omega (arith, below, counted)) large;
}

-- nothing was read
pub are_none : {B : Type 0} (log : B → Option Log) (found : FoundOnBanks) (old : Option Log) (given before now : Option (List ℕ)) (size : ℕ) (session : Session B)
    → (way : IsShellUnderWay log found old given given before now size session 0) → IfTold given (AreReadLines given) way.done.lines
are_none log found old given before now size session way bytes told = record {
  first = first_of_way bytes given size 0 way.done.lines way.counted (way.left_of bytes told);
  read = subst (λ (n : ℕ). ReadsInto bytes given n) way.counted (into_first bytes given told);
}

pub are_all : {B : Type 0} (log : B → Option Log) (found : FoundOnBanks) (old : Option Log) (given left rest before now : Option (List ℕ)) (size : ℕ) (session : Session B) (count : ℕ)
    → (way : IsShellUnderWay log found old given left before now size session count)
    → ((bytes : List ℕ) → given ≡ Some bytes → (behind : List ℕ) → left ≡ Some behind → (behind ≡ []) × (rest ≡ Some []))
    → IfTold given (AreAllLines rest) way.done.lines
are_all log found old given left rest before now size session count way none bytes told =
    let at : IsLeft bytes left size count way.done.lines = way.left_of bytes told in
    let end : (at.rest ≡ []) × (rest ≡ Some []) = none bytes told at.rest at.is in
    record {
      whole = at.whole ∙ ap (λ (b : List ℕ). way.done.lines ++ lines_of b) end.0 ∙ append-nil way.done.lines;
      all = end.1;
      fits = all_fit bytes left size count way.done.lines at end.0;
    }

pub are_read : {B : Type 0} (log : B → Option Log) (found : FoundOnBanks) (old : Option Log) (given left rest before now : Option (List ℕ)) (size : ℕ) (session : Session B) (count : ℕ) (ended : Bool) (fault : InputFault)
    → (way : IsShellUnderWay log found old given left before now size session count) → KnowsEnd ended given left count → ended ≡ false
    → ((bytes : List ℕ) → left ≡ Some bytes → IsBrokenOff size fault bytes rest) → ((line : ℕ) → fault ≢ inputs.TooLarge line) → IfTold given (AreReadLines rest) way.done.lines
are_read log found old given left rest before now size session count ended fault way knows not_yet broken fits bytes told =
    let at : IsLeft bytes left size count way.done.lines = way.left_of bytes told in
    record {
      first = first_of_way bytes left size count way.done.lines way.counted at;
      read = subst (λ (n : ℕ). ReadsInto bytes rest n) way.counted (into_next given left rest size count way.done.lines ended fault knows not_yet fits broken bytes told at);
    }

pub are_before : {B : Type 0} (log : B → Option Log) (found : FoundOnBanks) (old : Option Log) (given left before now : Option (List ℕ)) (size : ℕ) (session : Session B) (count number : ℕ)
    → (way : IsShellUnderWay log found old given left before now size session count) → number ≡ count + 1
    → ((bytes : List ℕ) → left ≡ Some bytes → BreaksLimits size bytes) → IfTold given (AreLinesBefore number) way.done.lines
are_before log found old given left before now size session count number way counts breaks bytes told =
    let at : IsLeft bytes left size count way.done.lines = way.left_of bytes told in
    record {
      first = first_of_way bytes left size count way.done.lines way.counted at;
      counted = counts ∙ ap (λ (n : ℕ). n + 1) way.counted;
      large = subst (λ (n : ℕ). IsTooLargeLine bytes n) way.counted (large_next bytes left size count way.done.lines at (breaks at.rest at.is));
    }

are_up_to : {B : Type 0} (log : B → Option Log) (found : FoundOnBanks) (old : Option Log) (given left rest before now : Option (List ℕ)) (size grown : ℕ) (session : Session B) (count : ℕ) (line : List ℕ)
    → (way : IsShellUnderWay log found old given left before now size session count)
    → ((bytes : List ℕ) → left ≡ Some bytes → TakesLine size bytes rest grown (Some line)) → IfTold given (AreLinesUpTo line rest) way.done.lines
are_up_to log found old given left rest before now size grown session count line way takes bytes told =
    let at : IsLeft bytes rest grown (count + 1) (way.done.lines ++ line ∷ []) = taken_left given left size grown count way.done.lines line rest way.left_of takes bytes told in
    record {
      first = first_of_way bytes rest grown (count + 1) (way.done.lines ++ line ∷ []) (omega (arith, way.counted, length-append way.done.lines (line ∷ []))) at;
      left_is = subst (λ (n : ℕ). rest ≡ Some (left_after (n + 1) bytes)) way.counted (at.is ∙ ap (λ (b : List ℕ). Some b) at.behind);
    }

-- ---- how it ends

-- between two lines
pub stops_between : {B : Type 0} (log : B → Option Log) (Lines : List ℕ → List (List ℕ) → Type 0) (found : FoundOnBanks) (old : Option Log) (given left before now : Option (List ℕ)) (size : ℕ) (session : Session B) (count : ℕ)
    → (way : IsShellUnderWay log found old given left before now size session count) → IfTold given Lines way.done.lines
    → StopsBetweenLines Lines found (record { given = given; before = before; after = now; old = old; now = log (session_banks session) })
stops_between log Lines found old given left before now size session count way are = record {
  done = way.done;
  lines_are = are;
  written = way.written;
  keeps = session_finds log session way.done.shell way.stands;
  leaves = leaves_done found way.done old (log (session_banks session)) way.moments way.settled;
}

-- in the middle of a line
pub stops_within : {B : Type 0} (log : B → Option Log) (found : FoundOnBanks) (old : Option Log) (first : Log) (given left rest before now : Option (List ℕ)) (size grown : ℕ) (session : Session B) (count : ℕ) (line : List ℕ) (back : B)
    → old ≡ Some first → IsShellUnderWay log found old given left before now size session count
    → ((bytes : List ℕ) → left ≡ Some bytes → TakesLine size bytes rest grown (Some line))
    → ((shell : Shell) → SessionStands log session shell → StopsLine log shell line (session_banks session) back)
    → StopsWithinLine found rest (record { given = given; before = before; after = now; old = old; now = log back })
stops_within log found old first given left rest before now size grown session count line back told way takes stops =
    let stop : StopsLine log way.done.shell line (session_banks session) back = stops way.done.shell way.stands in
    record {
      done = way.done;
      line = line;
      lines_are = are_up_to log found old given left rest before now size grown session count line way takes;
      written = way.written;
      due = stop.steps;
      is_due = stop.due;
      leaves = leaves_due found way.done stop.steps old (log (session_banks session)) (log back) first told way.moments way.settled stop.moments;
    }

-- behind a line whose reply could not be written whole
pub stops_writing : {B : Type 0} (log : B → Option Log) (found : FoundOnBanks) (old : Option Log) (given left rest before now after : Option (List ℕ)) (size grown : ℕ) (session next : Session B) (count : ℕ) (line had reply : List ℕ) (n : ℕ)
    → IsShellUnderWay log found old given left before now size session count
    → ((bytes : List ℕ) → left ≡ Some bytes → TakesLine size bytes rest grown (Some line))
    → ((shell : Shell) → SessionStands log session shell → DoesLine log shell line (session_banks session) had next reply) → had ≡ []
    → Appends now after (take n reply)
    → StopsWriting found rest (record { given = given; before = before; after = after; old = old; now = log (session_banks next) })
stops_writing log found old given left rest before now after size grown session next count line had reply n way takes does none writes =
    let act : DoesLine log way.done.shell line (session_banks session) had next reply = does way.done.shell way.stands in
    let same : reply ≡ act.text = act.written ∙ ap (λ (t : List ℕ). t ++ act.text) none in
    let both : LinesDone found = record {
      lines = way.done.lines ++ line ∷ [];
      text = way.done.text ++ act.text;
      steps = way.done.steps ++ act.steps;
      shell = act.shell;
      runs = runs_more (Shut found) way.done.shell act.shell way.done.lines way.done.text line act.text way.done.steps act.steps way.done.runs act.does;
    } in
    record {
      done = way.done;
      line = line;
      lines_are = are_up_to log found old given left rest before now size grown session count line way takes;
      reply = act.text;
      steps = act.steps;
      next = act.shell;
      does = act.does;
      size = n;
      written = appends_more before now after way.done.text (take n act.text) way.written (subst (λ (t : List ℕ). Appends now after (take n t)) same writes);
      keeps = session_finds log next act.shell act.stands;
      leaves = leaves_done found both old (log (session_banks next))
          (moments_then found (found_of way.done.shell) way.done.steps act.steps old (log (session_banks session)) (log (session_banks next)) (led found way.done) way.moments way.settled act.moments)
          (λ images. act.settled (way.settled images));
    }

-- ---- the run ends so

-- where a line could not be read
pub ends_reading : (fault : InputFault) (found : FoundOnBanks) (left : Option (List ℕ)) (ends : ShellEdges)
    → (((line : ℕ) → fault ≢ inputs.TooLarge line) → StopsBetweenLines (AreReadLines left) found ends)
    → ((at : ℕ) → fault ≡ inputs.TooLarge at → StopsBetweenLines (AreLinesBefore at) found ends) → ShellEnds (Some (shell_fault_of_input fault)) found left ends
ends_reading inputs.ReadFault found left ends read large = read (λ line is. absurd (cc (is)))
ends_reading (inputs.TooLarge at) found left ends read large = large at refl
ends_reading inputs.NoMemory found left ends read large = between (read (λ line is. absurd (cc (is))))

-- where one was not done
pub ends_line : (fault : SessionFault) (found : FoundOnBanks) (left : Option (List ℕ)) (ends : ShellEdges) → StopsWithinLine found left ends → ShellEnds (Some (fault_of_line fault)) found left ends
ends_line line_faults.Device found left ends stops = stops
ends_line line_faults.NoMemory found left ends stops = within stops

-- where its reply could not be written
pub ends_writing : (fault : WriteFault) (found : FoundOnBanks) (left : Option (List ℕ)) (ends : ShellEdges) → StopsWriting found left ends → ShellEnds (Some (shell_fault_of_write fault)) found left ends
ends_writing writes.Failed found left ends stops = stops
ends_writing writes.NoMemory found left ends stops = writing stops

-- where the words were not read
pub not_read : {B : Type 0} (log : B → Option Log) (fault : FolderFault) (banks : B) (given before : Option (List ℕ)) (first : Log) → log banks ≡ Some first
    → ShellEnds (Some (fault_of_words fault)) (found_in (read_banks (seen first))) given (record { given = given; before = before; after = before; old = log banks; now = log banks })
not_read log words_faults.Usage banks given before first told = record { nothing = record { all_left = refl; none_written = refl }; same_banks = refl }
not_read log words_faults.NoMemory banks given before first told =
    let found : FoundOnBanks = found_in (read_banks (seen first)) in
    let way : IsShellUnderWay log found (log banks) given given before before 0 (sessions.Shut banks) 0 = way_first log banks (sessions.Shut banks) given before 0 first refl refl told in
    between (stops_between log (AreReadLines given) found (log banks) given given before before 0 (sessions.Shut banks) 0 way (are_none log found (log banks) given before before 0 (sessions.Shut banks) way))
