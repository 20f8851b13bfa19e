-- How far the source of a run was read, whatever its banks tell.
use Rattle.std.proofs.Common.{◌≡◌, ◌∙◌, ℕ, ◌+◌, Bool, false, List, [], ◌∷◌, ◌++◌, Option, None, Some, refl, inl, inr, length}
use Rattle.mld_io.specs.Lines.{lines_of}
use Rattle.mld_io.specs.declared.faults.WriteFault.{WriteFault}
use Rattle.mld_io.specs.declared.faults.WriteFault.TheVariants as writes
use Rattle.input_lines.specs.declared.faults.InputFault.{InputFault}
use Rattle.input_lines.specs.declared.faults.InputFault.TheVariants as inputs
use Rattle.input_lines.specs.TooLarge.{BreaksLimits}
use Rattle.input_lines.specs.Taken.{WhereTold, TakesLine, IsLeft, KnowsEnd}
use Rattle.input_lines.specs.HowFar.{IsBrokenOff, IsReadWithin}
use Rattle.input_lines.proofs.TakenLemmas.{left_first, taken_left, all_fit}
use Rattle.input_lines.proofs.HowFarLemmas.{just_done, just_whole, meets_large, into_next, into_first, within_none, within_just, within_into, within_large}
use Rattle.shell_session.specs.declared.faults.SessionFault.{SessionFault}
use Rattle.shell_session.specs.declared.faults.SessionFault.TheVariants as sessions
use Rattle.shell_run.specs.declared.faults.FolderFault.{FolderFault}
use Rattle.shell_run.specs.declared.faults.FolderFault.TheVariants as words
use Rattle.shell_run.specs.declared.run.ShellFault.{ShellFault}
use Rattle.shell_run.specs.declared.run.ShellFault.TheVariants as faults
use Rattle.shell_run.specs.ShellStatuses.{fault_of_words, fault_of_line, shell_fault_of_input, shell_fault_of_write}
use Rattle.shell_run.specs.Inputs.{IsReadUpToLine, IsReadSo, AreTakenSoFar}

-- no line is taken yet
pub none_taken : (given : Option (List ℕ)) (size : ℕ) → size ≡ 0 → AreTakenSoFar given given size 0
none_taken given size nothing = record { lines = []; left_of = left_first given size nothing }

module _ (given left : Option (List ℕ)) (size done : ℕ) (so : AreTakenSoFar given left size done) where
  -- one more was
  pub one_taken : (rest : Option (List ℕ)) (grown : ℕ) (line : List ℕ) → ((bytes : List ℕ) → left ≡ Some bytes → TakesLine size bytes rest grown (Some line))
      → AreTakenSoFar given rest grown (done + 1)
  one_taken rest grown line takes = record { lines = so.lines ++ line ∷ []; left_of = taken_left given left size grown done so.lines line rest so.left_of takes }

  -- there was no more
  pub read_whole : (rest : Option (List ℕ)) → ((bytes : List ℕ) → given ≡ Some bytes → (behind : List ℕ) → left ≡ Some behind → (behind ≡ []) × (rest ≡ Some []))
      → WhereTold given (IsReadSo None rest)
  read_whole rest none bytes told =
      let at : IsLeft bytes left size done so.lines = so.left_of bytes told in
      let end : (at.rest ≡ []) × (rest ≡ Some []) = none bytes told at.rest at.is in
      record { all = end.1; fits = all_fit bytes left size done so.lines at end.0 }

  -- one could not be read
  pub read_short : (fault : InputFault) (rest : Option (List ℕ)) (before : Bool) → KnowsEnd before given left done → before ≡ false
      → ((bytes : List ℕ) → left ≡ Some bytes → IsBrokenOff size fault bytes rest)
      → ((at : ℕ) → fault ≡ inputs.TooLarge at → (at ≡ done + 1) × ((bytes : List ℕ) → left ≡ Some bytes → BreaksLimits size bytes))
      → WhereTold given (IsReadSo (Some (shell_fault_of_input fault)) rest)
  read_short inputs.ReadFault rest before knows not_yet broken large bytes told =
      (done, into_next given left rest size done so.lines before inputs.ReadFault knows not_yet (λ at is. absurd (cc (is))) broken bytes told (so.left_of bytes told))
  read_short (inputs.TooLarge number) rest before knows not_yet broken large bytes told =
      let at : IsLeft bytes left size done so.lines = so.left_of bytes told in
      let breaks = large number refl in
      record {
        before = done;
        counted = breaks.0;
        meets = meets_large bytes left rest size done so.lines at (breaks.1 at.rest at.is) (broken at.rest at.is);
      }
  read_short inputs.NoMemory rest before knows not_yet broken large bytes told =
      inl (done, into_next given left rest size done so.lines before inputs.NoMemory knows not_yet (λ at is. absurd (cc (is))) broken bytes told (so.left_of bytes told))

  -- one was read, and not answered
  pub read_up_to : (rest : Option (List ℕ)) (grown : ℕ) (line : List ℕ) → ((bytes : List ℕ) → left ≡ Some bytes → TakesLine size bytes rest grown (Some line))
      → WhereTold given (IsReadUpToLine rest)
  read_up_to rest grown line takes bytes told =
      let at : IsLeft bytes left size done so.lines = so.left_of bytes told in
      record {
        before = done;
        some = λ none. (takes at.rest at.is).0 (at.behind ∙ none);
        read = just_done bytes rest grown (done + 1) (so.lines ++ line ∷ []) (taken_left given left size grown done so.lines line rest so.left_of takes bytes told);
      }

-- it is said where a line could not be done or answered, and where the words were not read

pub said_line : (fault : SessionFault) (left : Option (List ℕ)) (bytes : List ℕ) → IsReadUpToLine left bytes → IsReadSo (Some (fault_of_line fault)) left bytes
said_line sessions.Device left bytes read = read
said_line sessions.NoMemory left bytes read = inr read

pub said_writing : (fault : WriteFault) (left : Option (List ℕ)) (bytes : List ℕ) → IsReadUpToLine left bytes → IsReadSo (Some (shell_fault_of_write fault)) left bytes
said_writing writes.Failed left bytes read = read
said_writing writes.NoMemory left bytes read = inr read

pub said_words : (fault : FolderFault) (left : Option (List ℕ)) (bytes : List ℕ) → left ≡ Some bytes → IsReadSo (Some (fault_of_words fault)) left bytes
said_words words.Usage left bytes is = is
said_words words.NoMemory left bytes is = inl (0, into_first bytes left is)

-- it was no more than an input may have, and one byte
pub within_end : (fault : Option ShellFault) (left : Option (List ℕ)) (bytes : List ℕ) → IsReadSo fault left bytes → IsReadWithin bytes left
within_end None left bytes read = within_just bytes left (length (lines_of bytes) + 1) (just_whole bytes left read.all read.fits)
within_end (Some faults.Usage) left bytes read = within_none bytes left read
within_end (Some faults.ReadFault) left bytes read = within_into bytes left read.0 read.1
within_end (Some faults.WriteFault) left bytes read = within_just bytes left (read.before + 1) read.read
within_end (Some faults.NoMemory) left bytes (inl part) = within_into bytes left part.0 part.1
within_end (Some faults.NoMemory) left bytes (inr line) = within_just bytes left (line.before + 1) line.read
within_end (Some faults.Device) left bytes read = within_just bytes left (read.before + 1) read.read
within_end (Some (faults.TooLarge number)) left bytes read = within_large bytes left read.before read.meets
