-- The faults of the parts of a run, and the counts of faults.
use Rattle.std.proofs.Common.{◌≡◌, ◌≢◌, ℕ, ◌∙◌, refl, ap, arith, subst, Some, Result, Err}
use Rattle.mld_io.specs.Faults.{counted, Rose, HasWriteCause}
use Rattle.mld_io.specs.declared.faults.WriteFault.{WriteFault}
use Rattle.mld_io.specs.declared.faults.WriteFault.TheVariants as writes
use Rattle.input_lines.specs.InputFaults.{RoseJustWhere, HasReadCause}
use Rattle.input_lines.specs.declared.faults.InputFault.{InputFault}
use Rattle.input_lines.specs.declared.faults.InputFault.TheVariants as inputs
use Rattle.shell_run.specs.declared.faults.FolderFault.{FolderFault}
use Rattle.shell_run.specs.declared.faults.FolderFault.TheVariants as words
use Rattle.shell_session.specs.declared.faults.SessionFault.{SessionFault}
use Rattle.shell_session.specs.declared.faults.SessionFault.TheVariants as sessions
use Rattle.shell_session.specs.RunEnds.{TellsUsage}
use Rattle.mld_io.specs.Arm.{Meter}
use Rattle.shell_session.specs.SessionLines.{Meters}
use Rattle.shell_run.specs.declared.run.ShellFault.TheVariants as faults
use Rattle.shell_run.specs.ShellStatuses.{fault_of_words, fault_of_line, shell_fault_of_input, shell_fault_of_write}

-- ---- the counts of faults of source and sink

-- no part of a run but the reading of a line calls the source, and none but the writing of a reply the sink

pub read_rose : {T : Type 0} (fault : InputFault) (first before now : ℕ) → HasReadCause {T = T} before now (Err fault) → before ≡ first
    → RoseJustWhere (Some (shell_fault_of_input fault) ≡ Some faults.ReadFault) first now
read_rose inputs.ReadFault first before now cause same = record { failed = λ _. subst (λ (n : ℕ). Rose n now) same (cause.failed refl); quiet = λ none. absurd (none refl) }
read_rose (inputs.TooLarge line) first before now cause same = record { failed = λ is. absurd (cc (is)); quiet = λ _. cause.quiet (λ is. absurd (cc (is))) ∙ same }
read_rose inputs.NoMemory first before now cause same = record { failed = λ is. absurd (cc (is)); quiet = λ _. cause.quiet (λ is. absurd (cc (is))) ∙ same }

pub write_rose : {T : Type 0} (fault : WriteFault) (first before now : ℕ) → HasWriteCause {T = T} before now (Err fault) → before ≡ first
    → RoseJustWhere (Some (shell_fault_of_write fault) ≡ Some faults.WriteFault) first now
write_rose writes.Failed first before now cause same = record { failed = λ _. subst (λ (n : ℕ). Rose n now) same (cause.failed refl); quiet = λ none. absurd (none refl) }
write_rose writes.NoMemory first before now cause same = record { failed = λ is. absurd (cc (is)); quiet = λ _. cause.no_memory refl ∙ same }

-- no part tells of another's failure

pub reading_not_writing : (fault : InputFault) → Some (shell_fault_of_input fault) ≢ Some faults.WriteFault
reading_not_writing inputs.ReadFault is = absurd (cc (is))
reading_not_writing (inputs.TooLarge line) is = absurd (cc (is))
reading_not_writing inputs.NoMemory is = absurd (cc (is))

pub line_not_reading : (fault : SessionFault) → Some (fault_of_line fault) ≢ Some faults.ReadFault
line_not_reading sessions.Device is = absurd (cc (is))
line_not_reading sessions.NoMemory is = absurd (cc (is))

pub line_not_writing : (fault : SessionFault) → Some (fault_of_line fault) ≢ Some faults.WriteFault
line_not_writing sessions.Device is = absurd (cc (is))
line_not_writing sessions.NoMemory is = absurd (cc (is))

pub writing_not_reading : (fault : WriteFault) → Some (shell_fault_of_write fault) ≢ Some faults.ReadFault
writing_not_reading writes.Failed is = absurd (cc (is))
writing_not_reading writes.NoMemory is = absurd (cc (is))

-- usage is told where the words are refused
pub words_usage : {A : Type 0} (fault : FolderFault) (Refused : Type 0) → (◌≡◌ {A = Result A FolderFault} (Err fault) (Err words.Usage) → Refused)
    → TellsUsage faults.Usage faults.NoMemory (Some (fault_of_words fault)) Refused
words_usage words.Usage Refused told = record { refused = λ _. told refl; read = λ differs _. absurd (differs refl) }
words_usage words.NoMemory Refused told = record { refused = λ is. absurd (cc (is)); read = λ _ differs. absurd (differs refl) }

-- ---- the meter of the banks

-- no bank was called
pub meters_same : (meter : Meter) → Meters meter meter ⊥
meters_same meter = record { later = omega arith; real_later = omega arith; unarmed = λ is. is; failed = λ none. absurd none; cause = λ none. absurd none; quiet = λ none. (refl, refl) }

-- one line after others that had no fault
pub meters_then : {F : Type 0} (before middle now : Meter) → Meters before middle ⊥ → Meters middle now F → Meters before now F
meters_then before middle now one two =
    let well = one.quiet (λ none. none) in
    record {
      later = omega (arith, one.later, two.later);
      real_later = omega (arith, one.real_later, two.real_later);
      unarmed = λ is. two.unarmed (one.unarmed is);
      failed = λ failed. two.failed failed ∙ ap counted well.0;
      cause = λ failed is. two.cause failed (one.unarmed is) ∙ ap counted well.1;
      quiet = λ none. let more = two.quiet none in (more.0 ∙ well.0, more.1 ∙ well.1);
    }
