-- What the clauses of a run say together, by cases over its fault.
use Rattle.std.proofs.Common.{◌≡◌, ◌⊎◌, ◌∙◌, ℕ, List, Option, None, Some, inl, inr, refl, sym, ap, subst}
use Rattle.shell_session.specs.RunEnds.{IfFound}
use Rattle.shell_session.specs.ShellRuns.{ShellRuns}
use Rattle.shell_session.specs.Shells.{FoundOnBanks, Shut}
use Rattle.shell_session.proofs.CompleteLines.{had_none}
use Rattle.shell_run.specs.declared.run.ShellFault.{ShellFault}
use Rattle.shell_run.specs.declared.run.ShellFault.TheVariants as faults
use Rattle.shell_run.specs.ShellCompleteness.{Tellers, ShellCall, ShellClauses, HasNoFault, GivesLines, DoesAllLines, ShellEndsWell, ShellIsComplete, EndsWithoutFault, ShellReadsFew}
use Rattle.shell_run.specs.Inputs.{IsReadSo}
use Rattle.shell_run.specs.ShellEnds.{ShellEnds, ShellEdges}
use Rattle.shell_run.specs.ShellStatuses.{shell_status}
use Rattle.shell_run.proofs.InputLemmas.{within_end}

module _ {S K B : Type 0} (tell : Tellers S K B) (call : ShellCall S K B) (clauses : ShellClauses tell call) (fine : HasNoFault tell call) where
  -- what the run had and left
  abbrev edges : ShellEdges
  edges = record {
    given = tell.left call.source;
    before = tell.held call.sink;
    after = tell.held call.sink_after;
    old = tell.log call.banks;
    now = tell.log call.ran.banks;
  }

  does_all : (bytes : List ℕ) → tell.left call.source ≡ Some bytes → (found : FoundOnBanks) → ShellEnds None found (tell.left call.source_after) edges
      → DoesAllLines tell call bytes found
  does_all bytes has found ends = record {
    text = ends.done.text;
    steps = ends.done.steps;
    shell = ends.done.shell;
    runs = subst (λ (lines : List (List ℕ)). ShellRuns (Shut found) lines ends.done.text ends.done.steps ends.done.shell) (sym (ends.lines_are bytes has).whole) ends.done.runs;
    written = ends.written;
    keeps = ends.keeps;
  }

  by_status : (fault : Option ShellFault) → call.ran.fault ≡ fault → (call.ran.status ≡ 0) ⊎ ((call.ran.status ≡ 5) ⊎ (call.ran.status ≡ 7))
  by_status None is = inl (clauses.status ∙ ap shell_status is)
  by_status (Some faults.Usage) is = absurd (fine.words (clauses.usage.refused is))
  by_status (Some faults.ReadFault) is = absurd (fine.reads (clauses.reads.failed is))
  by_status (Some faults.WriteFault) is = absurd (fine.writes (clauses.writes.failed is))
  by_status (Some faults.NoMemory) is = inr (inl (clauses.status ∙ ap shell_status is))
  by_status (Some faults.Device) is = absurd (had_none _ _ clauses.meter fine.banks is)
  by_status (Some (faults.TooLarge line)) is = inr (inr (clauses.status ∙ ap shell_status is))

  by_fault : (bytes : List ℕ) → GivesLines (tell.left call.source) bytes → (fault : Option ShellFault) → call.ran.fault ≡ fault
      → IsReadSo fault (tell.left call.source_after) bytes
      → IfFound (tell.log call.banks) (λ found. ShellEnds fault found (tell.left call.source_after) edges)
      → ShellEndsWell tell call bytes ⊎ (call.ran.status ≡ 5)
  by_fault bytes gives None is reads ends = inl (record {
    well = clauses.status ∙ ap shell_status is;
    read = reads.all;
    does = λ log told. does_all bytes gives.has _ (ends log told);
  })
  by_fault bytes gives (Some faults.Usage) is reads ends = absurd (fine.words (clauses.usage.refused is))
  by_fault bytes gives (Some faults.ReadFault) is reads ends = absurd (fine.reads (clauses.reads.failed is))
  by_fault bytes gives (Some faults.WriteFault) is reads ends = absurd (fine.writes (clauses.writes.failed is))
  by_fault bytes gives (Some faults.NoMemory) is reads ends = inr (clauses.status ∙ ap shell_status is)
  by_fault bytes gives (Some faults.Device) is reads ends = absurd (had_none _ _ clauses.meter fine.banks is)
  by_fault bytes gives (Some (faults.TooLarge line)) is reads ends = absurd (gives.fits _ reads.meets.large)

pub complete : {S K B : Type 0} (tell : Tellers S K B) → ShellIsComplete tell
complete tell call clauses fine bytes gives = by_fault tell call clauses fine bytes gives call.ran.fault refl (clauses.input bytes gives.has) clauses.ends

pub without_fault : {S K B : Type 0} (tell : Tellers S K B) → EndsWithoutFault tell
without_fault tell call clauses fine = by_status tell call clauses fine call.ran.fault refl

pub reads_few : {S K B : Type 0} (tell : Tellers S K B) → ShellReadsFew tell
reads_few tell call clauses bytes told = within_end call.ran.fault (tell.left call.source_after) bytes (clauses.input bytes told)
