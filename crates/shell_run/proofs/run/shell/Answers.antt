use Rattle.std.proofs.Common.{map}
use Rattle.std.specs.String.{string_bytes}
use Rattle.shell_run.specs.FolderWords.{AreRefusedWords}
use Rattle.shell_run.proofs.FaultLemmas.{words_usage}
use Rattle.shell_run.proofs.InputLemmas.{said_words}
use Rattle.shell_run.proofs.WayLemmas.{not_read}
use Rattle.shell_run.proofs.run.shell.Goals as goal

pub returns-in-Err-clause-ends : goal.returns-in-Err-clause-ends
returns-in-Err-clause-ends g c = λ log told.
    rw (c.end_run.ensures.fault, c.words_fault.ensures, c.end_run.ensures.banks) (not_read g.B.Banks.log c.in-Err.fault c.args.banks (g.S.Source.left c.args.source.now) (g.K.Sink.held c.args.sink.now) log told)

pub returns-in-Err-clause-usage : goal.returns-in-Err-clause-usage
returns-in-Err-clause-usage g c =
    rw (c.end_run.ensures.fault, c.words_fault.ensures) (words_usage c.in-Err.fault (AreRefusedWords (map (λ w. string_bytes w) c.args.words.now.items)) c.in-Err.ensures.usage)

pub returns-in-Err-clause-input : goal.returns-in-Err-clause-input
returns-in-Err-clause-input g c = λ bytes told. rw (c.end_run.ensures.fault, c.words_fault.ensures) (said_words c.in-Err.fault (g.S.Source.left c.args.source.now) bytes told)
