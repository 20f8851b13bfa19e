use Rattle.std.proofs.Common.{◌<◌, length, rules}
use Rattle.std.proofs.lemmas.Bool.{false≢true}
use Rattle.shell_session.proofs.ShellWords.{no_first_word, word_before}
use Rattle.shell_session.proofs.words.has_first_word.Goals as goal

pub returns-in_default : goal.returns-in_default
returns-in_default c = (λ h. absurd (false≢true h), λ h. absurd (no_first_word c.args.line.now c.args.word.now c.in_default.ensures h))

pub returns : goal.returns
returns c =
    let some : 0 < length c.in-Some.rest.now = search rules in
    word_before c.args.line.now c.args.word.now c.in-Some.rest.now c.in-Some.ensures some
