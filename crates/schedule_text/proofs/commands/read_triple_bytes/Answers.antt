use Rattle.std.proofs.Common.{ℕ, List, subst, sym}
use Rattle.schedule_text.specs.ReadLines.{IsTripleText}
use Rattle.schedule_text.proofs.LinesCommands.{no_triple}
use Rattle.schedule_text.proofs.commands.read_triple_bytes.Goals as goal

pub returns-in-Err-TooLong : goal.returns-in-Err-TooLong
returns-in-Err-TooLong c = λ triple spelled.
    let long = c.in-Err-TooLong.field-0-is in
    no_triple c.in-Ok.text.now c.in-Err-TooLong.field-0 c.in-Err-TooLong.ensures.refusals (λ e. cc) triple
    (subst (λ (l : List ℕ). IsTripleText l triple) (sym c.in-Ok.ensures.cases.0) spelled)
