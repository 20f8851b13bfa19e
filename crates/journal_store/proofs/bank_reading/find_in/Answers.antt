use Rattle.std.proofs.Common.{sym, ◌∙◌}
use Rattle.std.proofs.lemmas.Bool.{true≢false}
use Rattle.journal_sides.proofs.GoodLaws.{found_good}
use Rattle.journal_sides.proofs.SideReading.{closed_side}
use Rattle.journal_store.proofs.bank_reading.find_in.Goals as goal

pub returns-then-not-is_opened-clause-tells : goal.returns-then-not-is_opened-clause-tells
returns-then-not-is_opened-clause-tells c = closed_side c.args.input.now (λ begins. true≢false (sym (c.is_opened.ensures.1 begins) ∙ c.if-not-is_opened.true))

pub returns-in-Ok-clause-good : goal.returns-in-Ok-clause-good
returns-in-Ok-clause-good c = found_good c.in-Ok.found c.args.input.now c.in-Ok.ensures.tells.0
