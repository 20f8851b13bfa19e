use Rattle.measure_journals.proofs.plain_banks.PlainBanksBanks.read_at.Goals as goal

pub returns-clause-meter : goal.returns-clause-meter
returns-clause-meter c = c.answer.ensures.meter 0
