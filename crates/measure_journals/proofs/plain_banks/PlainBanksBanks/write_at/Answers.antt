use Rattle.measure_journals.proofs.plain_banks.PlainBanksBanks.write_at.Goals as goal

pub returns-then-eq-clause-meter : goal.returns-then-eq-clause-meter
returns-then-eq-clause-meter c = c.answer.ensures.meter 1

pub returns-clause-meter : goal.returns-clause-meter
returns-clause-meter c = c.answer-2.ensures.meter 1
