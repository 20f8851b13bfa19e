use Rattle.mld_ops.proofs.MeaningLaws as laws
use Rattle.mld_ops.proofs.laws.meaning_of_taken.Goals as goal

pub returns-clause-unknown : goal.returns-clause-unknown
returns-clause-unknown c = laws.meaning_with_unknown

pub returns-clause-taken : goal.returns-clause-taken
returns-clause-taken c = laws.meaning_of_taken
