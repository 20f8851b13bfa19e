use Rattle.mld_ops.proofs.MeaningLaws as laws
use Rattle.mld_ops.proofs.laws.one_meaning.Goals as goal

pub returns-clause-one : goal.returns-clause-one
returns-clause-one c = laws.one_meaning

pub returns-clause-of_the_dots : goal.returns-clause-of_the_dots
returns-clause-of_the_dots c = laws.same_known
