use Rattle.mld_ops.proofs.PresentLaws as laws
use Rattle.mld_ops.proofs.laws.present_triples.Goals as goal

pub returns-clause-members : goal.returns-clause-members
returns-clause-members c = laws.has_present

pub returns-clause-ascending : goal.returns-clause-ascending
returns-clause-ascending c = laws.present_ascends

pub returns-clause-one : goal.returns-clause-one
returns-clause-one c = laws.one_present
