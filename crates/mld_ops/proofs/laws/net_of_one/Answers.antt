use Rattle.mld_ops.proofs.NetLaws as laws
use Rattle.mld_ops.proofs.laws.net_of_one.Goals as goal

pub returns-clause-one : goal.returns-clause-one
returns-clause-one c = laws.net_iff_effect

pub returns-clause-unknown : goal.returns-clause-unknown
returns-clause-unknown c = laws.net_with_unknown

pub returns-clause-alone : goal.returns-clause-alone
returns-clause-alone c = laws.one_net
