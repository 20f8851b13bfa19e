use Rattle.mld_bytes.proofs.Numbers.{u32_same, u64_same, number_same}
use Rattle.mld_bytes.proofs.laws.one_number.Goals as goal

pub returns-clause-four : goal.returns-clause-four
returns-clause-four c = u32_same

pub returns-clause-eight : goal.returns-clause-eight
returns-clause-eight c = u64_same

pub returns-clause-sized : goal.returns-clause-sized
returns-clause-sized c = number_same
