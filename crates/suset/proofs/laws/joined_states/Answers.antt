use Rattle.suset.proofs.JoinedStates as laws
use Rattle.suset.proofs.laws.joined_states.Goals as goal

pub returns-clause-one : goal.returns-clause-one
returns-clause-one c = laws.join_is_one

pub returns-clause-closed : goal.returns-clause-closed
returns-clause-closed c = laws.join_is_closed

pub returns-clause-meaning : goal.returns-clause-meaning
returns-clause-meaning c = laws.join_is_meaning

pub returns-clause-commutes : goal.returns-clause-commutes
returns-clause-commutes c = laws.join_commutes

pub returns-clause-associates : goal.returns-clause-associates
returns-clause-associates c = laws.join_associates

pub returns-clause-idempotent : goal.returns-clause-idempotent
returns-clause-idempotent c = laws.join_is_idempotent
