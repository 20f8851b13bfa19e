use Rattle.crash_laws.proofs.Fronts as fronts
use Rattle.crash_laws.proofs.Generations as generations
use Rattle.crash_laws.proofs.carried.carried_fronts.Goals as goal

pub returns-clause-some : goal.returns-clause-some
returns-clause-some c = fronts.carried_some

pub returns-clause-caught : goal.returns-clause-caught
returns-clause-caught c = fronts.carried_caught

pub returns-clause-calls : goal.returns-clause-calls
returns-clause-calls c = fronts.carried_calls

pub returns-clause-generations : goal.returns-clause-generations
returns-clause-generations c = generations.image_up_to
