use Rattle.schedule_model.proofs.PromisesLaws as laws
use Rattle.schedule_model.proofs.soundness.promises_kept.Goals as goal

pub returns : goal.returns
returns c = laws.promises_kept
