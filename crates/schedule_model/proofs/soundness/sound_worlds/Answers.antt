use Rattle.mld_model.proofs.FoundedLaws.{founded_sound}
use Rattle.schedule_model.proofs.QueryLaws.{same_pairs, same_answers}
use Rattle.schedule_model.proofs.StepSoundLaws as laws
use Rattle.schedule_model.proofs.soundness.sound_worlds.Goals as goal

pub returns-clause-founded : goal.returns-clause-founded
returns-clause-founded c = founded_sound

pub returns-clause-step : goal.returns-clause-step
returns-clause-step c = laws.step_sound

pub returns-clause-runs : goal.returns-clause-runs
returns-clause-runs c = laws.runs_sound

pub returns-clause-same_pairs : goal.returns-clause-same_pairs
returns-clause-same_pairs c = same_pairs

pub returns-clause-same_answers : goal.returns-clause-same_answers
returns-clause-same_answers c = same_answers

pub returns-clause-one_leaf : goal.returns-clause-one_leaf
returns-clause-one_leaf c = laws.one_leaf
