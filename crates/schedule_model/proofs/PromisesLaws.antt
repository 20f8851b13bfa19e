-- The world that the lines of a schedule lead to keeps what is promised.
use Rattle.mld_model.specs.Clone.{known_of}
use Rattle.mld_model.specs.Sound.{IsSound}
use Rattle.schedule_model.specs.Laws.{RunsKeepPromises}
use Rattle.schedule_model.proofs.StepSoundLaws.{runs_sound, one_leaf}
use Rattle.schedule_model.proofs.AnswersLaws.{answers_survive}
use Rattle.schedule_model.proofs.QueryLaws.{same_pairs, same_answers}

pub promises_kept : RunsKeepPromises
promises_kept lines text stage world runs founds =
    let sound : IsSound world = runs_sound lines text stage world runs founds in
    record {
      sound = sound;
      agree = λ number other stored kept held waiting one two within back pairs others. same_pairs world.history (known_of stored) (known_of kept) pairs others within back;
      alike = same_answers world;
      answers = answers_survive lines world;
      leaves = one_leaf world sound;
    }
