use Rattle.schedule_model.specs.Tasks.{command_of}
use Rattle.schedule_model.proofs.ScheduleLaws.{task_has_plan}
use Rattle.clone_core.specs.DurableCalls.{AppendsPlanned}
use Rattle.crash_laws.proofs.DoneDeeds as done
use Rattle.crash_laws.proofs.KeepingDeeds as keeping
use Rattle.crash_laws.proofs.OtherDeeds as others
use Rattle.crash_laws.proofs.ToldDeeds as told
use Rattle.crash_laws.proofs.deeds.deeds_done.Goals as goal

pub returns-clause-updated : goal.returns-clause-updated
returns-clause-updated c world number old sound at side generation command plan answer new steps is made same =
    done.updated_deed world number old sound at side generation command plan answer new steps (AppendsPlanned old plan) is made same

pub returns-clause-too_many : goal.returns-clause-too_many
returns-clause-too_many c = done.too_many_deed

pub returns-clause-single : goal.returns-clause-single
returns-clause-single c = done.single_deed

pub returns-clause-answered : goal.returns-clause-answered
returns-clause-answered c = done.answered_deed

pub returns-clause-full : goal.returns-clause-full
returns-clause-full c = done.full_deed

pub returns-clause-deep : goal.returns-clause-deep
returns-clause-deep c = done.deep_deed

pub returns-clause-unsent : goal.returns-clause-unsent
returns-clause-unsent c = others.unsent_deed

pub returns-clause-asking : goal.returns-clause-asking
returns-clause-asking c = others.asking_deed

pub returns-clause-uncompacted : goal.returns-clause-uncompacted
returns-clause-uncompacted c = keeping.uncompacted_deed

pub returns-clause-untruncated : goal.returns-clause-untruncated
returns-clause-untruncated c = keeping.untruncated_deed

pub returns-clause-passing : goal.returns-clause-passing
returns-clause-passing c = told.passed_deed

pub returns-clause-opening : goal.returns-clause-opening
returns-clause-opening c = others.opened_deed

pub returns-clause-unchanged : goal.returns-clause-unchanged
returns-clause-unchanged c = others.unchanged_deed

pub returns-clause-deed : goal.returns-clause-deed
returns-clause-deed c world task number reading steps reply next form carried does =
    others.deed_was world (command_of task) number reading steps reply next (task_has_plan task form) carried does
