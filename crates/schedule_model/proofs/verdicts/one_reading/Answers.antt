use Rattle.schedule_model.proofs.ScheduleLaws.{one_kind, one_setup, one_property, one_command}
use Rattle.schedule_model.proofs.verdicts.one_reading.Goals as goal

pub returns-clause-kind : goal.returns-clause-kind
returns-clause-kind c = one_kind

pub returns-clause-setup : goal.returns-clause-setup
returns-clause-setup c = one_setup

pub returns-clause-property : goal.returns-clause-property
returns-clause-property c = one_property

pub returns-clause-command : goal.returns-clause-command
returns-clause-command c = one_command
