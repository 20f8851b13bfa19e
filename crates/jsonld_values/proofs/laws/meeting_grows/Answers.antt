use Rattle.jsonld_values.proofs.Meeting.{met_behind}
use Rattle.jsonld_values.proofs.NumberingLaws.{mark_grown, mark_kept, none_named}
use Rattle.jsonld_values.proofs.laws.meeting_grows.Goals as goal

pub returns-clause-variable : goal.returns-clause-variable
returns-clause-variable c = met_behind

pub returns-clause-mark : goal.returns-clause-mark
returns-clause-mark c = λ names. (mark_grown names, mark_kept names)

pub returns-clause-nothing : goal.returns-clause-nothing
returns-clause-nothing c = none_named
