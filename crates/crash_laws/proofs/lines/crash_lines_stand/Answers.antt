use Rattle.crash_laws.proofs.CrashedLines as laws
use Rattle.crash_laws.proofs.FollowedLines as followed
use Rattle.crash_laws.proofs.lines.crash_lines_stand.Goals as goal

pub returns-clause-caught : goal.returns-clause-caught
returns-clause-caught c = laws.caught_crash

pub returns-clause-opening : goal.returns-clause-opening
returns-clause-opening c = laws.caught_opening

pub returns-clause-done : goal.returns-clause-done
returns-clause-done c = laws.done_crash

pub returns-clause-caught_follows : goal.returns-clause-caught_follows
returns-clause-caught_follows c = followed.caught_followed

pub returns-clause-done_follows : goal.returns-clause-done_follows
returns-clause-done_follows c = followed.done_followed
