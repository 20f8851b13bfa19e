use Rattle.std.proofs.Common.{rules}
use Rattle.schedule_text.proofs.LinesSetups.{no_single, no_single_text, single_read}
use Rattle.schedule_text.proofs.setups.single_line.Goals as goal

pub returns-in_default : goal.returns-in_default
returns-in_default c = no_single c.args.line.now c.in_default.ensures

pub returns-in_default-from_utf8 : goal.returns-in_default-from_utf8
returns-in_default-from_utf8 c = no_single_text c.args.line.now c.in-Some.rest.now c.in-Some.ensures c.in_default-from_utf8.ensures.cases.0

pub returns : goal.returns
returns c = single_read c.args.line.now c.in-Ok.text.now c.read_iri.result (search rules) (search rules) c.read_iri.ensures
