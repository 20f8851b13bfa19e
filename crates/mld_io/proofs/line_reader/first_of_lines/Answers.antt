-- The law is a lemma of specs/.
use Rattle.mld_io.proofs.LinesLaws.{first_of_lines_lem}
use Rattle.mld_io.proofs.line_reader.first_of_lines.Goals as goal

pub returns : goal.returns
returns c = first_of_lines_lem
