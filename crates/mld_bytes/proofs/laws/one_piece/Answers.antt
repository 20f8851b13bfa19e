use Rattle.mld_bytes.proofs.Numbers.{piece_same}
use Rattle.mld_bytes.proofs.laws.one_piece.Goals as goal

pub returns : goal.returns
returns c = piece_same
