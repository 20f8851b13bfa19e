-- An id has 16 bytes.
use Rattle.std.proofs.Common.{◌≡◌, ◌∙◌, ap, sym, length, rules}
use Rattle.journal_sides.proofs.head_writing.append_own_id.Goals as goal

pub returns-clause-stored : goal.returns-clause-stored
returns-clause-stored c = let long : 16 ≡ length c.into_bytes-bytes.result = search rules in ap length (sym c.into_bytes-bytes.ensures) ∙ sym long
