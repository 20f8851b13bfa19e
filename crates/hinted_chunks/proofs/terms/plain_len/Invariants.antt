use Rattle.std.proofs.Common.{◌≡◌, ◌+◌, drop}
use Rattle.hinted_chunks.specs.TermFronts.{plain_length}
use Rattle.hinted_chunks.proofs.terms.plain_len.Given as goal

abbrev pub invariant-loop-i : goal.invariant-loop-i
invariant-loop-i l = plain_length l.lexical ≡ l.i + plain_length (drop l.i l.lexical)
