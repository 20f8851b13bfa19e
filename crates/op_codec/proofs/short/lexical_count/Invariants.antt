use Rattle.std.proofs.Common.{◌≡◌, length, take}
use Rattle.text_rules.specs.Escaped.{escaped}
use Rattle.op_codec.proofs.short.lexical_count.Given as goal

abbrev pub invariant-loop-byte : goal.invariant-loop-byte
invariant-loop-byte l = l.count ≡ length (escaped (take l.byte-index l.lexical))
