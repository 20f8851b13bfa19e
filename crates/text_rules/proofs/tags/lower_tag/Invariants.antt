use Rattle.std.proofs.Common.{◌≡◌, take}
use Rattle.std.specs.Str.{str_to_ascii_lowercase}
use Rattle.std.specs.String.{string_bytes}
use Rattle.text_rules.proofs.tags.lower_tag.Given as goal

-- what is written so far is the front in lower case
abbrev pub invariant-loop-byte : goal.invariant-loop-byte
invariant-loop-byte l = string_bytes l.inner ≡ str_to_ascii_lowercase (take l.byte-index l.byte-items)
