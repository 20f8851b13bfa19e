-- The name of a domain is short, and is UTF-8.
use Rattle.std.proofs.Common.{◌<◌, ◌^◌, ◌∙◌, sym, subst, length, List, ℕ}
use Rattle.std.specs.Str.{IsUtf8}
use Rattle.journal_sides.proofs.WrittenLaws.{domain_short}
use Rattle.journal_sides.proofs.head_writing.append_domain.Goals as goal

pub put_bytes-requires : goal.put_bytes-requires
put_bytes-requires c = subst (λ (l : List ℕ). length l < 2 ^ 32) (sym (c.as_bytes.ensures.value ∙ c.as_str.ensures)) (domain_short c.args.domain.now c.requires)

pub returns-clause-stored : goal.returns-clause-stored
returns-clause-stored c = record { utf8 = subst IsUtf8 c.as_str.ensures c.as_str.utf8; fit = c.requires; short = domain_short c.args.domain.now c.requires }
