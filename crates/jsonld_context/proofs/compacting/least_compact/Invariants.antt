use Rattle.std.proofs.Common.{◌≡◌, string_bytes}
use Rattle.std.specs.BTreeMap.{get_by_text}
use Rattle.std.specs.Option.{option_map}
use Rattle.jsonld_context.specs.FormsFound.{least_behind}
use Rattle.jsonld_context.proofs.compacting.least_compact.Given as goal

abbrev pub invariant-loop-place : goal.invariant-loop-place
invariant-loop-place l = option_map string_bytes l.least ≡ least_behind (get_by_text l.prefixes) l.iri l.place
