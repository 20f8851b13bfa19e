use Rattle.std.proofs.Common.{◌≡◌, ◌++◌, Some}
use Rattle.jsonld_subjects.specs.SubjectReading.{triples_about}
use Rattle.jsonld_subjects.proofs.open_subjects.put_triples.Given as goal

abbrev pub invariant-loop-property : goal.invariant-loop-property
invariant-loop-property l =
    l.triples.items ++ triples_about (Some l.subject) l.property-iterator.rest.items
    ≡ l.fn.triples.items ++ triples_about (Some l.subject) l.fn.properties.items
