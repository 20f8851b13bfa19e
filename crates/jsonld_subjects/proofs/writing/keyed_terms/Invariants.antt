use Rattle.std.proofs.Common.{◌≡◌, map, take}
use Rattle.jsonld_subjects.specs.SubjectWriting.{keyed_of}
use Rattle.jsonld_subjects.proofs.writing.keyed_terms.Given as goal

abbrev pub invariant-loop-triple : goal.invariant-loop-triple
invariant-loop-triple l = record {
  values : l.values.items ≡ map (keyed_of l.fn.keys) (take l.triple-index l.triples);
  context : l.keys ≡ l.fn.keys;
}
