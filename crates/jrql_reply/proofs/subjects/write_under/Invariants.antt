use Rattle.std.proofs.Common.{◌≡◌, List, take}
use Rattle.serde_json.specs.Data.{Data}
use Rattle.jrql_patterns.proofs.of_jsonld_values.WrittenItems.{HasBegun}
use Rattle.jrql_reply.specs.AnswerText.{SaysEach}
use Rattle.jrql_reply.proofs.subjects.write_under.Given as goal

abbrev pub invariant-loop-subject : goal.invariant-loop-subject
invariant-loop-subject l = record {
  written : (objects : List Data) × SaysEach l.fn.keys (take l.subject-index l.subjects) objects × HasBegun l.fn.out.tokens l.out.tokens objects;
  before : l.out.before ≡ l.fn.out.before;
  context : l.keys ≡ l.fn.keys;
}
