use Rattle.std.proofs.Common.{◌≡◌, map, take}
use Rattle.jsonld_values.proofs.WrittenItems.{HasBegun}
use Rattle.jsonld_subjects.specs.KeyRuns.{data_of_keyed}
use Rattle.jsonld_subjects.proofs.writing.write_items.Given as goal

abbrev pub invariant-loop-value : goal.invariant-loop-value
invariant-loop-value l = record {
  written : HasBegun l.fn.out.tokens l.out.tokens (map (data_of_keyed l.fn.keys) (take l.value-index l.run));
  before : l.out.before ≡ l.fn.out.before;
  context : l.keys ≡ l.fn.keys;
}
