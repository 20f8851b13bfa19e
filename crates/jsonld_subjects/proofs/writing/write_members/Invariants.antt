use Rattle.std.proofs.Common.{◌≡◌, ◌++◌, false, length}
use Rattle.std.specs.List.Sorted.{IsSorted}
use Rattle.jsonld_values.specs.WrittenTokens.{tokens_of_members}
use Rattle.jsonld_subjects.specs.SubjectTokens.{with_id}
use Rattle.jsonld_subjects.specs.SubjectWriting.{keyed_cmp, members_of_keyed}
use Rattle.jsonld_subjects.proofs.writing.write_members.Given as goal

abbrev pub invariant-loop-first : goal.invariant-loop-first
invariant-loop-first l = record {
  written : l.out.tokens ++ tokens_of_members (with_id l.fn.keys l.id l.named (members_of_keyed l.fn.keys l.rest))
      ≡ l.fn.out.tokens ++ tokens_of_members (with_id l.fn.keys l.id false (members_of_keyed l.fn.keys l.values));
  sorted : IsSorted keyed_cmp l.rest;
  before : l.out.before ≡ l.fn.out.before;
  context : l.keys ≡ l.fn.keys;
}

abbrev pub decreases-loop-first : goal.decreases-loop-first
decreases-loop-first l = length l.rest
