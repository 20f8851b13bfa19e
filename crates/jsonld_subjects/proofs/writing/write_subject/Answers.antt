use Rattle.std.proofs.Common.{rules}
use Rattle.std.proofs.lemmas.Result.{on_ok_weaker}
use Rattle.jsonld_subjects.proofs.WrittenRuns.{subject_written}
use Rattle.jsonld_subjects.proofs.writing.write_subject.Goals as goal

pub returns-clause-says : goal.returns-clause-says
returns-clause-says c =
    on_ok_weaker c.write_members.result
    (subject_written c.args.keys.now c.keyed_in_order.new.keys c.args.subject.now c.as_slice.result.now c.in_ok-values.values.items c.as_slice-2.result.now c.args.out.now.tokens
    c.begin_object.new.self.tokens c.write_members.new.out.tokens c.keyed_in_order.ensures.context c.as_slice.ensures c.as_slice-2.ensures.value c.in_ok-values.ensures.permutation
    c.in_ok-values.ensures.sorted (search rules))
    c.write_members.ensures.members
