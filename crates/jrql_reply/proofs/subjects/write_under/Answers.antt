use Rattle.std.proofs.Common.{◌≡◌, List, [], subst, arith, rules}
use Rattle.std.proofs.lemmas.List.{take_all}
use Rattle.std.proofs.lemmas.Result.{on_ok_weaker}
use Rattle.jrql_ast.specs.declared.answers.Described.{Described}
use Rattle.jsonld_context.specs.Context.{ContextValue}
use Rattle.jrql_patterns.specs.jsonld_subjects.SubjectTokens.{WritesSubject}
use Rattle.jrql_patterns.proofs.of_jsonld_values.WrittenItems.{begun, ended}
use Rattle.jrql_reply.specs.AnswerText.{SaysEach}
use Rattle.jrql_reply.proofs.AnswerTexts.{subject_more}
use Rattle.jrql_reply.proofs.subjects.write_under.Goals as goal

pub loop-subject-init : goal.loop-subject-init
loop-subject-init c = record {
  written = ([], tt, begun c.args.out.now.tokens c.begin_array.new.self.tokens (search rules));
  before = search rules;
  context = search rules;
}

pub loop-subject-preserved : goal.loop-subject-preserved
loop-subject-preserved c =
    let l = c.loop-subject in
    let subject = c.subject-item.result in
    let wrote : WritesSubject c.args.keys.now subject l.out c.write_subject.new.out =
    subst (λ (context : ContextValue). WritesSubject context subject l.out c.write_subject.new.out) l.invariant.context c.in_ok-write_subject.ensures.says in
    record {
      written =
          subject_more c.args.keys.now c.args.subjects.now l.subject-index subject c.args.out.now.tokens l.out.tokens c.write_subject.new.out.tokens wrote.0
          (omega (arith, c.loop-subject-test.true)) (search rules) l.invariant.written wrote.1 wrote.2;
      before = search rules;
      context = search rules;
    }

pub returns-clause-ok : goal.returns-clause-ok
returns-clause-ok c =
    let has = c.loop-subject.invariant.written in
    on_ok_weaker c.end_array.result
    (λ ends. (
      has.0,
      subst (λ (l : List Described). SaysEach c.args.keys.now l has.0) (take_all c.loop-subject.subject-index c.args.subjects.now (omega (arith, c.loop-subject-test.false))) has.1,
      ended c.args.out.now.tokens c.loop-subject.out.tokens c.end_array.new.self.tokens has.0 has.2 ends,
    ))
    c.end_array.ensures.ok
