use Rattle.std.proofs.Common.{◌≡◌, ◌∙◌, ◌<◌, ℕ, List, length, get_or, subst, sym, rules}
use Rattle.std.specs.List.Sorted.{IsSorted}
use Rattle.jsonld_context.specs.Context.{ContextValue}
use Rattle.jsonld_subjects.specs.KeyRuns.{EndsFirstRun}
use Rattle.jsonld_subjects.specs.SubjectWriting.{KeyedTerm, keyed_cmp}
use Rattle.jsonld_subjects.proofs.Runs.{rest_sorted}
use Rattle.jsonld_subjects.proofs.WrittenRuns.{next_run, end_written}
use Rattle.jsonld_subjects.proofs.writing.write_members.Goals as goal

pub loop-first-preserved : goal.loop-first-preserved
loop-first-preserved c =
    let l = c.loop-first in
    let rest = l.rest.now in
    let first = c.in-Some.first.now in
    let ends = subst (λ (key : List ℕ). EndsFirstRun rest key c.run_end.result) c.key.ensures c.run_end.ensures in
    record {
      written =
          next_run c.args.keys.now l.keys c.args.id.now l.named c.in_ok-named.named rest c.split_at.result.0.now c.split_at.result.1.now first c.key-in-Some.result.now c.run_end.result
          l.out.tokens c.write_next.new.out.tokens _ l.invariant.context (search rules) (search rules) l.invariant.sorted ends c.key-in-Some.ensures c.split_at.ensures.front c.split_at.ensures.back
          c.in_ok-named.ensures.ok l.invariant.written;
      sorted = subst (IsSorted keyed_cmp) (sym c.split_at.ensures.back) (rest_sorted rest c.run_end.result l.invariant.sorted);
      before = search rules;
      context = search rules;
    }
