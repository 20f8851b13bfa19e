use Rattle.std.proofs.Common.{◌≡◌, ◌∙◌, ◌++◌, ◌∷◌, [], subst, arith, rules}
use Rattle.std.proofs.lemmas.Result.{on_ok_weaker}
use Rattle.json.specs.Token.{Token}
use Rattle.jsonld_context.specs.Context.{ContextValue}
use Rattle.jsonld_values.specs.WrittenTokens.{tokens_of_data}
use Rattle.jsonld_values.proofs.WrittenItems.{begun, next_of, all_of}
use Rattle.jsonld_subjects.specs.KeyRuns.{data_of_keyed}
use Rattle.jsonld_subjects.proofs.writing.write_items.Goals as goal

pub loop-value-init : goal.loop-value-init
loop-value-init c = record {
  written = begun c.args.out.now.tokens c.begin_array.new.self.tokens (search rules);
  before = search rules;
  context = search rules;
}

pub loop-value-preserved : goal.loop-value-preserved
loop-value-preserved c =
    let l = c.loop-value in
    let value = c.value-item.result in
    let wrote = subst (λ (context : ContextValue). c.write.new.out.tokens ≡ l.out.tokens ++ tokens_of_data (data_of_keyed context value)) l.invariant.context c.in_ok-write.ensures.ok in
    record {
      written =
          next_of (data_of_keyed c.args.keys.now) c.args.run.now l.value-index value c.args.out.now.tokens l.out.tokens c.write.new.out.tokens
          (omega (arith, c.loop-value-test.true)) (search rules) l.invariant.written wrote;
      before = search rules;
      context = search rules;
    }

pub returns-clause-ok : goal.returns-clause-ok
returns-clause-ok c =
    on_ok_weaker c.end_array.result
    (all_of (data_of_keyed c.args.keys.now) c.args.run.now c.loop-value.value-index c.args.out.now.tokens c.loop-value.out.tokens c.end_array.new.self.tokens
    (omega (arith, c.loop-value-test.false)) c.loop-value.invariant.written)
    c.end_array.ensures.ok
