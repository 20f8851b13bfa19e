use Rattle.std.proofs.Common.{◌∙◌, sym}
use Rattle.serde_json.specs.View.{members_view}
use Rattle.jsonld_context.proofs.Contexts.{no_string, own_context, unknown_read}
use Rattle.jsonld_context.proofs.context.Context.of_members.Goals as goal

pub returns-then-has_context-clause-err : goal.returns-then-has_context-clause-err
returns-then-has_context-clause-err c =
    own_context c.args.domain.now (members_view c.args.all.now.entries) c.bad_context.result (sym c.has_context.ensures ∙ c.if-has_context.true) c.bad_context.ensures

pub returns-in-None-clause-err : goal.returns-in-None-clause-err
returns-in-None-clause-err c =
    unknown_read c.args.domain.now (members_view c.args.all.now.entries) c.fault_without_vocabulary.result (sym c.has_context.ensures ∙ c.if-has_context.false)
    (sym c.in_ok-vocabulary.ensures ∙ c.in-None.is) c.fault_without_vocabulary.ensures

pub fault_without_vocabulary-requires : goal.fault_without_vocabulary-requires
fault_without_vocabulary-requires c =
    no_string c.args.domain.now (members_view c.args.all.now.entries) (sym c.in_ok-vocabulary.ensures ∙ c.in-None.is)
