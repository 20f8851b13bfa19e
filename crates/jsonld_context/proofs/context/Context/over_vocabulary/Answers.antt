use Rattle.std.proofs.Common.{◌∙◌, List, ap, subst}
use Rattle.text_rules.specs.Resolution.{folder_of}
use Rattle.std.proofs.lemmas.Result.{err_from_is_err_and}
use Rattle.serde_json.specs.View.{members_view}
use Rattle.jsonld_context.specs.FormsFound.{AreFormsOf}
use Rattle.jsonld_context.specs.declared.definitions.Definition.{Definition}
use Rattle.jsonld_context.proofs.Contexts.{context_read, fault_read, is_context}
use Rattle.jsonld_context.proofs.context.Context.over_vocabulary.Goals as goal

pub invariant_of-result : goal.invariant_of-result
invariant_of-result c =
    let context = is_context c.args.domain.now (members_view c.args.all.now.entries) c.in_ok-base.base c.args.vocabulary c.as_str-2.result.now
    c.in_ok-base.ensures c.requires.vocabulary c.as_str-2.ensures
    c.requires.domain c.in_ok-terms.terms.items c.in_ok-terms.ensures.ok.0 c.in_ok-terms.ensures.names c.in_ok-terms.ensures.ascending in
    record { context = context; folder_is = c.in_ok-folder.ensures ∙ ap folder_of c.as_str.ensures; delimited = c.in_ok-terms.ensures.delimited; found = subst (λ (list : List Definition). AreFormsOf list c.in_ok-forms.forms) c.deref.ensures.value c.in_ok-forms.ensures }

pub returns-in_err-terms-clause-err : goal.returns-in_err-terms-clause-err
returns-in_err-terms-clause-err c =
    let p = err_from_is_err_and c.from_residual-in_err-terms.result c.from_residual-in_err-terms.ensures.1 in
    rw (p.1, p.2)
    (fault_read c.args.domain.now (members_view c.args.all.now.entries) c.in_ok-base.base c.args.vocabulary c.as_str-2.result.now
    c.in_ok-base.ensures c.requires.vocabulary c.as_str-2.ensures c.requires.context c.in_err-terms.field-0.0 c.in_err-terms.ensures.err)

pub returns-clause-ok : goal.returns-clause-ok
returns-clause-ok c =
    context_read c.args.domain.now (members_view c.args.all.now.entries) c.in_ok-base.base c.args.vocabulary c.as_str-2.result.now
    c.in_ok-base.ensures c.requires.vocabulary c.as_str-2.ensures c.requires.context
    c.in_ok-terms.terms.items c.in_ok-terms.ensures.ok
