use Rattle.std.proofs.Common.{◌∙◌, List, ap, sym, subst}
use Rattle.text_rules.specs.Resolution.{folder_of}
use Rattle.std.specs.List.{AllByRecursion}
use Rattle.jsonld_context.specs.FormsFound.{AreFormsOf, IsDelimited}
use Rattle.jsonld_context.specs.declared.definitions.Definition.{Definition}
use Rattle.jsonld_context.proofs.Contexts.{no_terms}
use Rattle.jsonld_context.proofs.context.Context.of_domain.Goals as goal

pub invariant_of-result : goal.invariant_of-result
invariant_of-result c =
    let context = no_terms _ _ _ c.in_ok-base.ensures.absolute c.in_ok-vocabulary.ensures.absolute c.new-terms.ensures.items in
    let delimited = subst (λ (list : List Definition). AllByRecursion IsDelimited list) (sym c.new-terms.ensures.items) tt in
    record { context = context; folder_is = c.in_ok-folder.ensures ∙ ap folder_of c.as_str.ensures; delimited = delimited; found = subst (λ (list : List Definition). AreFormsOf list c.in_ok-forms.forms) c.deref.ensures.value c.in_ok-forms.ensures }
