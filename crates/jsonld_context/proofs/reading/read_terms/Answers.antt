use Rattle.std.proofs.Common.{List, nat_cmp, subst}
use Rattle.std.specs.Cmp.Lexicographic.{slice_cmp}
use Rattle.std.specs.List.{AllByRecursion}
use Rattle.std.specs.List.Sorted.{IsStrictlySortedBy}
use Rattle.serde_json.specs.View.{members_view}
use Rattle.jsonld_context.specs.FormsFound.{IsDelimited}
use Rattle.jsonld_context.specs.declared.definitions.Definition.{Definition}
use Rattle.jsonld_context.proofs.TermNames.{AreTerms, names, are_terms, are_delimited, are_ascending, ended}
use Rattle.jsonld_context.proofs.reading.read_terms.Goals as goal

pub returns-clause-names : goal.returns-clause-names
returns-clause-names c =
    let v = c.args.vocabulary.now in
    let all = members_view c.args.all.now.entries in
    let end = ended v all c.loop-key.terms.items c.loop-key.key-iterator c.in-None.ensures.steps.0 c.loop-key.invariant.faults c.loop-key.invariant.terms in
    subst (λ (terms : List Definition). AreTerms terms) end.1 (are_terms v all all end.0)

pub returns-clause-delimited : goal.returns-clause-delimited
returns-clause-delimited c =
    let v = c.args.vocabulary.now in
    let all = members_view c.args.all.now.entries in
    let end = ended v all c.loop-key.terms.items c.loop-key.key-iterator c.in-None.ensures.steps.0 c.loop-key.invariant.faults c.loop-key.invariant.terms in
    subst (λ (terms : List Definition). AllByRecursion IsDelimited terms) end.1 (are_delimited v all all end.0)

pub returns-clause-ascending : goal.returns-clause-ascending
returns-clause-ascending c =
    let v = c.args.vocabulary.now in
    let all = members_view c.args.all.now.entries in
    let end = ended v all c.loop-key.terms.items c.loop-key.key-iterator c.in-None.ensures.steps.0 c.loop-key.invariant.faults c.loop-key.invariant.terms in
    subst (λ (terms : List Definition). IsStrictlySortedBy (slice_cmp nat_cmp) (names terms)) end.1 (are_ascending v all c.args.all.now.entries c.iter-key-items.ensures.ordered)
