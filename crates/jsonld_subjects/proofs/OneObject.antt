-- A subject is said by one object.
use Rattle.std.proofs.Common.{◌≡◌, ◌∙◌, List, map, refl, sym, ap}
use Rattle.std.specs.Prelude.{codes}
use Rattle.std.specs.Cmp.Lexicographic.{slice_cmp}
use Rattle.std.specs.Ordering.{nat_cmp, ordering_then}
use Rattle.std.specs.declared.cmp.Ordering.{Ordering}
use Rattle.std.specs.declared.cmp.Ordering.TheVariants.{Less, Equal, Greater}
use Rattle.std.proofs.lemmas.Map.Lookups.{CmpEqualImpliesEq, exact_bytes}
use Rattle.jrql_ast.specs.declared.answers.Described.{Described}
use Rattle.jrql_ast.specs.QueryAnswers.{IsSortingOf}
use Rattle.jrql_ast.proofs.Sortings.{one_sorting}
use Rattle.rdf_terms.specs.ReplyLaws.{reply_exact}
use Rattle.serde_json.specs.Data.{Data, string, object, put}
use Rattle.jsonld_context.specs.Context.{ContextValue}
use Rattle.jsonld_context.specs.ShortForms.{compact_id}
use Rattle.jsonld_subjects.specs.SubjectWriting.{KeyedTerm, keyed_of, within_key_cmp, keyed_cmp, members_of_keyed, SaysSubject}
use Rattle.jsonld_subjects.proofs.Runs.{keyed_total}

both_alike : (first second : Ordering) → ordering_then first second ≡ Equal → (first ≡ Equal) × (second ≡ Equal)
both_alike Less second h = cc
both_alike Equal second h = (refl, h)
both_alike Greater second h = cc

-- values that compare alike are one
keyed_exact : CmpEqualImpliesEq keyed_cmp
keyed_exact keyed other h =
    let both = both_alike (slice_cmp nat_cmp keyed.key other.key) (within_key_cmp keyed.term other.term) h in
    let key = exact_bytes keyed.key other.key both.0 in
    let term = reply_exact keyed.term other.term both.1 in
    λ i. record { key = key i; term = term i }

pub one_object : (context : ContextValue) (described : Described) (object_said other : Data)
    → SaysSubject context described object_said → SaysSubject context described other → object_said ≡ other
one_object context described object_said other says also =
    let given = map (keyed_of context) described.triples in
    let first : IsSortingOf keyed_cmp given says.values = record { same = says.all; ascending = says.ordered } in
    let second : IsSortingOf keyed_cmp given also.values = record { same = also.all; ascending = also.ordered } in
    let same : says.values ≡ also.values =
    one_sorting keyed_cmp keyed_total (λ keyed. Unit {0}) (λ keyed other _ _ h. keyed_exact keyed other h) given says.values also.values
    (λ k d h. tt) first second in
    says.says
    ∙ ap (λ (values : List KeyedTerm). object (put (codes "@id") (string (compact_id context described.id)) (members_of_keyed context values))) same
    ∙ sym also.says
