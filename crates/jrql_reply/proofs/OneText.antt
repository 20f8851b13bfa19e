-- An answer has one text, since a subject is said by one object.
use Rattle.std.proofs.Common.{◌≡◌, ◌∙◌, ℕ, List, [], ◌∷◌, Option, refl, sym, ap}
use Rattle.serde_json.specs.Data.{Data, array}
use Rattle.serde_json.specs.View.{items_of}
use Rattle.serde_json.specs.Written.{compact_text}
use Rattle.jrql_ast.specs.declared.answers.Answer.{Answer}
use Rattle.jrql_ast.specs.declared.answers.Answer.TheVariants.{Rows, Subjects}
use Rattle.jrql_ast.specs.declared.answers.Described.{Described}
use Rattle.jrql_ast.specs.declared.queries.Query.{Query}
use Rattle.jrql_ast.specs.declared.queries.What.{What}
use Rattle.jrql_ast.specs.declared.queries.What.TheVariants.{Select, Describe}
use Rattle.rdf_terms.specs.declared.terms.Term.{Term}
use Rattle.jsonld_context.specs.Context.{ContextValue}
use Rattle.jrql_patterns.proofs.of_jsonld_subjects.OneObject.{one_object}
use Rattle.jrql_reply.specs.AnswerText.{SaysEach, SaysRows, SaysAnswer, HasOneText}

one_list : (context : ContextValue) (subjects : List Described) (objects others : List Data) → SaysEach context subjects objects → SaysEach context subjects others → objects ≡ others
one_list context [] [] [] each other = refl
one_list context [] [] (also ∷ others) each other = absurd other
one_list context [] (said ∷ objects) others each other = absurd each
one_list context (subject ∷ subjects) [] others each other = absurd each
one_list context (subject ∷ subjects) (said ∷ objects) [] each other = absurd other
one_list context (subject ∷ subjects) (said ∷ objects) (also ∷ others) each other =
    ap (λ (d : Data). d ∷ objects) (one_object context subject said also each.0 other.0) ∙ ap (λ (l : List Data). also ∷ l) (one_list context subjects objects others each.1 other.1)

one_rows : (context : ContextValue) (names : List (List ℕ)) (what : What) (rows : List (List (Option Term))) (said other : Data)
    → SaysRows context names what rows said → SaysRows context names what rows other → said ≡ other
one_rows context names (Select select) rows said other p q = p ∙ sym q
one_rows context names (Describe targets) rows said other p q = absurd p

one_said : (context : ContextValue) (query : Query) (answer : Answer) (said other : Data) → SaysAnswer context query answer said → SaysAnswer context query answer other → said ≡ other
one_said context query (Rows rows) said other p q = one_rows context query.group.names query.what rows said other p q
one_said context query (Subjects subjects) said other p q =
    p.2 ∙ ap (λ (l : List Data). array (items_of l)) (one_list context subjects p.0 q.0 p.1 q.1) ∙ sym q.2

pub one_text : HasOneText
one_text context query answer text other p q = p.2 ∙ ap compact_text (one_said context query answer p.0 q.0 p.1 q.1) ∙ sym q.2
