-- What is written for an answer, as the tokens of what says it. Words of private contracts.
use Rattle.std.specs.Prelude.{◌≡◌, List}
use Rattle.json.specs.Written.{Written}
use Rattle.serde_json.specs.Data.{Data, array}
use Rattle.serde_json.specs.View.{items_of}
use Rattle.jrql_ast.specs.declared.answers.Answer.{Answer}
use Rattle.jrql_ast.specs.declared.answers.Described.{Described}
use Rattle.jrql_ast.specs.declared.queries.Query.{Query}
use Rattle.jsonld_context.specs.Context.{ContextValue}
use Rattle.jrql_patterns.specs.jsonld_values.WrittenTokens.{WritesData}
use Rattle.jrql_reply.specs.AnswerText.{SaysEach, SaysAnswer}

-- subjects are written as an array of objects that say them
abbrev pub WritesSubjects : ContextValue → List Described → Written → Written → Type 0
WritesSubjects context subjects old new = (objects : List Data) × SaysEach context subjects objects × WritesData old new (array (items_of objects))

-- an answer is written as what says it
abbrev pub WritesAnswer : ContextValue → Query → Answer → Written → Written → Type 0
WritesAnswer context query answer old new = (said : Data) × SaysAnswer context query answer said × WritesData old new said
