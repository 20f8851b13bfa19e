-- What a clone answers to a query: rows or subjects as JSON, over the triples that are present for it.
-- `PlainStep` is made of it, and the step of a shell.
use Rattle.std.specs.Prelude.{◌≡◌, ℕ, ◌<◌, ◌≤◌, List, length}
use Rattle.rdf_terms.specs.declared.terms.Triple.{Triple}
use Rattle.mld_ops.specs.declared.tagged.Tagged.{Tagged}
use Rattle.mld_ops.specs.Meaning.{IsMeaning}
use Rattle.mld_ops.specs.Present.{present}
use Rattle.jrql_ast.specs.declared.answers.Answer.{Answer}
use Rattle.jrql_ast.specs.QueryAnswers.{solution_limit, found, IsAnswer}
use Rattle.jrql_update.specs.jrql_patterns.declared.queries.ReadQuery.{ReadQuery}
use Rattle.jrql_reply.specs.AnswerText.{SpellsAnswer}
use Rattle.mld_model.specs.Clone.{Clone, known_of}
use Rattle.mld_model.specs.CloneStep.{IfLive}
use Rattle.mld_model.specs.Reply.{Reply, Tells, TooMany}
use Rattle.mld_model.specs.World.{World}

-- a query has no more solutions over the triples than it may have, and the text is that of its answer
pub record AnswersByText (graph : List Triple) (read : ReadQuery) (text : List ℕ) : Type 0 where
  pub few : length (found graph read.query.group) ≤ solution_limit
  pub answer : Answer
  pub answers : IsAnswer graph read.query answer
  pub spells : SpellsAnswer read.context read.query answer text

-- the reply to a query over triples: the text of its answer, or that it has more solutions than it may have
abbrev pub AnswersQuery : List Triple → ReadQuery → Reply → Type 0
AnswersQuery graph read (Tells text) = AnswersByText graph read text
AnswersQuery graph read TooMany = solution_limit < length (found graph read.query.group)
AnswersQuery graph read reply = ⊥

-- a live clone answers a query over the triples that are present by the dots that it knows
abbrev pub Queries : World → ReadQuery → Clone → Reply → World → Type 0
Queries world read clone reply next = IfLive world clone reply next (λ stored held.
    (pairs : List Tagged) × IsMeaning world.history (known_of stored) pairs × AnswersQuery (present pairs) read reply × (next ≡ world))
