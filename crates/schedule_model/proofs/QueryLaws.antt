-- A query at a clone has one answer, and leaves the world as it was.
use Rattle.std.specs.Prelude.{◌≡◌, ℕ, List}
use Rattle.std.proofs.Common.{refl, sym, ◌∙◌, ap, arith, subst}
use Rattle.rdf_terms.specs.declared.terms.Triple.{Triple}
use Rattle.mld_ops.specs.declared.tagged.Tagged.{Tagged}
use Rattle.mld_ops.specs.Present.{present}
use Rattle.mld_ops.proofs.MeaningLaws.{one_meaning, same_known}
use Rattle.jrql_ast.specs.declared.answers.Answer.{Answer}
use Rattle.jrql_update.specs.jrql_patterns.declared.queries.ReadQuery.{ReadQuery}
use Rattle.jrql_reply.specs.AnswerText.{SpellsAnswer}
use Rattle.mld_model.specs.Clone.{Clone, known_of}
use Rattle.mld_model.specs.Reply.{Reply, Tells, TooMany}
use Rattle.mld_model.specs.World.{World}
use Rattle.mld_model.proofs.StateLaws.{AreSame, once_if_live}
use Rattle.schedule_model.specs.Laws.{SamePairs, SameAnswers}
use Rattle.schedule_model.specs.Querying.{AnswersByText, AnswersQuery, Queries}
use Rattle.schedule_model.specs.Step.{Step}
use Rattle.jrql_ast.proofs.OneAnswer.{one_answer}
use Rattle.jrql_reply.proofs.OneText.{one_text}

-- an answer has one text, and a query one answer
one_telling : (graph : List Triple) (read : ReadQuery) (text other : List ℕ) → AnswersByText graph read text → AnswersByText graph read other → text ≡ other
one_telling graph read text other p q =
    let same : p.answer ≡ q.answer = one_answer graph read.query p.answer q.answer p.answers q.answers in
    one_text read.context read.query q.answer text other (subst (λ (answer : Answer). SpellsAnswer read.context read.query answer text) same p.spells) q.spells

-- so a query has one reply over triples
one_reply : (graph : List Triple) (read : ReadQuery) (reply other : Reply) → AnswersQuery graph read reply → AnswersQuery graph read other → reply ≡ other
one_reply graph read (Tells text) (Tells other) p q = ap Tells (one_telling graph read text other p q)
one_reply graph read (Tells text) TooMany p q = absurd (omega (arith, p.few, q))
one_reply graph read TooMany (Tells other) p q = absurd (omega (arith, p, q.few))
one_reply graph read TooMany TooMany p q = refl
one_reply graph read (Tells text) other p q = absurd q
one_reply graph read TooMany other p q = absurd q
one_reply graph read reply other p q = absurd p

-- a `query` has one outcome
pub queries_once : (world : World) (read : ReadQuery) (clone : Clone) (reply other : Reply) (next after : World)
    → Queries world read clone reply next → Queries world read clone other after → AreSame reply next other after
queries_once world read clone reply other next after =
    once_if_live world clone reply other next after _ _ (λ stored held p q.
    let same : p.0 ≡ q.0 = one_meaning world.history (known_of stored) p.0 q.0 p.1 q.1 in
    (one_reply (present q.0) read reply other (subst (λ (pairs : List Tagged). AnswersQuery (present pairs) read reply) same p.2) q.2, p.3 ∙ sym q.3))

-- clones that know the same dots have the same pairs
pub same_pairs : SamePairs
same_pairs history known other pairs others here there p q =
    one_meaning history other pairs others (same_known history known other pairs here there p) q

-- and answer each query alike
pub same_answers : SameAnswers
unfolding Step
same_answers world number other stored kept held waiting one two within back read reply second next after p q =
    let here = subst (λ (clone : Clone). Queries world read clone reply next) one p in
    let there = subst (λ (clone : Clone). Queries world read clone second after) two q in
    let same : here.0 ≡ there.0 = same_pairs world.history (known_of stored) (known_of kept) here.0 there.0 within back here.1 there.1 in
    one_reply (present there.0) read reply second (subst (λ (pairs : List Tagged). AnswersQuery (present pairs) read reply) same here.2) there.2
