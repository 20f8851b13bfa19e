-- What is promised of the world that the lines of a schedule lead to.
-- The law of `promises_kept` is made of it, and what the runs of a schedule promise.
use Rattle.std.specs.Prelude.{◌≡◌, ◌≢◌, ℕ, List}
use Rattle.tree_clock.specs.declared.dots.Dot.{Dot}
use Rattle.tree_clock.specs.declared.dots.Range.{Range}
use Rattle.mld_ops.specs.declared.tagged.Tagged.{Tagged}
use Rattle.mld_ops.specs.Meaning.{IsMeaning}
use Rattle.jrql_update.specs.jrql_patterns.declared.queries.ReadQuery.{ReadQuery}
use Rattle.schedule_model.specs.declared.Command.TheVariants.{Query}
use Rattle.schedule_model.specs.Answers.{IsAnswered, Survives}
use Rattle.schedule_model.specs.Step.{Step}
use Rattle.mld_model.specs.Clone.{Stored, Live, AreKnownTo, known_of}
use Rattle.mld_model.specs.Reply.{Reply}
use Rattle.mld_model.specs.Sound.{Keeps, IsSound}
use Rattle.mld_model.specs.World.{World, clone_at}

-- clones that know the same dots have the same pairs, so they show the same
abbrev pub ClonesAgree : World → Type 0
ClonesAgree world = (number other : ℕ) (stored kept : Stored) (held waiting : List Range) → clone_at world number ≡ Live stored held → clone_at world other ≡ Live kept waiting
    → AreKnownTo (known_of stored) (known_of kept) → AreKnownTo (known_of kept) (known_of stored)
    → (pairs others : List Tagged) → IsMeaning world.history (known_of stored) pairs → IsMeaning world.history (known_of kept) others → pairs ≡ others

-- clones that know the same dots answer each query alike
abbrev pub ClonesAnswerAlike : World → Type 0
ClonesAnswerAlike world = (number other : ℕ) (stored kept : Stored) (held waiting : List Range) → clone_at world number ≡ Live stored held → clone_at world other ≡ Live kept waiting
    → AreKnownTo (known_of stored) (known_of kept) → AreKnownTo (known_of kept) (known_of stored)
    → (read : ReadQuery) (reply second : Reply) (next after : World)
    → Step world (Query number read) reply next → Step world (Query other read) second after → reply ≡ second

-- the operation of each of the lines that was answered with a dot, on the way to this world, stands unchanged, and its clone
-- knows it
abbrev pub AnswersHold : List (List ℕ) → World → Type 0
AnswersHold lines world = (number : ℕ) (dot : Dot) (answered : IsAnswered lines number dot world) → Survives answered.before answered.after dot world number

-- no two clones hold one leaf
abbrev pub LeavesDiffer : World → Type 0
LeavesDiffer world = (number other : ℕ) (stored kept : Stored) → number ≢ other → Keeps (clone_at world number) stored → Keeps (clone_at world other) kept → stored.path ≢ kept.path

-- the world that the lines lead to is sound, its clones agree and answer alike, what was answered holds, and each leaf has one clone
pub record KeepsPromises (lines : List (List ℕ)) (world : World) : Type 0 where
  pub sound : IsSound world
  pub agree : ClonesAgree world
  pub alike : ClonesAnswerAlike world
  pub answers : AnswersHold lines world
  pub leaves : LeavesDiffer world
