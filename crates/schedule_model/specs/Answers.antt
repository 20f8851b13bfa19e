-- What an answer that tells of a dot promises: the operation of that dot is remembered by its clone.
-- The laws of `answers_survive` and `Promises` are made of it.
use Rattle.std.specs.Prelude.{◌≡◌, ℕ, List, ◌∷◌, ◌++◌}
use Rattle.tree_clock.specs.declared.dots.Dot.{Dot}
use Rattle.tree_clock.specs.declared.dots.Range.{Range}
use Rattle.tree_clock.specs.Lists.{Has}
use Rattle.tree_clock.specs.Dot.{Knows}
use Rattle.mld_ops.specs.declared.tagged.Tagged.{Tagged}
use Rattle.mld_ops.specs.Effects.{EffectValue, ChangesNothing, operation_of}
use Rattle.mld_ops.specs.History.{Operation}
use Rattle.mld_ops.specs.Meaning.{IsMeaning}
use Rattle.schedule_model.specs.declared.Command.{Command}
use Rattle.mld_model.specs.Clone.{Stored, Live, known_of}
use Rattle.mld_model.specs.World.{World, clone_at}
use Rattle.mld_model.specs.Sound.{Keeps}
use Rattle.mld_model.specs.Reply.{Reply, Did, ThenCrashed}
use Rattle.schedule_model.specs.Step.{Step, number_of_clone}
use Rattle.schedule_model.specs.Schedule.{SpellsCommand}
use Rattle.schedule_model.specs.Runs.{Stage, Waiting, Running, IsWorldOf, Runs}

-- the clone of the number is live or down and knows the operation's dot, and the operation stands in the world's history
pub record Remembers (world : World) (number : ℕ) (operation : Operation) : Type 0 where
  pub stored : Stored
  pub keeps : Keeps (clone_at world number) stored
  pub known : Knows (known_of stored) operation.dot
  pub stands : Has world.history operation

-- the operation is of the dot, and a live clone made it by an update: its effect, which changes something, is that which the update's rule
-- has on the pairs that were present for the clone, and its causes are all that the clone knew
pub record IsMadeBy (before : World) (number : ℕ) (rule : List Tagged → EffectValue → Type 0) (dot : Dot) (operation : Operation) : Type 0 where
  pub effect : EffectValue
  pub some : ¬ ChangesNothing effect
  pub stored : Stored
  pub held : List Range
  pub live : clone_at before number ≡ Live stored held
  pub pairs : List Tagged
  pub meant : IsMeaning before.history (known_of stored) pairs
  pub does : rule pairs effect
  pub is : operation ≡ operation_of dot (known_of stored) effect

-- it was put at the head of the history, and the clone of the number remembers it
abbrev pub RemembersUpdate : World → ℕ → (List Tagged → EffectValue → Type 0) → Dot → World → Type 0
RemembersUpdate before number rule dot next =
    (operation : Operation) × IsMadeBy before number rule dot operation × (next.history ≡ operation ∷ before.history) × Remembers next number operation

-- the reply tells of the dot: `did DOT` stands alone or before `crashed`
abbrev pub TellsOfDot : Reply → Dot → Type 0
TellsOfDot (Did own message) dot = own ≡ dot
TellsOfDot (ThenCrashed reply) dot = TellsOfDot reply dot
TellsOfDot reply dot = ⊥

-- one of the lines is a command at the clone of the number, its answer tells of the dot, and the run that it stands in leads to
-- the world
pub record IsAnswered (lines : List (List ℕ)) (number : ℕ) (dot : Dot) (world : World) : Type 0 where
  -- the line stands behind a front that leads to the world before it
  pub front : List (List ℕ)
  pub line : List ℕ
  pub rest : List (List ℕ)
  pub whole : lines ≡ front ++ line ∷ rest
  pub text : List ℕ
  pub stage : Stage
  pub runs : Runs Waiting front text stage
  pub before : World
  pub founds : IsWorldOf stage before
  -- it spells a command at the clone
  pub command : Command
  pub at : number ≡ number_of_clone command
  pub spells : SpellsCommand before.domain line command
  -- whose step has this answer
  pub reply : Reply
  pub tells : TellsOfDot reply dot
  pub after : World
  pub steps : Step before command reply after
  -- and the lines behind it lead from the world after it to this one
  pub more : List ℕ
  pub goes_on : Runs (Running after) rest more (Running world)

-- the operation of the dot, which a step from the world before to the one after put at the head of the history, is remembered
-- in this world by the clone of the number
pub record Survives (before after : World) (dot : Dot) (world : World) (number : ℕ) : Type 0 where
  pub operation : Operation
  pub is : operation.dot ≡ dot
  pub made : after.history ≡ operation ∷ before.history
  pub remembers : Remembers world number operation
