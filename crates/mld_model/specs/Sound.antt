-- What every world that a schedule reaches keeps. The laws of `sound_worlds` are made of it.
use Rattle.std.specs.Prelude.{◌≡◌, ◌≢◌, ℕ, ◌<◌, ◌≤◌, List, [], ◌∷◌, ◌++◌, length, slice_get, Some, MatchOption}
use Rattle.tree_clock.specs.declared.dots.Dot.{Dot}
use Rattle.tree_clock.specs.declared.dots.Range.{Range}
use Rattle.tree_clock.specs.Lists.{Has}
use Rattle.tree_clock.specs.Path.{IsPrefix, IsProperPrefix, AreApart}
use Rattle.tree_clock.specs.Dot.{IsIn, Knows}
use Rattle.mld_ops.specs.History.{Operation, IsDone, IsClosed, IsLawful}
use Rattle.mld_model.specs.Clone.{Clone, Live, Stored, kept_of, known_of, IsReady}
use Rattle.mld_model.specs.World.{World, Message, RangeOf, Want, SnapshotOf, JoinAsk, JoinGive, clone_at, clone_count}

-- the clone keeps this: it holds the path as its leaf
abbrev pub Keeps : Clone → Stored → Type 0
Keeps clone stored = MatchOption (kept_of clone) ⊥ (λ kept. kept ≡ stored)

-- the range may follow in a journal where these dots are known: it has dots, with ticks of 1 or more, and it is ready
pub record MayFollow (history : List Operation) (known : List Range) (range : Range) : Type 0 where
  pub positive : 1 ≤ range.first
  pub some : range.first ≤ range.last
  pub ready : IsReady history known range

-- a journal over these known dots: they are closed, and each of its ranges is ready (so not known) once those before it are known
abbrev pub IsSoundJournal : List Operation → List Range → List Range → Type 0
IsSoundJournal history known [] = IsClosed history known
IsSoundJournal history known (range ∷ ranges) =
    IsClosed history known × MayFollow history known range × IsSoundJournal history (known ++ range ∷ []) ranges

-- of a clone that holds a path: what it knows is closed, and so is its base with each front of its journal; each dot at
-- its path or at a proper prefix is known to it, and none goes on from its path
pub record IsSoundClone (history : List Operation) (stored : Stored) : Type 0 where
  pub closed : IsClosed history (known_of stored)
  pub journal : IsSoundJournal history stored.base stored.journal
  pub own : (operation : Operation) → Has history operation → operation.dot.path ≡ stored.path → Knows (known_of stored) operation.dot
  pub above : (operation : Operation) → Has history operation → IsProperPrefix operation.dot.path stored.path
      → Knows (known_of stored) operation.dot
  pub below : (operation : Operation) → Has history operation → ¬ IsProperPrefix stored.path operation.dot.path

-- the range has dots, with ticks of 1 or more, and each of them stands in the history
pub record IsDoneRange (history : List Operation) (range : Range) : Type 0 where
  pub positive : 1 ≤ range.first
  pub some : range.first ≤ range.last
  pub done : (dot : Dot) → IsIn range dot → IsDone history dot

-- a range was sent only once all of its dots stand in the history
abbrev pub IsSoundMessage : List Operation → Message → Type 0
IsSoundMessage history (RangeOf range) = IsDoneRange history range
IsSoundMessage history (Want dots) = (dot : Dot) → Knows dots dot → IsDone history dot
IsSoundMessage history (SnapshotOf dots) = IsClosed history dots
IsSoundMessage history (JoinAsk id) = id < clone_count
IsSoundMessage history (JoinGive id path dots) = (id < clone_count) × IsClosed history dots

-- the message of the place gives a leaf, and it is open: the clone that asked for it holds none
pub record IsOpenGive (world : World) (place id : ℕ) (path : List ℕ) (dots : List Range) : Type 0 where
  pub sent : slice_get world.messages place ≡ Some (JoinGive id path dots)
  pub waits : (stored : Stored) → ¬ Keeps (clone_at world id) stored

-- of a leaf that is given and open: no dot of the history is at its path or below it, and each at a proper prefix is one of its dots
pub record IsSoundGive (history : List Operation) (path : List ℕ) (dots : List Range) : Type 0 where
  pub above : (operation : Operation) → Has history operation → IsProperPrefix operation.dot.path path → Knows dots operation.dot
  pub below : (operation : Operation) → Has history operation → ¬ IsPrefix path operation.dot.path

-- a world is sound: its history is lawful, and its clones and messages fit that history
pub record IsSound (world : World) : Type 0 where
  -- the history is lawful
  pub lawful : IsLawful world.history
  -- there are as many clones as there may be
  pub count : length world.clones ≡ clone_count
  -- no two clones hold one leaf, nor one below another's
  pub apart : (number other : ℕ) (stored kept : Stored) → number ≢ other
      → Keeps (clone_at world number) stored → Keeps (clone_at world other) kept → AreApart stored.path kept.path
  -- what each clone that holds a leaf knows
  pub clones : (number : ℕ) (stored : Stored) → Keeps (clone_at world number) stored → IsSoundClone world.history stored
  -- what each live clone holds back
  pub held : (number : ℕ) (stored : Stored) (held : List Range) → clone_at world number ≡ Live stored held
      → (range : Range) → Has held range → IsDoneRange world.history range
  -- a leaf that is given and open is apart from each that is held, and from each other one that is given and open
  pub gives_held : (place id : ℕ) (path : List ℕ) (dots : List Range) (number : ℕ) (stored : Stored) → IsOpenGive world place id path dots
      → Keeps (clone_at world number) stored → AreApart path stored.path
  pub gives_apart : (place id : ℕ) (path : List ℕ) (dots : List Range) (second other : ℕ) (leaf : List ℕ) (known : List Range) → place ≢ second
      → IsOpenGive world place id path dots → IsOpenGive world second other leaf known → AreApart path leaf
  pub gives : (place id : ℕ) (path : List ℕ) (dots : List Range) → IsOpenGive world place id path dots → IsSoundGive world.history path dots
  -- what was sent
  pub messages : (message : Message) → Has world.messages message → IsSoundMessage world.history message
