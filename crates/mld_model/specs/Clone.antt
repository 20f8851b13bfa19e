-- The model of a clone: its path and the dots that it knows, by its base and its journal. It has no content: the
-- history says what the dots mean. Worlds and their steps are made of it.
use Rattle.std.specs.Prelude.{◌≡◌, ℕ, ◌-◌, List, [], ◌∷◌, ◌++◌, ◌⊎◌, Option, Some, None, length, take, drop}
use Rattle.tree_clock.specs.declared.dots.Dot.{Dot}
use Rattle.tree_clock.specs.declared.dots.Range.{Range}
use Rattle.tree_clock.specs.Dot.{IsIn, Knows}
use Rattle.mld_ops.specs.History.{Operation, dot_at}
use Rattle.mld_ops.specs.Net.{IsTime}
use Rattle.mld_ops.specs.Picking.{HasNone, DropsThose, TakesFirst}
use Rattle.mld_ops.specs.Ready.{last_dot}

-- what a clone keeps when it stops: its path, the dots of its base, and the ranges of its journal
pub record Stored : Type 0 where
  pub path : List ℕ
  pub base : List Range
  pub journal : List Range

-- absent; asking to join; down with nothing stored; down; or live, with the ranges that it holds back
pub data Clone : Type 0 where
  Absent : Clone
  Asking : Clone
  Empty : Clone
  Down : Stored → Clone
  Live : Stored → List Range → Clone

-- what a clone keeps, if anything
abbrev pub kept_of : Clone → Option Stored
kept_of Absent = None
kept_of Asking = None
kept_of Empty = None
kept_of (Down stored) = Some stored
kept_of (Live stored held) = Some stored

-- the dots that a clone knows: its base and the dots of its journal
abbrev pub known_of : Stored → List Range
known_of stored = stored.base ++ stored.journal

-- the clone with the range at the end of its journal
abbrev pub with_range : Stored → Range → Stored
with_range stored range = record { path = stored.path; base = stored.base; journal = stored.journal ++ range ∷ [] }

-- what a clone keeps that merges what one has who knows these dots: its base is all that both know, and it has no journal
abbrev pub merged_with : Stored → List Range → Stored
merged_with stored dots = record { path = stored.path; base = known_of stored ++ dots; journal = [] }

-- what a clone keeps where so many ranges stay at the end of its journal, or all where it has fewer: the dots of the others join its base
abbrev pub truncated_to : Stored → ℕ → Stored
truncated_to stored keep = record {
  path = stored.path;
  base = stored.base ++ take (length stored.journal - keep) stored.journal;
  journal = drop (length stored.journal - keep) stored.journal;
}

-- the range is known: its last dot is
abbrev pub IsKnown : List Range → Range → Type 0
IsKnown known range = Knows known (last_dot range)

-- the range is ready: it isn't known, each dot of its time outside it is known, and so is the tick before its first
pub record IsReady (history : List Operation) (known : List Range) (range : Range) : Type 0 where
  pub unknown : ¬ IsKnown known range
  pub time : (dot : Dot) → IsTime history range dot → ¬ IsIn range dot → Knows known dot
  pub before : (range.first ≡ 1) ⊎ Knows known (dot_at range.path (range.first - 1))

-- the range is held back: it is neither known nor ready
pub record IsHeldBack (history : List Operation) (known : List Range) (range : Range) : Type 0 where
  pub unknown : ¬ IsKnown known range
  pub unready : ¬ IsReady history known range

-- of the ranges held back, in order of arrival, those that are known are dropped, then the first ready one is taken, and so on
-- until none is ready: the ranges taken, what the clone keeps then, and what is still held back
abbrev pub Releases : List Operation → Stored → List Range → List Range → Stored → List Range → Type 0
Releases history stored held [] after left =
    DropsThose (IsKnown (known_of stored)) held left × HasNone (IsReady history (known_of stored)) left × (after ≡ stored)
Releases history stored held (range ∷ taken) after left =
    (kept : List Range) × (rest : List Range) × DropsThose (IsKnown (known_of stored)) held kept
    × TakesFirst (IsReady history (known_of stored)) kept range rest × Releases history (with_range stored range) rest taken after left

-- every dot that the first knows is known to the second
abbrev pub AreKnownTo : List Range → List Range → Type 0
AreKnownTo known other = (dot : Dot) → Knows known dot → Knows other dot
