-- The model of a world: one history, its clones, and every message ever sent.
-- `World::found`, `World::into_banks`, `run_replay` and `run_generated` cite it.
use Rattle.std.specs.Prelude.{ℕ, zero, suc, ◌-◌, List, [], ◌∷◌, ◌++◌, Option, None, slice_get, slice_index_or, slice_set, replicate, map, nat_lt, if◌then◌else◌}
use Rattle.std.specs.List.{range_with_len}
use Rattle.tree_clock.specs.Path.{zero_letter, one_letter}
use Rattle.tree_clock.specs.declared.dots.Range.{Range}
use Rattle.mld_ops.specs.History.{Operation}
use Rattle.mld_model.specs.Clone.{Clone, Absent, Live}

-- a message: a range of operations, a want of whoever knows these dots, a snapshot of these dots, one who asks to join,
-- and a leaf that is given to whoever asked, with a snapshot of these dots
pub data Message : Type 0 where
  RangeOf : Range → Message
  Want : List Range → Message
  SnapshotOf : List Range → Message
  JoinAsk : ℕ → Message
  JoinGive : ℕ → List ℕ → List Range → Message

-- the world: its domain, its properties, every operation made, its clones, and every message sent
pub record World : Type 0 where
  pub domain : List ℕ
  pub properties : List (List ℕ)
  pub history : List Operation
  pub clones : List Clone
  pub messages : List Message

-- the member of a number; the first has number 1
abbrev pub numbered : {X : Type 0} → List X → ℕ → Option X
numbered items zero = None
numbered items (suc before) = slice_get items before

-- the message of a number
abbrev pub message_at : World → ℕ → Option Message
message_at world number = numbered world.messages number

-- how many clones there are, absent ones with them
abbrev pub clone_count : ℕ
clone_count = 32

-- the clone of a number
abbrev pub clone_at : World → ℕ → Clone
clone_at world number = slice_index_or world.clones number Absent

-- the world with another state of a clone
abbrev pub with_clone : World → ℕ → Clone → World
with_clone world number clone = record world { clones = slice_set world.clones number clone }

-- the path of a clone of the founded world: clone 0 forked its leaf once for each other clone and kept the left half,
-- and clone i was given the right half at the fork i
abbrev pub founded_path : ℕ → ℕ → List ℕ
founded_path count zero = replicate (count - 1) zero_letter
founded_path count (suc before) = replicate before zero_letter ++ one_letter ∷ []

-- a clone of the founded world: live, with nothing known, or absent
abbrev pub founded_clone : ℕ → ℕ → Clone
founded_clone count number =
    if nat_lt number count then Live (record { path = founded_path count number; base = []; journal = [] }) [] else Absent

-- the world that was founded with this domain, these single-valued properties and so many clones
abbrev pub founded : List ℕ → List (List ℕ) → ℕ → World
founded domain properties count = record {
  domain = domain;
  properties = properties;
  history = [];
  clones = map (founded_clone count) (range_with_len 0 clone_count);
  messages = [];
}
