-- What a clone of a world does, and what comes to it: each with its reply and the world after it, whatever line asks for it.
-- `LocalStep` is made of it, and the step by each line of a schedule.
use Rattle.std.specs.Prelude.{◌≡◌, ◌≢◌, ℕ, ◌+◌, ◌<◌, ◌≤◌, List, [], ◌∷◌, ◌++◌, ◌↔◌, length, map}
use Rattle.std.specs.List.{range_with_len}
use Rattle.tree_clock.specs.Limits.{path_limit}
use Rattle.tree_clock.specs.Path.{zero_letter, one_letter}
use Rattle.tree_clock.specs.declared.dots.Dot.{Dot}
use Rattle.tree_clock.specs.declared.dots.Range.{Range}
use Rattle.tree_clock.specs.Lists.{Has}
use Rattle.tree_clock.specs.Dot.{Knows}
use Rattle.mld_ops.specs.declared.tagged.Tagged.{Tagged}
use Rattle.mld_ops.specs.History.{Operation, dot_at}
use Rattle.mld_ops.specs.Effect.{range_of}
use Rattle.mld_ops.specs.Effects.{EffectValue, ChangesNothing, operation_of}
use Rattle.mld_ops.specs.Breaches.{IsFirstBreach, BreaksNone}
use Rattle.mld_ops.specs.Meaning.{IsMeaning}
use Rattle.mld_ops.specs.Picking.{DropsThose}
use Rattle.op_fusion.specs.Compacting.{AreCompacted}
use Rattle.mld_model.specs.Clone.{Clone, Absent, Asking, Empty, Down, Live, Stored, known_of, with_range, merged_with, truncated_to, IsKnown, IsReady, IsHeldBack, AreKnownTo, Releases}
use Rattle.mld_ops.specs.Held.{held_limit}
use Rattle.mld_model.specs.Comparing.{ComparesBy}
use Rattle.mld_model.specs.World.{World, Message, RangeOf, Want, SnapshotOf, JoinAsk, JoinGive, with_clone}
use Rattle.mld_model.specs.Reply.{Reply, Did, NoOperation, Single, TooMany, Took, Merged, Held, HeldFull, AlreadyKnown, Shows, Sent, Answer, NothingToSend, Kept, Joined, Deep, Ignored, IsAbsent, IsAsking, IsDown, IsLive, Stopped, Opened}

-- a reply that changes nothing
abbrev pub Answers : World → Reply → Reply → World → Type 0
Answers world answer reply next = (reply ≡ answer) × (next ≡ world)

-- what holds by the state of a clone: where it is absent, where it asks, where it is down, and where it is live with what it keeps
-- and holds back
abbrev pub ByState : Clone → Type 0 → Type 0 → Type 0 → (Stored → List Range → Type 0) → Type 0
ByState Absent absent asking down live = absent
ByState Asking absent asking down live = asking
ByState Empty absent asking down live = down
ByState (Down stored) absent asking down live = down
ByState (Live stored held) absent asking down live = live stored held

-- what a live clone alone does, by what it keeps and holds back: any other replies with its state, and nothing changes
abbrev pub IfLive : World → Clone → Reply → World → (Stored → List Range → Type 0) → Type 0
IfLive world clone reply next does =
    ByState clone (Answers world IsAbsent reply next) (Answers world IsAsking reply next) (Answers world IsDown reply next) does

-- the tick after the last that is known of the path
pub record IsNextTick (known : List Range) (path : List ℕ) (tick : ℕ) : Type 0 where
  pub positive : 1 ≤ tick
  pub after : (other : ℕ) → Knows known (dot_at path other) ↔ ((1 ≤ other) × (other < tick))

-- the world after the clone of the number has made the operation and sent it
abbrev pub after_operation : World → ℕ → Stored → List Range → Operation → World
after_operation world number stored held operation =
    let range = range_of operation.dot in
    record (with_clone world number (Live (with_range stored range) held)) {
      history = operation ∷ world.history;
      messages = world.messages ++ RangeOf range ∷ [];
    }

-- a local change: the operation of an effect with the next tick, whose causes are all that the clone knows
pub record Makes (world : World) (number : ℕ) (stored : Stored) (held : List Range) (effect : EffectValue) (reply : Reply) (next : World) : Type 0 where
  pub tick : ℕ
  pub is_next : IsNextTick (known_of stored) stored.path tick
  pub replies : reply ≡ Did (dot_at stored.path tick) (length world.messages + 1)
  pub changes : next ≡ after_operation world number stored held (operation_of (dot_at stored.path tick) (known_of stored) effect)

-- a live clone that has these pairs makes an update by its effect: it changes nothing and no operation is made; or it would give a subject
-- a second value of a single-valued property, and none is made; or one is made
pub data Updates (world : World) (number : ℕ) (stored : Stored) (held : List Range) (pairs : List Tagged) (effect : EffectValue) (reply : Reply) (next : World) : Type 0 where
  changes_nothing : ChangesNothing effect → Answers world NoOperation reply next → Updates world number stored held pairs effect reply next
  breaks_single : ¬ ChangesNothing effect → (place : List ℕ × List ℕ) → IsFirstBreach world.properties pairs effect place
      → Answers world (Single place.0 place.1) reply next → Updates world number stored held pairs effect reply next
  makes_operation : ¬ ChangesNothing effect → BreaksNone world.properties pairs effect → Makes world number stored held effect reply next
      → Updates world number stored held pairs effect reply next

-- an update has more solutions than it may have, or it has an effect at the dot of the clone's next operation
pub data UpdatesOver (world : World) (number : ℕ) (stored : Stored) (held : List Range) (pairs : List Tagged) (TooLarge : Type 0) (Rule : Dot → EffectValue → Type 0) (reply : Reply) (next : World) : Type 0 where
  is_too_large : TooLarge → Answers world TooMany reply next → UpdatesOver world number stored held pairs TooLarge Rule reply next
  has_effect : (tick : ℕ) → IsNextTick (known_of stored) stored.path tick → (effect : EffectValue) → Rule (dot_at stored.path tick) effect
      → Updates world number stored held pairs effect reply next → UpdatesOver world number stored held pairs TooLarge Rule reply next

-- a clone makes an update: a rule says whether it has more solutions than it may have, over the pairs that are present for the clone, and
-- another which effect it has on these, at a dot
abbrev pub UpdatesBy : World → ℕ → (List Tagged → Type 0) → (Dot → List Tagged → EffectValue → Type 0) → Clone → Reply → World → Type 0
UpdatesBy world number too_large rule clone reply next = IfLive world clone reply next (λ stored held.
    (pairs : List Tagged) × IsMeaning world.history (known_of stored) pairs
    × UpdatesOver world number stored held pairs (too_large pairs) (λ dot effect. rule dot pairs effect) reply next)

-- a live clone makes an update of this effect
abbrev pub UpdatesAs : World → ℕ → EffectValue → Clone → Reply → World → Type 0
UpdatesAs world number effect clone reply next = IfLive world clone reply next (λ stored held.
    (pairs : List Tagged) × IsMeaning world.history (known_of stored) pairs × Updates world number stored held pairs effect reply next)

-- a live clone takes a range that is ready, and then those held back that this releases
pub record Accepts (world : World) (number : ℕ) (stored : Stored) (held : List Range) (range : Range) (reply : Reply) (next : World) : Type 0 where
  pub ready : IsReady world.history (known_of stored) range
  pub taken : List Range
  pub after : Stored
  pub left : List Range
  pub releases : Releases world.history (with_range stored range) held taken after left
  pub replies : reply ≡ Took (range ∷ taken)
  pub changes : next ≡ with_clone world number (Live after left)

-- a live clone holds a range back: it is held already, or too many others are, or it is held from now on
pub data HoldsBack (world : World) (number : ℕ) (stored : Stored) (held : List Range) (range : Range) (reply : Reply) (next : World) : Type 0 where
  holds_already : Has held range → Answers world Held reply next → HoldsBack world number stored held range reply next
  holds_too_many : ¬ Has held range → held_limit ≤ length held → Answers world HeldFull reply next → HoldsBack world number stored held range reply next
  holds_from_now : ¬ Has held range → length held < held_limit → reply ≡ Held → next ≡ with_clone world number (Live stored (held ++ range ∷ []))
      → HoldsBack world number stored held range reply next

-- a range that comes to a live clone: it is known, or it is ready and taken, or it is held back
pub data TakesRange (world : World) (number : ℕ) (stored : Stored) (held : List Range) (range : Range) (reply : Reply) (next : World) : Type 0 where
  knows_already : IsKnown (known_of stored) range → Answers world AlreadyKnown reply next → TakesRange world number stored held range reply next
  accepts : Accepts world number stored held range reply next → TakesRange world number stored held range reply next
  holds_back : IsHeldBack world.history (known_of stored) range → HoldsBack world number stored held range reply next
      → TakesRange world number stored held range reply next

-- the world after the clone of the number asked for a leaf: it waits for one, and a message that asks is sent
abbrev pub after_asking : World → ℕ → World
after_asking world number = record (with_clone world number Asking) { messages = world.messages ++ JoinAsk number ∷ [] }

-- the question for a leaf is sent
abbrev pub Asks : World → ℕ → Reply → World → Type 0
Asks world number reply next = (reply ≡ Sent (length world.messages + 1)) × (next ≡ after_asking world number)

-- a clone that is absent asks for a leaf, and one that asks already may ask again
abbrev pub Joins : World → ℕ → Clone → Reply → World → Type 0
Joins world number clone reply next =
    ByState clone (Asks world number reply next) (Asks world number reply next) (Answers world IsDown reply next) (λ stored held. Answers world IsLive reply next)

-- what a clone keeps that forked its leaf: the left half of it
abbrev pub left_half : Stored → Stored
left_half stored = record { path = stored.path ++ zero_letter ∷ []; base = stored.base; journal = stored.journal }

-- the world after a live clone forked its leaf for the clone of the id: it keeps the left half, and sends the right one with
-- the dots that it knows
abbrev pub after_fork : World → ℕ → Stored → List Range → ℕ → World
after_fork world number stored held id =
    record (with_clone world number (Live (left_half stored) held)) {
      messages = world.messages ++ JoinGive id (stored.path ++ one_letter ∷ []) (known_of stored) ∷ [];
    }

-- a live clone is asked for a leaf by the clone of an id: it is that clone itself, or its leaf is too deep, or it forks
pub data TakesAsk (world : World) (number : ℕ) (stored : Stored) (held : List Range) (id : ℕ) (reply : Reply) (next : World) : Type 0 where
  asked_itself : id ≡ number → Answers world Ignored reply next → TakesAsk world number stored held id reply next
  is_too_deep : id ≢ number → path_limit ≤ length stored.path → Answers world Deep reply next → TakesAsk world number stored held id reply next
  forks : id ≢ number → length stored.path < path_limit → reply ≡ Answer ((length world.messages + 1) ∷ []) → next ≡ after_fork world number stored held id
      → TakesAsk world number stored held id reply next

-- what a clone keeps that took a leaf with these dots: a base of them, and no journal
abbrev pub joined_with : List ℕ → List Range → Stored
joined_with path dots = record { path = path; base = dots; journal = [] }

-- a leaf for the clone of an id comes to a clone that asks: it is that clone and lives from now on, or it isn't
pub data TakesLeaf (world : World) (number id : ℕ) (path : List ℕ) (dots : List Range) (reply : Reply) (next : World) : Type 0 where
  becomes_live : id ≡ number → reply ≡ Joined path → next ≡ with_clone world number (Live (joined_with path dots) []) → TakesLeaf world number id path dots reply next
  leaves_it : id ≢ number → Answers world Ignored reply next → TakesLeaf world number id path dots reply next

-- a message comes to a clone that asks
abbrev pub AskerTakes : World → ℕ → Message → Reply → World → Type 0
AskerTakes world number (JoinGive id path dots) reply next = TakesLeaf world number id path dots reply next
AskerTakes world number message reply next = Answers world Ignored reply next

-- a live clone is asked for what one lacks who knows these dots. Where all dots of its base are among them, the ranges of its journal
-- that aren't known by them are sent, each in a message of its own, or there are none. Else one snapshot is sent of all that it knows
pub data TakesWant (world : World) (dots : List Range) (stored : Stored) (reply : Reply) (next : World) : Type 0 where
  lacks_nothing : AreKnownTo stored.base dots → DropsThose (IsKnown dots) stored.journal [] → Answers world NothingToSend reply next
      → TakesWant world dots stored reply next
  sends_ranges : (ranges : List Range) → AreKnownTo stored.base dots → DropsThose (IsKnown dots) stored.journal ranges → ranges ≢ []
      → reply ≡ Answer (range_with_len (length world.messages + 1) (length ranges))
      → next ≡ record world { messages = world.messages ++ map RangeOf ranges } → TakesWant world dots stored reply next
  sends_snapshot : ¬ AreKnownTo stored.base dots → reply ≡ Answer ((length world.messages + 1) ∷ [])
      → next ≡ record world { messages = world.messages ++ SnapshotOf (known_of stored) ∷ [] } → TakesWant world dots stored reply next

-- a live clone merges what one has who knows dots that it lacks, and then takes those ranges held back that this releases
pub record Merges (world : World) (number : ℕ) (stored : Stored) (held dots : List Range) (reply : Reply) (next : World) : Type 0 where
  pub lacks : ¬ AreKnownTo dots (known_of stored)
  pub taken : List Range
  pub after : Stored
  pub left : List Range
  pub releases : Releases world.history (merged_with stored dots) held taken after left
  pub replies : reply ≡ Merged taken
  pub changes : next ≡ with_clone world number (Live after left)

-- a snapshot of these dots comes to a live clone: it knows them all, or it merges
pub data TakesSnapshot (world : World) (number : ℕ) (stored : Stored) (held dots : List Range) (reply : Reply) (next : World) : Type 0 where
  knows_all : AreKnownTo dots (known_of stored) → Answers world AlreadyKnown reply next → TakesSnapshot world number stored held dots reply next
  merges : Merges world number stored held dots reply next → TakesSnapshot world number stored held dots reply next

-- a message comes to a live clone
abbrev pub LiveTakes : World → ℕ → Message → Stored → List Range → Reply → World → Type 0
LiveTakes world number (RangeOf range) stored held reply next = TakesRange world number stored held range reply next
LiveTakes world number (Want dots) stored held reply next = TakesWant world dots stored reply next
LiveTakes world number (JoinAsk id) stored held reply next = TakesAsk world number stored held id reply next
LiveTakes world number (SnapshotOf dots) stored held reply next = TakesSnapshot world number stored held dots reply next
LiveTakes world number (JoinGive id path dots) stored held reply next = Answers world Ignored reply next

-- a message comes to a clone
abbrev pub Takes : World → ℕ → Message → Clone → Reply → World → Type 0
Takes world number message clone reply next =
    ByState clone (Answers world IsAbsent reply next) (AskerTakes world number message reply next) (Answers world IsDown reply next)
    (λ stored held. LiveTakes world number message stored held reply next)

-- a live clone stops: it keeps what its device has, and forgets what it holds back
abbrev pub Stops : World → ℕ → Clone → Reply → World → Type 0
Stops world number clone reply next =
    IfLive world clone reply next (λ stored held. (reply ≡ Stopped) × (next ≡ with_clone world number (Down stored)))

-- a clone that is down opens: it is live with what it keeps, and holds nothing back; where it keeps nothing, it asks for a leaf
abbrev pub Reopens : World → ℕ → Clone → Reply → World → Type 0
Reopens world number Absent reply next = Answers world IsAbsent reply next
Reopens world number Asking reply next = Answers world IsAsking reply next
Reopens world number Empty reply next = (reply ≡ IsAsking) × (next ≡ with_clone world number Asking)
Reopens world number (Down stored) reply next = (reply ≡ Opened) × (next ≡ with_clone world number (Live stored []))
Reopens world number (Live stored held) reply next = Answers world IsLive reply next

-- a live clone asks whoever gets its message for what it lacks, by the dots that it knows
abbrev pub Wants : World → Clone → Reply → World → Type 0
Wants world clone reply next = IfLive world clone reply next (λ stored held.
    (reply ≡ Sent (length world.messages + 1)) × (next ≡ record world { messages = world.messages ++ Want (known_of stored) ∷ [] }))

-- a live clone compacts its journal
abbrev pub Compacts : World → ℕ → Clone → Reply → World → Type 0
Compacts world number clone reply next = IfLive world clone reply next (λ stored held.
    (ranges : List Range) × AreCompacted stored.journal ranges × (reply ≡ Kept (length ranges))
    × (next ≡ with_clone world number (Live (record stored { journal = ranges }) held)))

-- a live clone truncates its journal to so many ranges
abbrev pub Truncates : World → ℕ → ℕ → Clone → Reply → World → Type 0
Truncates world number keep clone reply next = IfLive world clone reply next (λ stored held.
    (reply ≡ Kept (length (truncated_to stored keep).journal)) × (next ≡ with_clone world number (Live (truncated_to stored keep) held)))

-- the pairs of a clone: the meaning of the dots that it knows
abbrev pub Lists : World → Clone → Reply → World → Type 0
Lists world clone reply next = IfLive world clone reply next (λ stored held.
    (pairs : List Tagged) × IsMeaning world.history (known_of stored) pairs × Answers world (Shows pairs) reply next)

-- how two sets of dots compare
abbrev pub Compares : List Range → List Range → Reply → Type 0
Compares known other reply = ComparesBy (AreKnownTo known other) (AreKnownTo other known) reply

-- the dots of a live clone beside those of another
abbrev pub ComparesWith : World → Stored → Clone → Reply → World → Type 0
ComparesWith world stored clone reply next =
    IfLive world clone reply next (λ other held. Compares (known_of stored) (known_of other) reply × (next ≡ world))

-- the states of both clones are looked at in turn
abbrev pub Weighs : World → Clone → Clone → Reply → World → Type 0
Weighs world clone other reply next = IfLive world clone reply next (λ stored held. ComparesWith world stored other reply next)
