-- The replies of a step. The writers of replies cite it, and each step with its reply is made of it.
use Rattle.std.specs.Prelude.{ℕ, List}
use Rattle.tree_clock.specs.declared.dots.Dot.{Dot}
use Rattle.tree_clock.specs.declared.dots.Range.{Range}
use Rattle.mld_ops.specs.declared.tagged.Tagged.{Tagged}

-- what a step answers
pub data Reply : Type 0 where
  -- so many clones are ready
  Ready : ℕ → Reply
  -- a single-valued property is set
  PropertySet : Reply
  -- the operation of the dot was made and sent in the message of the number
  Did : Dot → ℕ → Reply
  -- there was nothing to do, and no operation was made
  NoOperation : Reply
  -- the update would give this subject a second value of this single-valued property, and no operation was made
  Single : List ℕ → List ℕ → Reply
  -- the ranges were taken, in this order
  Took : List Range → Reply
  -- a snapshot was merged, and then these ranges were taken that had been held back, in this order
  Merged : List Range → Reply
  -- the range is held back
  Held : Reply
  -- the range would be held back, and too many are
  HeldFull : Reply
  -- the range was known, or all that the snapshot has
  AlreadyKnown : Reply
  -- these are the pairs of the clone
  Shows : List Tagged → Reply
  -- this is the answer to a query, as a line of JSON without its LF
  Tells : List ℕ → Reply
  -- the query or the update has more solutions than it may have
  TooMany : Reply
  -- how the dots of two clones compare
  Same : Reply
  Less : Reply
  More : Reply
  Apart : Reply
  -- who asks for a leaf has asked in the message of the number
  Sent : ℕ → Reply
  -- what was asked for was sent in the messages of these numbers
  Answer : List ℕ → Reply
  -- who asked lacks nothing of what the clone keeps in its journal
  NothingToSend : Reply
  -- the journal was compacted or truncated, and so many ranges are kept in it
  Kept : ℕ → Reply
  -- the clone is live at the path
  Joined : List ℕ → Reply
  -- the leaf is too deep to be forked
  Deep : Reply
  -- no message has the number
  NoMessage : Reply
  -- the clone takes no message
  Ignored : Reply
  -- the state of the clone that can't do what it was told
  IsAbsent : Reply
  IsAsking : Reply
  IsDown : Reply
  IsLive : Reply
  -- a live clone was stopped
  Stopped : Reply
  -- a clone that was down is live
  Opened : Reply
  -- a crash caught a call of the command's clone
  Crashed : Reply
  -- no call was caught: this is the reply of the command, and then its clone crashed
  ThenCrashed : Reply → Reply
