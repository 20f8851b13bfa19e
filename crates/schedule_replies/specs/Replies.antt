-- What a reply is in the model.
use Rattle.std.specs.Prelude.{ℕ, ◌-◌, List}
use Rattle.std.specs.List.{range_with_len}
use Rattle.mld_model.specs.Reply as model
use Rattle.schedule_replies.specs.declared.replies.Reply.{Reply}
use Rattle.schedule_replies.specs.declared.replies.Reply.TheVariants as replies

-- the numbers from the first on and before the end
abbrev pub numbers_between : ℕ → ℕ → List ℕ
numbers_between first end = range_with_len first (end - first)

-- the reply of the model
abbrev pub reply_value : Reply → model.Reply
reply_value (replies.Ready count) = model.Ready count
reply_value (replies.Did dot message) = model.Did dot message
reply_value replies.PropertySet = model.PropertySet
reply_value replies.NoOperation = model.NoOperation
reply_value (replies.Single subject property) = model.Single subject property
reply_value (replies.Took ranges) = model.Took ranges
reply_value (replies.Merged ranges) = model.Merged ranges
reply_value replies.Held = model.Held
reply_value replies.HeldFull = model.HeldFull
reply_value replies.Known = model.AlreadyKnown
reply_value (replies.Shows pairs) = model.Shows pairs.now.pairs
reply_value (replies.Tells text) = model.Tells text.items
reply_value replies.TooMany = model.TooMany
reply_value replies.Same = model.Same
reply_value replies.Less = model.Less
reply_value replies.More = model.More
reply_value replies.Apart = model.Apart
reply_value (replies.Sent message) = model.Sent message
reply_value (replies.Answer first end) = model.Answer (numbers_between first end)
reply_value replies.Nothing = model.NothingToSend
reply_value (replies.Kept count) = model.Kept count
reply_value (replies.Joined path) = model.Joined path
reply_value replies.Deep = model.Deep
reply_value replies.NoMessage = model.NoMessage
reply_value replies.Ignored = model.Ignored
reply_value replies.Absent = model.IsAbsent
reply_value replies.Asking = model.IsAsking
reply_value replies.Down = model.IsDown
reply_value replies.Live = model.IsLive
reply_value replies.Stopped = model.Stopped
reply_value replies.Opened = model.Opened
reply_value replies.Crashed = model.Crashed
