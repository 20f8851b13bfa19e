-- One step of the world by a plain command: any but a crash line. The laws of `crash_lines` and `Step` are made of it.
use Rattle.std.specs.Prelude.{MatchOption}
use Rattle.schedule_model.specs.declared.Command.{Command}
use Rattle.schedule_model.specs.declared.Command.TheVariants.{Add, Remove, Update, Deliver, Show, Query, Compare, Join, Ask, Compact, Truncate, Stop, Open, Crash}
use Rattle.mld_model.specs.CloneStep.{Answers, Takes, Lists, Joins, Wants, Compacts, Truncates, Stops, Reopens, Weighs}
use Rattle.mld_model.specs.World.{World, message_at, clone_at}
use Rattle.mld_model.specs.Reply.{Reply, NoMessage}
use Rattle.schedule_model.specs.Querying.{Queries}
use Rattle.schedule_model.specs.Updating.{UpdatesByPlan, Adds, Removes}

-- its step: the world before, the command, the reply, the world after
abbrev pub PlainStep : World → Command → Reply → World → Type 0
PlainStep world (Add number triple) reply next = Adds world number triple (clone_at world number) reply next
PlainStep world (Remove number triple) reply next = Removes world number triple (clone_at world number) reply next
PlainStep world (Update number plan) reply next = UpdatesByPlan world number plan (clone_at world number) reply next
PlainStep world (Deliver message number) reply next =
    MatchOption (message_at world message) (Answers world NoMessage reply next) (λ sent. Takes world number sent (clone_at world number) reply next)
PlainStep world (Show number) reply next = Lists world (clone_at world number) reply next
PlainStep world (Query number read) reply next = Queries world read (clone_at world number) reply next
PlainStep world (Join number) reply next = Joins world number (clone_at world number) reply next
PlainStep world (Ask number) reply next = Wants world (clone_at world number) reply next
PlainStep world (Compact number) reply next = Compacts world number (clone_at world number) reply next
PlainStep world (Truncate number keep) reply next = Truncates world number keep (clone_at world number) reply next
PlainStep world (Stop number) reply next = Stops world number (clone_at world number) reply next
PlainStep world (Open number) reply next = Reopens world number (clone_at world number) reply next
PlainStep world (Compare number other) reply next = Weighs world (clone_at world number) (clone_at world other) reply next
PlainStep world (Crash call leave task) reply next = ⊥
