-- A command is done and its reply told. The private calls behind `World::step` cite it.
use Rattle.std.specs.Prelude.{◌≡◌, ℕ, ◌+◌, List, ◌++◌, Option, Result, Ok, Err}
use Rattle.mld_io.specs.Disk.{Log}
use Rattle.mld_model.specs.Reply as model
use Rattle.schedule_text.specs.schedule_model.declared.Command.{Command}
use Rattle.schedule_text.specs.schedule_model.ReplyText.{reply_text}
use Rattle.world_commands.specs.schedule_replies.Replies.{reply_value}
use Rattle.world_commands.specs.schedule_replies.declared.replies.Reply.{Reply}
use Rattle.world_commands.specs.declared.faults.WorldFault.{WorldFault}
use Rattle.world_commands.specs.declared.faults.WorldFault.TheVariants as faults
use Rattle.world_commands.specs.declared.parts.Parts.{Parts}
use Rattle.world_commands.specs.WorldParts.{running_of}
use Rattle.world_commands.specs.Worlds.{MovesOnBanks}
use Rattle.net_world.specs.CrashedWorlds.{crashed_reply}
use Rattle.net_world.specs.declared.crash.Crashed.{Crashed}

-- the command was done, and the text of its reply was added
pub record Answered {B : Type 0} (log : B → Option Log) (old : Parts B) (command : Command) (new : Parts B) (before after : List ℕ) : Type 0 where
  pub reply : model.Reply
  pub moves : (steps : ℕ) → MovesOnBanks log (running_of old steps) command reply (running_of new (steps + 1))
  pub told : after ≡ before ++ reply_text reply

-- a reply was found, and its text was added
abbrev pub TellsReply : Result Reply WorldFault → List ℕ → List ℕ → Type 0
TellsReply (Ok reply) before after = after ≡ before ++ reply_text (reply_value reply)
TellsReply (Err error) before after = ⊥

-- no reply was found, and this is the fault; or there is no memory for its text
abbrev pub FailsToTell : {T : Type 0} → Result T WorldFault → WorldFault → Type 0
FailsToTell (Ok reply) fault = fault ≡ faults.NoMemory
FailsToTell (Err refused) fault = fault ≡ refused

-- the end of a crash line was found, and its text was added
abbrev pub TellsCrash : Result Crashed WorldFault → List ℕ → List ℕ → Type 0
TellsCrash (Ok ended) before after = after ≡ before ++ reply_text (crashed_reply ended)
TellsCrash (Err error) before after = ⊥
