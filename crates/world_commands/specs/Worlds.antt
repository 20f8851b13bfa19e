-- What a running world's step has to do with the model. `World::found` and `World::step` cite it.
use Rattle.std.specs.Prelude.{◌≡◌, List, ℕ, ◌++◌, Option}
use Rattle.mld_io.specs.Disk.{Log}
use Rattle.mld_model.specs.World.{World}
use Rattle.mld_model.specs.Reply.{Reply}
use Rattle.mld_model.specs.Sound.{IsSound}
use Rattle.mld_model.specs.StandsFor.{RunningWorld, StandsFor}
use Rattle.crash_laws.specs.schedule_model.declared.Command.{Command}
use Rattle.crash_laws.specs.schedule_model.ReplyText.{reply_text}
use Rattle.crash_laws.specs.schedule_model.Step.{Step}
use Rattle.crash_laws.specs.schedule_model.WorldStep.{Follows}
use Rattle.world_commands.specs.WorldBanks.{BankedWorld, StandsOnBanks}

-- there is a sound world of the model that the running world stands for
pub record IsStanding {B : Type 0} (log : B → Option Log) (running : BankedWorld B) : Type 0 where
  pub world : World
  pub stands : StandsOnBanks log running world
  pub sound : IsSound world

-- for each sound world that it stood for, what the running world has in memory has made the model's step of the command with this reply
abbrev pub Moves : RunningWorld → Command → Reply → RunningWorld → Type 0
Moves old command reply new = (world : World) → StandsFor old world → IsSound world → Follows world command reply new

-- there is a sound world that the model's step makes of the world with this reply, and the running world on its banks stands for it
pub record FollowsOnBanks {B : Type 0} (log : B → Option Log) (world : World) (command : Command) (reply : Reply) (running : BankedWorld B) : Type 0 where
  pub next : World
  pub steps : Step world command reply next
  pub sound : IsSound next
  pub stands : StandsOnBanks log running next

-- for each sound world that it stood for, the running world on its banks has made the model's step of the command with this reply
abbrev pub MovesOnBanks : {B : Type 0} → (B → Option Log) → BankedWorld B → Command → Reply → BankedWorld B → Type 0
MovesOnBanks log old command reply new = (world : World) → StandsOnBanks log old world → IsSound world → FollowsOnBanks log world command reply new

-- the running world has made the model's step, and the text of its reply was added
pub record Stepped {B : Type 0} (log : B → Option Log) (old : BankedWorld B) (command : Command) (new : BankedWorld B) (before after : List ℕ) : Type 0 where
  pub reply : Reply
  pub text : after ≡ before ++ reply_text reply
  pub follows : MovesOnBanks log old command reply new
