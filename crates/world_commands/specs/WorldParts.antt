-- What a command makes of the parts of a running world. Each command cites it.
use Rattle.std.specs.Prelude.{◌≡◌, ℕ, ◌+◌, ◌<◌, Result, map, length, Option}
use Rattle.mld_io.specs.Arm.{Meter}
use Rattle.mld_io.specs.Disk.{Log}
use Rattle.mld_ops.specs.Messages.{message_value}
use Rattle.crash_laws.specs.schedule_model.WorldStep.{step_limit}
use Rattle.crash_laws.specs.schedule_model.declared.Command.{Command}
use Rattle.world_commands.specs.declared.faults.WorldFault.{WorldFault}
use Rattle.world_commands.specs.declared.parts.Parts.{Parts}
use Rattle.schedule_replies.specs.declared.replies.Reply.{Reply}
use Rattle.schedule_replies.specs.Replies.{reply_value}
use Rattle.world_commands.specs.WorldBanks.{BankedWorld, banks_of_state, HasFaultsFor}
use Rattle.world_commands.specs.OneCall.{UsesBanksOf}
use Rattle.world_commands.specs.Worlds.{IsStanding, MovesOnBanks}

-- the running world that has these parts, after so many steps
abbrev pub running_of : {B : Type 0} → Parts B → ℕ → BankedWorld B
running_of parts steps = record {
  domain = parts.domain;
  properties = parts.properties.items;
  clones = parts.clones.items;
  messages = map message_value parts.messages.items;
  steps = steps;
}

-- the parts stand for a sound world after so many steps that one more may be made
pub record HasStepLeft {B : Type 0} (log : B → Option Log) (parts : Parts B) : Type 0 where
  pub steps : ℕ
  pub few : steps < step_limit
  pub standing : IsStanding log (running_of parts steps)

-- what a command of the clone of this number leaves as it was: the domain, how many clones there are, the banks of the other clones,
-- and each real fault of its own
pub record KeepsDomain {B : Type 0} (meter : B → Meter) (number : ℕ) (old new : Parts B) : Type 0 where
  pub domain : new.domain ≡ old.domain
  pub properties : new.properties ≡ old.properties
  pub count : length new.clones.items ≡ length old.clones.items
  pub banks : UsesBanksOf meter number (map banks_of_state old.clones.items) (map banks_of_state new.clones.items)

-- which banks had real faults, by how a command of the clone of this number ended
abbrev pub HasFaultsOfParts : {B T : Type 0} → (B → Meter) → ℕ → Parts B → Parts B → Result T WorldFault → Type 0
HasFaultsOfParts meter number old new result = HasFaultsFor number meter (map banks_of_state old.clones.items) (map banks_of_state new.clones.items) result

-- the command was done, and this is its reply: it is the model's step with that reply, after any number of steps
pub record Does {B : Type 0} (log : B → Option Log) (old : Parts B) (command : Command) (new : Parts B) (reply : Reply) : Type 0 where
  pub moves : (steps : ℕ) → MovesOnBanks log (running_of old steps) command (reply_value reply) (running_of new (steps + 1))
