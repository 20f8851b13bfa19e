-- A step of a running world.
use Rattle.std.proofs.Common.{◌≡◌, ℕ, ◌+◌, List, Option, Result, Ok, Err, IfOk, OnOk, sym, ap, subst, map}
use Rattle.mld_io.specs.Arm.{Meter}
use Rattle.mld_io.specs.Disk.{Log}
use Rattle.schedule_text.specs.schedule_model.declared.Command.{Command}
use Rattle.world_commands.specs.declared.parts.Parts.{Parts}
use Rattle.world_commands.specs.schedule_replies.declared.replies.Reply.{Reply as CodeReply}
use Rattle.world_commands.specs.WorldParts.{running_of, KeepsDomain}
use Rattle.world_commands.specs.schedule_replies.Replies.{reply_value}
use Rattle.world_commands.specs.WorldBanks.{BankedWorld, banks_of_state, banks_of}
use Rattle.world_commands.specs.OneCall.{UsesBanksOf}
use Rattle.world_commands.specs.Worlds.{IsStanding, FollowsOnBanks, Stepped}
use Rattle.mld_io.specs.declared.banks.Leave.{Leave}
use Rattle.schedule_text.specs.schedule_model.declared.Command.TheVariants.{Crash}
use Rattle.schedule_text.specs.schedule_model.declared.CrashTask.{CrashTask}
use Rattle.world_commands.specs.declared.faults.WorldFault.{WorldFault}
use Rattle.world_commands.specs.WorldParts.{Does}
use Rattle.net_world.specs.Commands.{Answered, TellsReply, TellsCrash}
use Rattle.net_world.specs.CrashedWorlds.{crashed_reply, CrashesAs}
use Rattle.net_world.specs.declared.crash.Crashed.{Crashed}

-- after a step it stands for a sound world again
pub standing_after : {B : Type 0} (log : B → Option Log) (old : BankedWorld B) (command : Command) (new : BankedWorld B) (before after : List ℕ) → IsStanding log old
    → Stepped log old command new before after → IsStanding log new
standing_after log old command new before after standing made =
    let follows : FollowsOnBanks log standing.world command made.reply new = made.follows standing.world standing.stands standing.sound in
    record { world = follows.next; stands = follows.stands; sound = follows.sound }

-- a command that was answered is a step of each running world that has the parts
pub step_answered : {B : Type 0} (log : B → Option Log) (old : Parts B) (command : Command) (new : Parts B) (before after : List ℕ) (running : BankedWorld B) (steps : ℕ)
    → running_of old steps ≡ running → Answered log old command new before after → Stepped log running command (running_of new (steps + 1)) before after
step_answered {B = B} log old command new before after running steps is answered =
    let P : BankedWorld B → Type 0 = λ r. Stepped log r command (running_of new (steps + 1)) before after in
    subst P is (record { reply = answered.reply; text = answered.told; follows = answered.moves steps })

-- no other banks than the command's clone's were used
pub step_banks : {B : Type 0} (meter : B → Meter) (number : ℕ) (old new : Parts B) (running : BankedWorld B) (steps : ℕ) → running_of old steps ≡ running → KeepsDomain meter number old new
    → UsesBanksOf meter number (banks_of running) (map banks_of_state new.clones.items)
step_banks {B = B} meter number old new running steps is keeps =
    subst (λ (w : BankedWorld B). UsesBanksOf meter number (banks_of w) (map banks_of_state new.clones.items)) is keeps.banks

-- its banks before are those of the parts
pub step_begun : {B : Type 0} (old : Parts B) (running : BankedWorld B) (steps : ℕ) → running_of old steps ≡ running → map banks_of_state old.clones.items ≡ banks_of running
step_begun {B = B} old running steps is = ap (λ (w : BankedWorld B). banks_of w) is

-- ---- commands

-- a command was done and its reply told
pub answered_as : {B U : Type 0} (log : B → Option Log) (old : Parts B) (command other : Command) (new : Parts B) (result : Result CodeReply WorldFault) (told : Result U WorldFault)
    (before after : List ℕ) → command ≡ other → IfOk result (Does log old other new) → OnOk told (TellsReply result before after) → OnOk told (Answered log old command new before after)
answered_as log old command other new (Ok reply) (Ok value) before after is does tells =
    subst (λ (c : Command). Answered log old c new before after) (sym is) (record { reply = reply_value reply; moves = does.moves; told = tells })
answered_as log old command other new (Err fault) (Ok value) before after is does tells = absurd tells
answered_as log old command other new result (Err fault) before after is does tells = tt

-- so it was with a crash line
pub crash_answered : {B U : Type 0} (log : B → Option Log) (old : Parts B) (command : Command) (call : ℕ) (leave : Leave) (task : CrashTask) (new : Parts B) (ended : Result Crashed WorldFault)
    (told : Result U WorldFault) (before after : List ℕ) → command ≡ Crash call leave task → IfOk ended (CrashesAs log old call leave task new) → OnOk told (TellsCrash ended before after)
    → OnOk told (Answered log old command new before after)
crash_answered log old command call leave task new (Ok end) (Ok value) before after is does tells =
    subst (λ (c : Command). Answered log old c new before after) (sym is) (record { reply = crashed_reply end; moves = does.moves; told = tells })
crash_answered log old command call leave task new (Err fault) (Ok value) before after is does tells = absurd tells
crash_answered log old command call leave task new ended (Err fault) before after is does tells = tt
