-- What a live clone does that stays live. `do_live` cites it.
use Rattle.std.specs.Prelude.{◌≡◌, ◌⊎◌, ℕ, List, [], ◌++◌, Option, None}
use Rattle.mld_io.specs.Arm.{Meter}
use Rattle.mld_io.specs.Disk.{Log}
use Rattle.mld_ops.specs.Present.{present}
use Rattle.schedule_text.specs.schedule_model.jrql_patterns.declared.queries.ReadQuery.{ReadQuery}
use Rattle.mld_model.specs.Local.{LocalClone}
use Rattle.mld_model.specs.Reply.{Reply}
use Rattle.schedule_text.specs.schedule_model.Querying.{AnswersQuery}
use Rattle.crash_laws.specs.clone_parts.KeptSteps.{KeptStep}
use Rattle.crash_laws.specs.clone_core.Banked.{BankedClone}
use Rattle.crash_laws.specs.clone_core.DurableCalls.{LeavesFronts}
use Rattle.shell_session.specs.Shells.{generation_after}
use Rattle.shell_session.specs.ShellReply.{ShellReply, Says, shell_text}

-- a clone went on by a rule of the model, with this reply: it is open, and at each moment since a crash leaves the old clone after a front of the
-- durable steps
pub record CloneGoesOn {B : Type 0} (log : B → Option Log) (meter : B → Meter) (Rule : ShellReply → List KeptStep → LocalClone → Type 0) (old new : BankedClone B) (reply : ShellReply) : Type 0 where
  pub steps : List KeptStep
  pub does : Rule reply steps new.local
  pub opened : new.closed ≡ None
  pub counts : new.generation ≡ generation_after steps old.generation
  pub moments : LeavesFronts log meter steps old new.banks

-- and the text of the reply was added to the output
pub record CloneAnswers {B : Type 0} (log : B → Option Log) (meter : B → Meter) (Rule : ShellReply → List KeptStep → LocalClone → Type 0) (old : BankedClone B) (before : List ℕ) (new : BankedClone B) (after : List ℕ) : Type 0 where
  pub reply : ShellReply
  pub goes_on : CloneGoesOn log meter Rule old new reply
  pub written : after ≡ before ++ shell_text reply

-- a clone was stopped in the middle of durable steps that are due, or of none
pub record CloneLeavesFrontOfDue {B : Type 0} (log : B → Option Log) (meter : B → Meter) (Due : List KeptStep → Type 0) (old : BankedClone B) (now : B) : Type 0 where
  pub steps : List KeptStep
  pub due : (steps ≡ []) ⊎ Due steps
  pub moments : LeavesFronts log meter steps old now

-- a query is answered over what the clone has, and the text of the reply was added to the output
pub record TellsQuery (clone : LocalClone) (read : ReadQuery) (before after : List ℕ) : Type 0 where
  pub answer : Reply
  pub answers : AnswersQuery (present clone.pairs) read answer
  pub written : after ≡ before ++ shell_text (Says answer)
