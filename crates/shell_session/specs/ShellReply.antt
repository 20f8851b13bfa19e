-- The replies of a shell, and their text: lines that end with LF.
use Rattle.std.specs.Prelude.{ℕ, List, [], ◌∷◌, ◌++◌, codes}
use Rattle.std.specs.Fmt.{decimal}
use Rattle.mld_io.specs.declared.banks.Side.{Side}
use Rattle.mld_io.specs.declared.banks.Side.TheVariants.{A, B}
use Rattle.tree_clock.specs.declared.dots.Dot.{Dot}
use Rattle.tree_clock.specs.Dot.{dot_text}
use Rattle.mld_model.specs.Reply.{Reply}
use Rattle.schedule_text.specs.schedule_model.Characters.{line_end}
use Rattle.schedule_text.specs.schedule_model.ReplyText.{reply_text}

pub data ShellReply : Type 0 where
  -- what a clone of a schedule replies too
  Says : Reply → ShellReply
  -- the operation of the dot was made; nothing is sent
  DidAt : Dot → ShellReply
  -- the line is outside the grammar
  BadLine : ShellReply
  -- no clone is live
  IsClosed : ShellReply
  -- the banks keep nothing
  FoundNothing : ShellReply
  -- the banks are damaged, on this side at this place
  FoundDamage : Side → ℕ → ShellReply
  -- the banks keep a clone already
  NotEmpty : ShellReply
  -- a clone was made
  MadeClone : ShellReply
  -- the clone's path has no tick left
  TicksSpent : ShellReply
  -- no generation is left for what the banks keep
  GenerationsSpent : ShellReply

-- the name of a side
abbrev pub side_text : Side → List ℕ
side_text A = codes "a"
side_text B = codes "b"

-- the text of a reply
unfoldable pub shell_text : ShellReply → List ℕ
shell_text (Says reply) = reply_text reply
shell_text (DidAt dot) = codes "did " ++ (dot_text dot ++ line_end ∷ [])
shell_text BadLine = codes "bad line\n"
shell_text IsClosed = codes "closed\n"
shell_text FoundNothing = codes "empty\n"
shell_text (FoundDamage side place) = codes "damaged " ++ (side_text side ++ (codes " " ++ (decimal place ++ line_end ∷ [])))
shell_text NotEmpty = codes "not empty\n"
shell_text MadeClone = codes "created\n"
shell_text TicksSpent = codes "ticks spent\n"
shell_text GenerationsSpent = codes "generations spent\n"
