-- What a reply is in the model. The private calls that write replies cite it.
use Rattle.schedule_replies.specs.Replies.{reply_value}
use Rattle.shell_session.specs.ShellReply as model
use Rattle.shell_session.specs.declared.replies.ShellReply.{ShellReply}
use Rattle.shell_session.specs.declared.replies.ShellReply.TheVariants as replies

-- the reply of the model
abbrev pub shell_value : ShellReply → model.ShellReply
shell_value (replies.Says said) = model.Says (reply_value said)
shell_value (replies.Did dot) = model.DidAt dot
shell_value replies.BadLine = model.BadLine
shell_value replies.Closed = model.IsClosed
shell_value replies.Empty = model.FoundNothing
shell_value (replies.Damaged side place) = model.FoundDamage side place
shell_value replies.NotEmpty = model.NotEmpty
shell_value replies.Created = model.MadeClone
shell_value replies.TicksSpent = model.TicksSpent
shell_value replies.GenerationsSpent = model.GenerationsSpent
