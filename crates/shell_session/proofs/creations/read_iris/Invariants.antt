use Rattle.std.specs.Prelude.{length, option_map}
use Rattle.shell_session.specs.ReadShell.{tail_of}
use Rattle.shell_session.proofs.ShellIris.{ReadsOn}
use Rattle.shell_session.proofs.creations.read_iris.Given as goal

abbrev pub invariant-loop-left : goal.invariant-loop-left
invariant-loop-left l = ReadsOn (tail_of (option_map (λ text. text.now) l.rest)) (tail_of (option_map (λ text. text.now) l.left)) l.iris.items

abbrev pub decreases-loop-left : goal.decreases-loop-left
decreases-loop-left l = length (tail_of (option_map (λ text. text.now) l.left))
