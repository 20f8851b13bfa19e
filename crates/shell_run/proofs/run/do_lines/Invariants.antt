use Rattle.std.proofs.Common.{◌≡◌, ◌-◌, ◌≤◌, IsTrue}
use Rattle.input_lines.specs.TooLarge.{input_limit, IsUnderLimits}
use Rattle.input_lines.specs.Taken.{KnowsEnd}
use Rattle.shell_session.specs.Sessions.{session_banks, MayDoLine}
use Rattle.shell_session.specs.SessionLines.{Meters}
use Rattle.shell_run.specs.Inputs.{AreTakenSoFar}
use Rattle.shell_run.specs.ShellUnderWay.{WayTold}
use Rattle.shell_run.proofs.run.do_lines.Given as goal

abbrev pub invariant-loop-line : goal.invariant-loop-line
invariant-loop-line g l = record {
  way : WayTold g.B.Banks.log (g.B.Banks.log l.fn.banks) (g.S.Source.left l.fn.source) (g.S.Source.left l.source) (g.K.Sink.held l.fn.sink) (g.K.Sink.held l.sink) l.lines.taken l.session l.done;
  standing : MayDoLine l.session;
  meters : Meters (g.B.Banks.meter l.fn.banks) (g.B.Banks.meter (session_banks l.session)) ⊥;
  so_far : AreTakenSoFar (g.S.Source.left l.fn.source) (g.S.Source.left l.source) l.lines.taken l.done;
  ends : KnowsEnd l.lines.ended (g.S.Source.left l.fn.source) (g.S.Source.left l.source) l.done;
  good : IsTrue l.lines.good;
  limits : IsUnderLimits l.lines;
  few : l.done ≤ l.lines.taken;
  within : l.lines.taken ≤ l.lines.all;
  reads : g.S.Source.faults l.source ≡ g.S.Source.faults l.fn.source;
  writes : g.K.Sink.faults l.sink ≡ g.K.Sink.faults l.fn.sink;
}

abbrev pub decreases-loop-line : goal.decreases-loop-line
decreases-loop-line g l = input_limit - l.lines.taken
