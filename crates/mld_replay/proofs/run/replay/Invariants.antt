use Rattle.std.proofs.Common.{◌≡◌, ◌-◌, ◌≤◌, IsTrue}
use Rattle.input_lines.specs.TooLarge.{input_limit, IsUnderLimits}
use Rattle.input_lines.specs.Taken.{KnowsEnd}
use Rattle.mld_replay.specs.BankFaults.{ComeBackWell}
use Rattle.mld_replay.specs.Stages.{banks_of_stage}
use Rattle.mld_replay.specs.ReplayUnderWay.{IsReplayUnderWay}
use Rattle.mld_replay.proofs.run.replay.Given as goal

abbrev pub invariant-loop-reply : goal.invariant-loop-reply
invariant-loop-reply g l = record {
  way : IsReplayUnderWay g.B.Banks.log (g.S.Source.left l.fn.source) (g.S.Source.left l.source) (g.K.Sink.held l.fn.sink) (g.K.Sink.held l.sink) l.lines.taken l.stage l.done;
  well : ComeBackWell g.B.Banks.meter (banks_of_stage l.fn.stage) (banks_of_stage l.stage);
  ends : KnowsEnd l.lines.ended (g.S.Source.left l.fn.source) (g.S.Source.left l.source) l.done;
  good : IsTrue l.lines.good;
  limits : IsUnderLimits l.lines;
  few : l.done ≤ l.lines.taken;
  within : l.lines.taken ≤ l.lines.all;
  reads : g.S.Source.faults l.source ≡ g.S.Source.faults l.fn.source;
  writes : g.K.Sink.faults l.sink ≡ g.K.Sink.faults l.fn.sink;
}

abbrev pub decreases-loop-reply : goal.decreases-loop-reply
decreases-loop-reply g l = input_limit - l.lines.taken
