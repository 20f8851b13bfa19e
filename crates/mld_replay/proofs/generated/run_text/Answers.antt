use Rattle.std.proofs.Common.{Some, ap}
use Rattle.mld_replay.proofs.GeneratedLemmas.{within_of, heeds_as}
use Rattle.mld_replay.proofs.generated.run_text.Goals as goal

pub returns-clause-within : goal.returns-clause-within
returns-clause-within g c = within_of c.run_replay.result.fault c.run_replay.ensures.known c.run_replay.ensures.counts

pub returns-clause-ends : goal.returns-clause-ends
returns-clause-ends g c = (_, c.run_replay.ensures.ends c.args.text.items (ap Some c.new-source.ensures))

pub returns-clause-filled : goal.returns-clause-filled
returns-clause-filled g c = heeds_as g.B.Banks.log c.args.banks.items c.run_replay.result.banks.items c.run_replay.result.fault _ (Unit {0}) (λ _. tt) c.run_replay.ensures.filled

pub returns-clause-exact : goal.returns-clause-exact
returns-clause-exact g c = λ outcome verdict. c.run_replay.ensures.exact c.args.text.items (ap Some c.new-source.ensures) outcome verdict
