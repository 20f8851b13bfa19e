use Rattle.op_fusion.proofs.FusedNets as laws
use Rattle.op_fusion.proofs.laws.fused_nets.Goals as goal

pub returns-clause-one : goal.returns-clause-one
returns-clause-one c = laws.one_fused

pub returns-clause-net : goal.returns-clause-net
returns-clause-net c = laws.fused_nets_are_net

pub returns-clause-time : goal.returns-clause-time
returns-clause-time c = laws.fused_time_is_second
