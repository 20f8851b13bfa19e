-- What a fault of an evaluation is for a watch. The private conversion cites it.
use Rattle.jrql_eval.specs.declared.faults.EvalFault.{EvalFault}
use Rattle.jrql_eval.specs.declared.faults.EvalFault.TheVariants as evals
use Rattle.watch_laws.specs.declared.faults.LiveFault.{LiveFault}
use Rattle.watch_laws.specs.declared.faults.LiveFault.TheVariants as faults

abbrev pub live_fault_of : EvalFault → LiveFault
live_fault_of evals.TooMany = faults.TooMany
live_fault_of evals.NoMemory = faults.NoMemory
