-- The faults of a clone, after those of what it holds and of its banks. The `From` of each fault cites it.
use Rattle.causal_buffer.specs.declared.faults.HeldFault.{HeldFault}
use Rattle.causal_buffer.specs.declared.faults.HeldFault.TheVariants as held
use Rattle.journal_store.specs.declared.faults.Why.{Why}
use Rattle.journal_store.specs.declared.faults.Why.TheVariants as why
use Rattle.clone_parts.specs.declared.faults.KeepFault.{KeepFault}
use Rattle.clone_parts.specs.declared.faults.KeepFault.TheVariants as keep
use Rattle.clone_parts.specs.declared.faults.ReceiveFault.{ReceiveFault}
use Rattle.clone_parts.specs.declared.faults.ReceiveFault.TheVariants as fault
use Rattle.jrql_eval.specs.declared.faults.EvalFault.{EvalFault}
use Rattle.jrql_eval.specs.declared.faults.EvalFault.TheVariants as eval
use Rattle.clone_parts.specs.declared.faults.QueryFault.{QueryFault}
use Rattle.clone_parts.specs.declared.faults.QueryFault.TheVariants as query
use Rattle.clone_parts.specs.declared.faults.UpdateFault.{UpdateFault}
use Rattle.clone_parts.specs.declared.faults.UpdateFault.TheVariants as update

-- why a message is refused whose entry can't be held
abbrev pub fault_of_held : HeldFault → ReceiveFault
fault_of_held held.Full = fault.HeldFull
fault_of_held held.NoMemory = fault.NoMemory

-- why an update is refused whose append was not done
abbrev pub update_fault_of : Why → UpdateFault
update_fault_of why.Device = update.Device
update_fault_of why.NoMemory = update.NoMemory

-- why a message is refused whose append or swap was not done
abbrev pub receive_fault_of : Why → ReceiveFault
receive_fault_of why.Device = fault.Device
receive_fault_of why.NoMemory = fault.NoMemory

-- why a journal was not compacted or truncated whose swap was not done
abbrev pub keep_fault_of : Why → KeepFault
keep_fault_of why.Device = keep.Device
keep_fault_of why.NoMemory = keep.NoMemory

-- why a query isn't answered whose solutions aren't given
abbrev pub query_fault_of : EvalFault → QueryFault
query_fault_of eval.TooMany = query.TooMany
query_fault_of eval.NoMemory = query.NoMemory

-- why an update is refused whose effect isn't given
abbrev pub update_fault_of_effect : EvalFault → UpdateFault
update_fault_of_effect eval.TooMany = update.TooMany
update_fault_of_effect eval.NoMemory = update.NoMemory
