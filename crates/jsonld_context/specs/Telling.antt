-- Faults that a call tells: that of a definition, or want of memory.
use Rattle.std.specs.Prelude.{◌≡◌, ◌≢◌, Option, None, Some, Result, Err, MatchResult}
use Rattle.jsonld_context.specs.declared.faults.JsonFault.{JsonFault}
use Rattle.jsonld_context.specs.declared.faults.JsonFault.TheVariants as faults

-- a fault is told that isn't want of memory only where a reading gives it
abbrev pub IsToldBy : {X : Type 0} → Result X JsonFault → JsonFault → Type 0
IsToldBy reading fault = fault ≢ faults.NoMemory → reading ≡ Err fault

-- the same of a test for faults
abbrev pub IsFaultOf : Option JsonFault → JsonFault → Type 0
IsFaultOf found fault = fault ≢ faults.NoMemory → found ≡ Some fault

-- what was read where there is no fault, and else the fault
abbrev pub IsReadAs : {X : Type 0} → Option JsonFault → X → Result X JsonFault → Type 0
IsReadAs found wanted reading = MatchResult reading (λ value. (found ≡ None) × (value ≡ wanted)) (IsFaultOf found)
