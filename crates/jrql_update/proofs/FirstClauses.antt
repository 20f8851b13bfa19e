-- The fault of the first of what is left to be read is that of the whole.
use Rattle.std.proofs.Common.{◌≡◌, ◌∙◌, Result, sym, ap}
use Rattle.jsonld_context.specs.Telling.{IsToldBy}
use Rattle.jsonld_context.specs.declared.faults.JsonFault.{JsonFault}
use Rattle.jrql_patterns.specs.jsonld_values.Literals.{followed_by}

pub first_told : {X Y : Type 0} (read : Result X JsonFault) (next : X → Result Y JsonFault) (whole : Result Y JsonFault) (fault : JsonFault)
    → followed_by read next ≡ whole → IsToldBy read fault → IsToldBy whole fault
first_told read next whole fault same told = λ named. sym same ∙ ap (λ r. followed_by r next) (told named)
