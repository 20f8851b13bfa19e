use Rattle.single_value.proofs.Neighbours.{first_tells}
use Rattle.single_value.proofs.values.has_other.Goals as goal

pub returns-in-Some : goal.returns-in-Some
returns-in-Some c =
    first_tells c.args.triple.now c.in-Some.next.now c.args.behind.now c.is_value_beside.result c.requires c.in-Some.ensures.value c.is_value_beside.ensures
