use Rattle.single_value.proofs.Among.{among_tells}
use Rattle.single_value.proofs.breaches.is_among.Goals as goal

pub returns : goal.returns
returns c = among_tells c.args.iris.now c.args.iri.now c.contains.result c.contains.ensures.value
