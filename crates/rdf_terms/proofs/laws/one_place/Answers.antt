use Rattle.rdf_terms.proofs.OnePlace.{one_place_only}
use Rattle.rdf_terms.proofs.laws.one_place.Goals as goal

pub returns : goal.returns
returns c = one_place_only
