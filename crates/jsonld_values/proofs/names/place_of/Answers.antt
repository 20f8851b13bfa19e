use Rattle.rdf_terms.specs.Literal.{is_same}
use Rattle.jsonld_values.proofs.Naming.{found_place}
use Rattle.jsonld_values.proofs.names.place_of.Goals as goal

pub returns : goal.returns
returns c = found_place (is_same c.args.name.now) c.args.named.now.keys c.get_index_of.result c.get_index_of.ensures.index c.get_index_of.ensures.found
