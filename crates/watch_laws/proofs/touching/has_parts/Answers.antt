use Rattle.std.proofs.Common.{rules}
use Rattle.std.proofs.lemmas.Fn.{always_returns_same}
use Rattle.rdf_terms.specs.declared.terms.Triple.{Triple}
use Rattle.rdf_terms.specs.Order.{triple_cmp}
use Rattle.watch_laws.proofs.Members.{triple_found}
use Rattle.watch_laws.proofs.touching.has_parts.Goals as goal

pub returns : goal.returns
returns c =
    let wanted : Triple = record { s = c.args.s.now; p = c.args.p.now; o = c.args.o.now } in
    triple_found c.args.triples.now wanted c.binary_search_by.result c.is_ok.result c.requires c.binary_search_by.ensures.bound
    (c.binary_search_by.ensures.position (λ triple. triple_cmp triple wanted) (always_returns_same _ _ _ (λ a r f k. search rules)))
    c.is_ok.ensures.value
