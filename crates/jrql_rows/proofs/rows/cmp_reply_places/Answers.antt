use Rattle.std.proofs.Common.{◌∙◌, sym, ap}
use Rattle.std.specs.Option.{option_and_then}
use Rattle.std.specs.Cmp.Lexicographic.{options_total}
use Rattle.rdf_terms.specs.ReplyLaws.{reply_total}
use Rattle.graph_index.specs.Numbered.{term_numbered}
use Rattle.jrql_ast.specs.QueryAnswers.{reply_place_cmp}
use Rattle.jrql_rows.proofs.Keeping.{compares_equal, same_number}
use Rattle.jrql_rows.proofs.rows.cmp_reply_places.Goals as goal

pub returns-then-eq : goal.returns-then-eq
returns-then-eq c =
    let term = option_and_then (term_numbered c.args.graph.now) in
    sym (compares_equal reply_place_cmp (options_total reply_total) (term c.args.number) (term c.args.other)
    (ap term (same_number c.args.number c.args.other (sym c.eq.ensures ∙ c.if-eq.true))))
