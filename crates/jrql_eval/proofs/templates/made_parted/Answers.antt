use Rattle.std.proofs.Common.{◌∙◌, List, ap, rules}
use Rattle.jrql_rows.specs.jrql_ast.declared.patterns.PatternTriple.{PatternTriple}
use Rattle.jrql_rows.specs.jrql_ast.FreshNames.{fresh_name}
use Rattle.jrql_rows.specs.jrql_ast.Templates.{made_from}
use Rattle.jrql_eval.proofs.MadeOnce.{made_in_parts}
use Rattle.jrql_eval.proofs.templates.made_parted.Goals as goal

pub returns : goal.returns
returns c =
    let names = fresh_name c.args.domain.now c.args.dot.now c.args.fresh in
    let rows = c.args.rows.now in
    made_in_parts names c.args.templates.now c.in_ok-constant.constant.items c.in_ok-constant.others.items rows c.in_ok-triples.triples.items c.in_ok-once.once.items
    c.append.new.self.items
    c.in_ok-constant.ensures.constant
    c.in_ok-constant.ensures.others
    (c.in_ok-triples.ensures ∙ ap (λ (templates : List PatternTriple). made_from names templates 0 rows) c.deref.ensures.value)
    (search rules)
    (search rules)
