use Rattle.std.proofs.Common.{◌∙◌, ◌++◌, take, filter_map, sym, ap, append_assoc}
use Rattle.std.specs.Option.{option_to_list}
use Rattle.jrql_ast.specs.Templates.{made_for}
use Rattle.jrql_ast.specs.Naming.{names_of}
use Rattle.jrql_ast.proofs.MadeLaws.{filter_map_more}
use Rattle.jrql_ast.proofs.making.add_all_made.Goals as goal

pub loop-template-preserved : goal.loop-template-preserved
loop-template-preserved c =
    let make = made_for (names_of c.args.solution.now) c.args.solution.now.row.now in
    let templates = c.args.templates.now in
    let i = c.loop-template.template-index in
    let template = c.template-item.result in
    c.in_ok-add_made.ensures
    ∙ ap (λ zs. zs ++ option_to_list c.in_ok-made_for.field-0) c.loop-template.invariant
    ∙ append_assoc c.args.triples.now.items (filter_map make (take i templates)) (option_to_list c.in_ok-made_for.field-0)
    ∙ ap (λ zs. c.args.triples.now.items ++ zs)
    (ap (λ o. filter_map make (take i templates) ++ option_to_list o) c.in_ok-made_for.ensures ∙ sym (filter_map_more make templates i template c.loop-template-test.true c.template-item.is))
