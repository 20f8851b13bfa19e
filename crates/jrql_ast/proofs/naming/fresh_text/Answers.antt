use Rattle.jrql_ast.proofs.naming.fresh_text.Goals as goal

pub returns : goal.returns
returns c = c.format.ensures.ok
