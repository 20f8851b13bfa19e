use Rattle.jsonld_values.proofs.TypedParts.{whole_typed, whole_tagged}
use Rattle.jsonld_values.proofs.writing.write_literal.Goals as goal

pub returns-clause-ok : goal.returns-clause-ok
returns-clause-ok c = rw (← whole_typed c.args.literal.now c.lexical-2.result.now c.in-Some-datatype.datatype.now c.lexical-2.ensures c.in-Some-datatype.ensures) c.write_of_type.ensures.ok

pub returns-in-Some-clause-ok : goal.returns-in-Some-clause-ok
returns-in-Some-clause-ok c = rw (← whole_tagged c.args.literal.now c.lexical.result.now c.in-Some.tag.now c.lexical.ensures c.in-Some.ensures) c.write_value.ensures.ok
