use Rattle.std.proofs.Common.{◌∙◌, ◌+◌, ◌/◌, List, Some, length, Less, Equal, Greater, rules, ap, sym, subst}
use Rattle.std.proofs.lemmas.List.{take_rest}
use Rattle.jsonld_context.specs.Context.{AscendByName, find_term}
use Rattle.jsonld_context.specs.declared.definitions.Definition.{Definition}
use Rattle.jsonld_context.proofs.Halves.{taken_ascend, dropped_ascend, middle_within, compared, found_behind, found_before, found_here}
use Rattle.jsonld_context.proofs.expanding.+find_term.Goals as goal

pub find_term-requires : goal.find_term-requires
find_term-requires t c =
    let terms = c.args.terms.now in
    let k = length terms / 2 + 1 in
    (search rules, subst (λ (left : List Definition). AscendByName left) (sym (take_rest terms k)) (dropped_ascend terms k c.requires.1.1))

pub find_term-requires-in-Greater : goal.find_term-requires-in-Greater
find_term-requires-in-Greater t c = (search rules, taken_ascend c.args.terms.now (length c.args.terms.now / 2) c.requires.1.1)

pub returns-in-Less : goal.returns-in-Less
returns-in-Less t c =
    let terms = c.args.terms.now in
    let k = length terms / 2 in
    let name = c.args.name.now in
    let d = c.index-terms-middle.result in
    let less = compared name d terms k c.as_str.result.now c.cmp.result Less c.index-terms-middle.is c.as_str.ensures c.cmp.ensures c.in-Less.is in
    c.find_term.ensures
    ∙ (ap (λ left. find_term left name) (take_rest terms (k + 1))
    ∙ found_behind name d terms k (middle_within (length terms) c.is_empty.result c.is_empty.ensures c.if-is_empty.false) c.requires.1.1 less)

pub returns-in-Equal : goal.returns-in-Equal
returns-in-Equal t c =
    let terms = c.args.terms.now in
    let k = length terms / 2 in
    let name = c.args.name.now in
    let d = c.index-terms-middle.result in
    let equal = compared name d terms k c.as_str.result.now c.cmp.result Equal c.index-terms-middle.is c.as_str.ensures c.cmp.ensures c.in-Equal.is in
    ap Some c.index-terms-middle.is
    ∙ sym (found_here name d terms k (middle_within (length terms) c.is_empty.result c.is_empty.ensures c.if-is_empty.false) c.requires.1.1 equal)

pub returns-in-Greater : goal.returns-in-Greater
returns-in-Greater t c =
    let terms = c.args.terms.now in
    let k = length terms / 2 in
    let name = c.args.name.now in
    let d = c.index-terms-middle.result in
    let greater = compared name d terms k c.as_str.result.now c.cmp.result Greater c.index-terms-middle.is c.as_str.ensures c.cmp.ensures c.in-Greater.is in
    c.find_term-in-Greater.ensures
    ∙ found_before name d terms k (middle_within (length terms) c.is_empty.result c.is_empty.ensures c.if-is_empty.false) c.requires.1.1 greater
