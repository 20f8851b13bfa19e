use Rattle.std.proofs.Common.{◌≡◌, ◌∙◌, ◌++◌, ◌∷◌, ◌<◌, ℕ, [], List, length, ap, arith}
use Rattle.number_tables.proofs.PathLookups.{ascend_prepared, paths_pushed, path_pushed}
use Rattle.number_tables.proofs.path_table.add.Goals as goal

pub insert-requires-clause-order : goal.insert-requires-clause-order
insert-requires-clause-order c =
    let pushed = c.push_reserved.ensures.items ∙ ap (λ (l : List (List ℕ)). l ++ c.args.path.now ∷ []) c.in_ok-reserve.ensures.items in
    ascend_prepared c.args.paths.now.items c.push_reserved.new.self.items c.args.path.now c.args.places.now.elements c.prepare.new.self.elements c.prepare.new.self.elements
    c.len-count.result c.requires.is pushed c.in_ok-prepare.ensures.elements

pub returns-clause-is : goal.returns-clause-is
returns-clause-is c =
    let pushed = c.push_reserved.ensures.items ∙ ap (λ (l : List (List ℕ)). l ++ c.args.path.now ∷ []) c.in_ok-reserve.ensures.items in
    let number : c.len-count.result ≡ length c.args.paths.now.items = omega (arith, c.len-count.ensures) in
    let few : length c.args.paths.now.items < 4294967295 = omega (arith, c.len-count.ensures, c.if-count-ge-PATHS_LIMIT.false) in
    paths_pushed c.args.paths.now.items c.push_reserved.new.self.items c.args.path.now c.args.places.now.elements c.prepare.new.self.elements c.insert.new.self.elements
    c.len-count.result c.requires.is pushed c.in_ok-prepare.ensures.elements c.requires.absent few number c.insert.ensures.ascending c.insert.ensures.members

pub returns-clause-number : goal.returns-clause-number
returns-clause-number c =
    let pushed = c.push_reserved.ensures.items ∙ ap (λ (l : List (List ℕ)). l ++ c.args.path.now ∷ []) c.in_ok-reserve.ensures.items in
    let number : c.len-count.result ≡ length c.args.paths.now.items = omega (arith, c.len-count.ensures) in
    path_pushed c.args.paths.now.items c.push_reserved.new.self.items c.args.path.now c.args.places.now.elements c.prepare.new.self.elements c.insert.new.self.elements
    c.len-count.result c.requires.is pushed c.in_ok-prepare.ensures.elements (returns-clause-is c) number
