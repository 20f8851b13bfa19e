use Rattle.std.proofs.Common.{◌≡◌, None, sym, ◌∙◌, arith}
use Rattle.std.proofs.lemmas.List.{nil_from_length}
use Rattle.op_fusion.proofs.Merging.{some_left, some_right, some_both}
use Rattle.op_fusion.proofs.pairs.take_least.Goals as goal

pub returns-in-Less-clause-some : goal.returns-in-Less-clause-some
returns-in-Less-clause-some c =
    some_left c.args.left.now.items c.args.right.now.items c.pop_front.new.self.items c.pop_front.result c.pop_front.ensures.items c.requires.left c.requires.right (sym c.cmp_first.ensures ∙ c.in-Less.is)

pub returns-in-Greater-clause-some : goal.returns-in-Greater-clause-some
returns-in-Greater-clause-some c =
    some_right c.args.left.now.items c.args.right.now.items c.pop_front-in-Greater.new.self.items c.pop_front-in-Greater.result c.pop_front-in-Greater.ensures.items c.requires.left c.requires.right
    (sym c.cmp_first.ensures ∙ c.in-Greater.is)

pub returns-in-Equal-clause-some : goal.returns-in-Equal-clause-some
returns-in-Equal-clause-some c =
    some_both c.args.left.now.items c.args.right.now.items c.pop_front-in-Equal-2.new.self.items c.pop_front-in-Equal.new.self.items c.pop_front-in-Equal-2.result c.pop_front-in-Equal.result
    c.pop_front-in-Equal-2.ensures.items c.pop_front-in-Equal.ensures.items c.requires.left c.requires.right (sym c.cmp_first.ensures ∙ c.in-Equal.is)
    (λ (e : c.pop_front-in-Equal.result ≡ None). let h = rw e at c.pop_front-in-Equal.ensures.cases in nil_from_length c.args.right.now.items (omega arith))
