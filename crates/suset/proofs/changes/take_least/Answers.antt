use Rattle.std.proofs.Common.{sym, ◌∙◌}
use Rattle.suset.proofs.Filling.{takes_old, takes_added, takes_both}
use Rattle.suset.proofs.changes.take_least.Goals as goal

pub returns-in_ok-pop_front-in-Less-clause-some : goal.returns-in_ok-pop_front-in-Less-clause-some
returns-in_ok-pop_front-in-Less-clause-some c =
    takes_old c.args.old.now.items c.args.adds.now.items c.in_ok-pop_front-in-Less.field-0 c.pop_front.new.self.items c.requires.old c.requires.adds c.in_ok-pop_front-in-Less.ensures.items
    (sym c.cmp_fronts.ensures ∙ c.in-Less.is)

pub returns-in_ok-pop_front-in-Greater-clause-some : goal.returns-in_ok-pop_front-in-Greater-clause-some
returns-in_ok-pop_front-in-Greater-clause-some c =
    takes_added c.args.old.now.items c.args.adds.now.items c.in_ok-pop_front-in-Greater.field-0 c.pop_front-in-Greater.new.self.items c.requires.old c.requires.adds
    c.in_ok-pop_front-in-Greater.ensures.items (sym c.cmp_fronts.ensures ∙ c.in-Greater.is)

pub returns-in_ok-pop_front-in-Equal-clause-some : goal.returns-in_ok-pop_front-in-Equal-clause-some
returns-in_ok-pop_front-in-Equal-clause-some c =
    takes_both c.args.old.now.items c.args.adds.now.items c.in_ok-pop_front-in-Equal.field-0 c.pop_front-in-Equal.new.self.items c.pop_front-in-Equal-2.new.self.items c.requires.old c.requires.adds
    c.pop_front-in-Equal.ensures.rest c.in_ok-pop_front-in-Equal.ensures.items (sym c.cmp_fronts.ensures ∙ c.in-Equal.is)
