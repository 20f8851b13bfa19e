-- The bytes that were given are the front of those that were there.
use Rattle.std.proofs.Common.{sym, ◌∙◌}
use Rattle.mld_io.proofs.Ahead.{one_given, some_given}
use Rattle.mld_io.proofs.read_ahead.ReadAhead.give.Goals as goal

pub returns-then-self-clause-bytes : goal.returns-then-self-clause-bytes
returns-then-self-clause-bytes c =
    let ahead = c.self.inside in
    sym c.self.view_is ∙ one_given ahead.room c.args.out.now ahead.begin ahead.end c.if-out-eq1.true c.if-self.true c.self.invariant.1

pub returns-clause-bytes : goal.returns-clause-bytes
returns-clause-bytes c =
    let ahead = c.self.inside in
    sym c.self.view_is ∙ some_given ahead.room c.args.out.now c.copy_front-count.new.to ahead.begin ahead.end _ c.copy_front-count.ensures.count c.copy_front-count.ensures.copied
