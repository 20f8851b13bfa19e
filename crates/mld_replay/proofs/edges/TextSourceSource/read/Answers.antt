-- The bytes that were copied are the front of those that were left.
use Rattle.std.proofs.Common.{sym}
use Rattle.mld_io.proofs.Copies.{copied_front}
use Rattle.mld_replay.proofs.edges.TextSourceSource.read.Goals as goal

pub returns-clause-bytes : goal.returns-clause-bytes
returns-clause-bytes c =
    let all = c.self.inside.text.items in
    let is_all = c.deref.ensures.value in
    copied_front all c.self.inside.at c.copy_front-count.result c.args.self.now c.args.out.now c.copy_front-count.new.to
    (sym c.self.view_is) (rw is_all at c.copy_front-count.ensures.count) (rw is_all at c.copy_front-count.ensures.copied)
