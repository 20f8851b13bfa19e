-- The bytes that were copied are the front of those that were left.
use Rattle.std.proofs.Common.{ap, sym}
use Rattle.mld_io.specs.Memory.{SourceValue}
use Rattle.mld_io.proofs.Copies.{copied_front}
use Rattle.mld_io.proofs.memory.MemorySourceSource.read.Goals as goal

pub returns-clause-bytes : goal.returns-clause-bytes
returns-clause-bytes c =
    let all = c.self.inside.bytes.items in
    let is_all = c.deref-2.ensures.value in
    copied_front all c.self.inside.at c.copy_front-count.result c.args.self.now.left c.args.out.now c.copy_front-count.new.to
    (ap (λ (s : SourceValue). s.left) (sym c.self.view_is)) (rw is_all at c.copy_front-count.ensures.count) (rw is_all at c.copy_front-count.ensures.copied)
