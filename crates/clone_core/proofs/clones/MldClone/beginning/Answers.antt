use Rattle.journal_sides.specs.Heads.{head_value}
use Rattle.clone_core.proofs.Begun.{begun_local}
use Rattle.clone_core.proofs.clones.MldClone.beginning.Goals as goal

pub found-requires-clause-local : goal.found-requires-clause-local
found-requires-clause-local g c =
    begun_local (head_value c.args.head) c.args.leaf (record { clock = c.args.clock; entries = c.new.result; pairs = c.args.pairs })
    c.requires.named c.requires.base_clock c.requires.base c.requires.clock c.requires.pairs c.new.ensures.items
