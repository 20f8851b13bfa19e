use Rattle.std.proofs.Common.{◌≡◌, ◌∙◌, sym, ap}
use Rattle.mld_ops.specs.Messages.{SnapshotValue}
use Rattle.clone_parts.proofs.begun.begun_with.Goals as goal

pub from_pairs-requires : goal.from_pairs-requires
from_pairs-requires c = c.requires.ascending

pub returns : goal.returns
returns c =
    let same = c.in_ok-base.ensures.copy in
    let ticks : c.in_ok-base.base.clock.ticks ≡ c.args.snapshot.now.clock.ticks = ap (λ (s : SnapshotValue). s.ticks) same in
    let pairs : c.in_ok-base.base.tagged ≡ c.args.snapshot.now.tagged = ap (λ (s : SnapshotValue). s.pairs) same in
    record {
      base = same;
      clock = c.in_ok-clock.ensures.ok ∙ sym ticks;
      pairs = c.in_ok-pairs.ensures ∙ sym pairs;
      is_clock = c.in_ok-base.ensures.clock;
    }
