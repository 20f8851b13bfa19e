use Rattle.std.proofs.Common.{◌≡◌, rules}
use Rattle.clone_core.proofs.Taking.{lacks_more, has_item}
use Rattle.clone_core.proofs.clones.entry_in.Goals as goal

pub returns-then-eq : goal.returns-then-eq
returns-then-eq c = record {
  stands = has_item c.args.entries.now c.loop-entry.entry-index c.entry-item.result c.loop-entry-test.true c.entry-item.is;
  same = let same : c.entry-item.result.range ≡ c.args.range.now = search rules in same;
}

pub loop-entry-preserved : goal.loop-entry-preserved
loop-entry-preserved c =
    lacks_more c.args.entries.now c.args.range.now c.loop-entry.entry-index c.entry-item.result c.loop-entry-test.true c.entry-item.is c.loop-entry.invariant (λ same. search rules)
