-- The blocks so far, each of an entry that has a spelling.
use Rattle.std.proofs.Common.{sym}
use Rattle.std.proofs.lemmas.List.{append-nil}
use Rattle.op_codec.specs.Stored.{IsStoredEntry}
use Rattle.op_codec.proofs.Shapes.{each_none, each_more, each_all}
use Rattle.journal_sides.proofs.WrittenLaws.{block_appended, blocks_appended}
use Rattle.journal_sides.proofs.head_writing.append_blocks.Goals as goal

pub loop-entry-init : goal.loop-entry-init
loop-entry-init c = record { items = sym (append-nil c.args.out.now.items); each = each_none IsStoredEntry c.args.entries.now }

pub loop-entry-preserved : goal.loop-entry-preserved
loop-entry-preserved c = record {
  items =
      block_appended c.args.entries.now c.loop-entry.entry-index c.entry-item.result c.args.out.now.items c.loop-entry.out.items c.put_u8.new.out.items c.append_record.new.out.items c.loop-entry-test.true c.entry-item.is c.loop-entry.invariant.items c.in_ok-put_u8.ensures.ok c.in_ok-append_record.ensures.ok;
  each = each_more IsStoredEntry c.args.entries.now c.loop-entry.entry-index c.entry-item.result c.loop-entry.invariant.each c.loop-entry-test.true c.entry-item.is c.in_ok-append_record.ensures.stored;
}

pub returns-clause-ok : goal.returns-clause-ok
returns-clause-ok c = blocks_appended c.args.entries.now c.loop-entry.entry-index c.args.out.now.items c.loop-entry.out.items c.loop-entry-test.false c.loop-entry.invariant.items

pub returns-clause-stored : goal.returns-clause-stored
returns-clause-stored c = each_all IsStoredEntry c.args.entries.now c.loop-entry.entry-index c.loop-entry-test.false c.loop-entry.invariant.each
