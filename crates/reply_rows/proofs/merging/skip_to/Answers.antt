use Rattle.reply_rows.proofs.MergingLaws.{skipped}
use Rattle.reply_rows.proofs.merging.skip_to.Goals as goal

pub returns-clause-skips : goal.returns-clause-skips
returns-clause-skips c =
    skipped c.args.row.now c.args.rest.now.items c.args.kept.now.items c.move_rows.new.rest.items c.move_rows.new.kept.items c.place_of-count.result c.place_of-count.ensures
    c.move_rows.ensures.rest c.move_rows.ensures.kept
