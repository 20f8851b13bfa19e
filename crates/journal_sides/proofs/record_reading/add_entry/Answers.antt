use Rattle.std.proofs.Common.{ap, ◌∙◌}
use Rattle.mld_ops.specs.Ready.{last_dot}
use Rattle.tree_clock.specs.Clock.{ticks_of}
use Rattle.tree_clock.specs.declared.dots.Range.{Range}
use Rattle.journal_sides.specs.RecordBytes.{raised_to}
use Rattle.journal_sides.proofs.RecordReading.{shows_entry}
use Rattle.journal_sides.proofs.record_reading.add_entry.Goals as goal

pub returns : goal.returns
returns c head records shows =
    rw c.in_ok-push.ensures.items (shows_entry head records c.args.progress.now.entries.items c.args.progress.now.path c.args.progress.now.known.ticks c.raise_to.new.clock.ticks c.args.entry shows
    (λ other. c.in_ok-raise_to.ensures other ∙ ap (λ (range : Range). ticks_of (raised_to c.args.progress.now.known.ticks (last_dot range)) other) c.range.ensures.value))
