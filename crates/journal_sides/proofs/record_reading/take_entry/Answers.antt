use Rattle.std.proofs.Common.{sym, ◌∙◌}
use Rattle.std.proofs.lemmas.Bool.{true≢false}
use Rattle.journal_sides.proofs.RecordReading.{entry_taken, entry_unready}
use Rattle.journal_sides.proofs.record_reading.take_entry.Goals as goal

pub returns-then-not-is_ready-clause-agrees : goal.returns-then-not-is_ready-clause-agrees
returns-then-not-is_ready-clause-agrees c head records shows =
    entry_unready head records c.args.input.now c.args.progress.now.entries.items c.args.progress.now.path c.args.progress.now.known.ticks shows c.args.at c.in_ok-entry.end c.in_ok-entry.entry
    c.in_ok-entry.ensures.agrees c.in_ok-entry.ensures.written.value_is (λ ready. true≢false (sym (c.is_ready.ensures.1 ready) ∙ c.if-not-is_ready.true))

pub returns-clause-agrees : goal.returns-clause-agrees
returns-clause-agrees c head records shows =
    entry_taken head records c.args.input.now c.args.progress.now.entries.items c.args.progress.now.path c.args.progress.now.known.ticks shows c.args.at c.in_ok-entry.end c.in_ok-entry.entry
    c.add_entry.new.progress.entries.items c.add_entry.new.progress.path c.add_entry.new.progress.known.ticks
    c.in_ok-entry.ensures.agrees c.in_ok-entry.ensures.written.value_is (c.is_ready.ensures.0 c.if-not-is_ready.false) (c.in_ok-add_entry.ensures head records shows)
