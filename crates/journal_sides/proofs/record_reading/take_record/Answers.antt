use Rattle.std.proofs.Common.{◌<◌, ℕ, MatchResult, drop, length, sym, subst, arith}
use Rattle.tree_clock.specs.Limits.{path_limit}
use Rattle.std.proofs.lemmas.Result.{err_from_is_err_and}
use Rattle.op_codec.specs.Agreement.{IsRead, IsRefused}
use Rattle.op_codec.specs.Reading.{Reading, read_u8}
use Rattle.journal_sides.specs.RecordsRead.{TakesRecord}
use Rattle.journal_sides.specs.RecordBytes.{RecordValue}
use Rattle.journal_sides.proofs.RecordReading.{fork_taken, record_unknown, record_of_entry, record_refused}
use Rattle.journal_sides.proofs.record_reading.take_record.Goals as goal

pub returns-in_err-kind-clause-agrees : goal.returns-in_err-kind-clause-agrees
returns-in_err-kind-clause-agrees c head records shows =
    let p = err_from_is_err_and c.from_residual.result c.from_residual.ensures.1 in
    rw (p.1, p.2) (record_refused head records c.args.input.now c.args.at c.in_err-kind.field-0.0 c.in_err-kind.ensures)

pub returns-then-kind-eq-ENTRY_KIND-clause-agrees : goal.returns-then-kind-eq-ENTRY_KIND-clause-agrees
returns-then-kind-eq-ENTRY_KIND-clause-agrees c head records shows =
    let r = subst (λ (kind : ℕ). IsRead (read_u8 c.args.at (drop c.args.at c.args.input.now)) c.args.input.now kind c.in_ok-kind.next) c.if-kind-eq-ENTRY_KIND.true c.in_ok-kind.ensures in
    subst (λ (reading : Reading RecordValue). MatchResult c.take_entry.result (TakesRecord head records reading c.args.input.now c.take_entry.new.progress.entries.items c.take_entry.new.progress.path c.take_entry.new.progress.known.ticks) (IsRefused reading))
    (sym (record_of_entry head records c.args.input.now c.args.at c.in_ok-kind.next r)) (c.take_entry.ensures.agrees head records shows)

pub returns-then-kind-ne-FORK_KIND-clause-agrees : goal.returns-then-kind-ne-FORK_KIND-clause-agrees
returns-then-kind-ne-FORK_KIND-clause-agrees c head records shows =
    record_unknown head records c.args.input.now c.args.progress.now.entries.items c.args.progress.now.path c.args.progress.now.known.ticks shows c.args.at c.in_ok-kind.next c.in_ok-kind.kind c.in_ok-kind.ensures
    c.if-kind-eq-ENTRY_KIND.false (λ e. absurd (c.if-kind-ne-FORK_KIND.true e))

pub returns-then-len-eq-PATH_LIMIT-clause-agrees : goal.returns-then-len-eq-PATH_LIMIT-clause-agrees
returns-then-len-eq-PATH_LIMIT-clause-agrees c head records shows =
    record_unknown head records c.args.input.now c.args.progress.now.entries.items c.args.progress.now.path c.args.progress.now.known.ticks shows c.args.at c.in_ok-kind.next c.in_ok-kind.kind c.in_ok-kind.ensures
    c.if-kind-eq-ENTRY_KIND.false (λ e. omega (arith, c.len.ensures.value, c.if-len-eq-PATH_LIMIT.true))

pub returns-clause-agrees : goal.returns-clause-agrees
returns-clause-agrees c head records shows =
    let r = subst (λ (kind : ℕ). IsRead (read_u8 c.args.at (drop c.args.at c.args.input.now)) c.args.input.now kind c.in_ok-kind.next) c.if-kind-ne-FORK_KIND.false c.in_ok-kind.ensures in
    let room : length c.args.progress.now.path < path_limit = omega (arith, c.len.ensures.value, c.len.ensures.at_most, c.if-len-eq-PATH_LIMIT.false) in
    rw c.child-progress.ensures (fork_taken head records c.args.input.now c.args.progress.now.entries.items c.args.progress.now.path c.args.progress.now.known.ticks shows c.args.at c.in_ok-kind.next r room)
