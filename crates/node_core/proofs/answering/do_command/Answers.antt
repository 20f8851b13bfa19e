use Rattle.std.proofs.Common.{◌≡◌, ◌≤◌, ℕ, List, length, sym, ap, subst}
use Rattle.mld_ops.specs.Entry.{EntryValue}
use Rattle.node_model.specs.shell_session.ShellStep.{LiveStep}
use Rattle.node_model.specs.shell_session.LiveCalls.{CloneAnswers}
use Rattle.wire_frames.specs.Frames.{frames_bytes}
use Rattle.wire_frames.specs.MessageParts.{reply_parts}
use Rattle.node_model.specs.Exchanges.{saying}
use Rattle.node_core.proofs.CallLaws.{on_err, command_puts, command_text, command_goes, command_stops}
use Rattle.node_core.proofs.answering.do_command.Goals as goal

pub tell_made-requires : goal.tell_made-requires
tell_made-requires g c =
    let old = c.args.clone.now in
    let new = c.do_live.new.clone in
    let text = c.do_live.new.out.items in
    let does = subst (λ (front : List ℕ). CloneAnswers g.B.Banks.log g.B.Banks.meter (LiveStep old.generation old.local c.args.command.now) old front new text)
    c.new-text.ensures.items c.in_ok-do_live.ensures.done in
    command_puts g.B.Banks.log g.B.Banks.meter old new c.args.command.now text (length c.journal-kept.result.now)
    (ap (λ (entries : List EntryValue). length entries) c.journal-kept.ensures) does

pub returns-in_err-tell_made-clause-stopped : goal.returns-in_err-tell_made-clause-stopped
returns-in_err-tell_made-clause-stopped g c =
    let old = c.args.clone.now in
    let new = c.do_live.new.clone in
    let text = c.do_live.new.out.items in
    let does = subst (λ (front : List ℕ). CloneAnswers g.B.Banks.log g.B.Banks.meter (LiveStep old.generation old.local c.args.command.now) old front new text)
    c.new-text.ensures.items c.in_ok-do_live.ensures.done in
    on_err c.from_residual-in_err-tell_made.result (command_stops g.B.Banks.log g.B.Banks.meter old new c.args.command.now text does)

pub say_reply-requires : goal.say_reply-requires
say_reply-requires g c =
    let old = c.args.clone.now in
    let new = c.do_live.new.clone in
    let text = c.do_live.new.out.items in
    let does = subst (λ (front : List ℕ). CloneAnswers g.B.Banks.log g.B.Banks.meter (LiveStep old.generation old.local c.args.command.now) old front new text)
    c.new-text.ensures.items c.in_ok-do_live.ensures.done in
    subst (λ (bytes : List ℕ). 1 ≤ length bytes) (sym c.as_slice.ensures.value)
    (command_text g.B.Banks.log g.B.Banks.meter old new c.args.command.now text does)

pub returns-in_err-say_reply-clause-stopped : goal.returns-in_err-say_reply-clause-stopped
returns-in_err-say_reply-clause-stopped g c =
    let old = c.args.clone.now in
    let new = c.do_live.new.clone in
    let text = c.do_live.new.out.items in
    let does = subst (λ (front : List ℕ). CloneAnswers g.B.Banks.log g.B.Banks.meter (LiveStep old.generation old.local c.args.command.now) old front new text)
    c.new-text.ensures.items c.in_ok-do_live.ensures.done in
    on_err c.from_residual-in_err-say_reply.result (command_stops g.B.Banks.log g.B.Banks.meter old new c.args.command.now text does)

pub returns-clause-done : goal.returns-clause-done
returns-clause-done g c =
    let old = c.args.clone.now in
    let new = c.do_live.new.clone in
    let text = c.do_live.new.out.items in
    let middle = c.tell_made.new.exchange in
    let after = c.say_reply.new.exchange in
    let does = subst (λ (front : List ℕ). CloneAnswers g.B.Banks.log g.B.Banks.meter (LiveStep old.generation old.local c.args.command.now) old front new text)
    c.new-text.ensures.items c.in_ok-do_live.ensures.done in
    command_goes g.B.Banks.log g.B.Banks.meter old new c.args.command.now text (length c.journal-kept.result.now) c.args.number c.args.exchange.now middle after
    (ap (λ (entries : List EntryValue). length entries) c.journal-kept.ensures) does c.in_ok-tell_made.ensures
    (subst (λ (bytes : List ℕ). after ≡ saying c.args.number (frames_bytes (reply_parts bytes)) middle) c.as_slice.ensures.value c.in_ok-say_reply.ensures)
