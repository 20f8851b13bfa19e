use Rattle.std.proofs.Common.{◌≡◌, ap, sym, ◌∙◌}
use Rattle.op_codec.proofs.Appending.{on_ok}
use Rattle.wire_frames.specs.Frames.{reply_kind}
use Rattle.wire_frames.proofs.WrittenFrames.{reply_written}
use Rattle.wire_frames.proofs.writing.append_reply.Goals as goal
use Rattle.wire_frames.proofs.writing.append_reply.Goals.{then-more, else-more}

pub returns-clause-ok : goal.returns-clause-ok
returns-clause-ok c =
    let kind : c.if-more.put_u8 ≡ reply_kind c.args.more = elim c.if-more.branch [
      | then-more w ↦ w.put_u8-is ∙ ap reply_kind (sym w.if-more.true)
      | else-more w ↦ w.put_u8-is ∙ ap reply_kind (sym w.if-more.false)
    ] in
    on_ok c.put_bytes.result
    (reply_written c.args.out.now.items c.put_u8.new.out.items c.put_bytes.new.out.items c.args.piece.now c.if-more.put_u8 c.args.more kind c.in_ok-put_u8.ensures.ok)
    c.put_bytes.ensures.ok
