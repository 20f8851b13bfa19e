use Rattle.std.proofs.Common.{List, ℕ, true, sym, subst, arith}
use Rattle.op_codec.proofs.Appending.{on_ok, on_err}
use Rattle.rdf_terms.specs.Kept.{KeepsStart}
use Rattle.rdf_terms.proofs.Appending.{keeps_on}
use Rattle.wire_frames.specs.declared.kinds.Frame.TheVariants.{Reply}
use Rattle.wire_frames.specs.Frames.{frame_bytes}
use Rattle.wire_frames.proofs.PartFrames.{keeps_past, replies_on, replies_done}
use Rattle.wire_frames.proofs.replies.append_replies.Goals as goal

pub loop-rest-preserved : goal.loop-rest-preserved
loop-rest-preserved c =
    let more = c.loop-rest-test.true in
    let behind = c.split_at.ensures.back_len in
    record {
      kept =
          subst (λ (l : List ℕ). KeepsStart c.args.out.now.items l) (sym c.in_ok-append_reply.ensures.ok)
          (keeps_on c.args.out.now.items c.loop-rest.out.items (frame_bytes (Reply c.split_at.result.0.now true)) c.loop-rest.invariant.kept);
      low = omega arith;
      whole =
          replies_on c.args.out.now.items c.args.text.now c.loop-rest.rest.now c.loop-rest.out.items c.split_at.result.0.now c.split_at.result.1.now c.append_reply.new.out.items c.loop-rest.invariant.whole more
          c.split_at.ensures.front c.split_at.ensures.back c.in_ok-append_reply.ensures.ok;
    }

pub returns-clause-ok : goal.returns-clause-ok
returns-clause-ok c =
    on_ok c.append_reply-2.result
    (replies_done c.args.out.now.items c.args.text.now c.loop-rest.rest.now c.loop-rest.out.items c.append_reply-2.new.out.items c.loop-rest.invariant.whole c.loop-rest-test.false c.loop-rest.invariant.low)
    c.append_reply-2.ensures.ok

pub returns-clause-err : goal.returns-clause-err
returns-clause-err c =
    on_err c.append_reply-2.result (keeps_past c.args.out.now.items c.loop-rest.out.items c.append_reply-2.new.out.items c.loop-rest.invariant.kept) c.append_reply-2.ensures.err
