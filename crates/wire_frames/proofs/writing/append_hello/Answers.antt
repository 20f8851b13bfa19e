use Rattle.std.proofs.Common.{ap, ◌+◌, ℕ, ◌∙◌}
use Rattle.op_codec.proofs.Appending.{on_ok}
use Rattle.wire_frames.proofs.WrittenFrames.{hello_written}
use Rattle.wire_frames.proofs.writing.append_hello.Goals as goal

pub returns-clause-ok : goal.returns-clause-ok
returns-clause-ok c =
    on_ok c.put_bytes.result
    (λ last.
    hello_written c.args.out.now.items c.put_u8.new.out.items c.put_u32.new.out.items c.put_u8-2.new.out.items c.append_id.new.out.items c.put_bytes.new.out.items c.args.format (21 + c.len.result) c.args.id.now c.args.domain.now c.as_bytes.result.now c.requires
    (ap (λ (n : ℕ). 21 + n) c.len.ensures) (c.as_bytes.ensures.value ∙ c.as_str.ensures) c.in_ok-put_u8.ensures.ok c.in_ok-put_u32.ensures.ok c.in_ok-put_u8-2.ensures.ok c.in_ok-append_id.ensures.ok last)
    c.put_bytes.ensures.ok
