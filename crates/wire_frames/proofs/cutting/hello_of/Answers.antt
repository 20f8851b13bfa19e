use Rattle.std.proofs.Common.{get_or, refl, ◌∙◌, arith}
use Rattle.wire_frames.proofs.Payloads.{no_domain, long_hello, raw_hello, hello_read}
use Rattle.wire_frames.proofs.cutting.hello_of.Goals as goal

pub returns-in_default : goal.returns-in_default
returns-in_default c = no_domain c.args.payload.now c.in_default.ensures.none

pub returns-then-stop-payload : goal.returns-then-stop-payload
returns-then-stop-payload c = long_hello c.args.payload.now c.in-Ok.start c.in-Ok.stop c.in-Ok.ensures.piece c.if-stop-payload.true

pub returns-in_default-from_utf8 : goal.returns-in_default-from_utf8
returns-in_default-from_utf8 c = raw_hello c.args.payload.now c.in-Ok.start c.in-Ok.stop c.in-Ok.ensures.piece c.in_default-from_utf8.ensures.cases.0

pub returns : goal.returns
returns c =
    let text = c.in-Ok-from_utf8.ensures.cases in
    hello_read c.args.payload.now c.from_bytes.result c.in_ok-domain.domain (get_or c.args.payload.now 0 0) c.in-Ok.start c.in-Ok.stop c.requires c.if-payload-lt-ID_END.false c.in-Ok.ensures.piece c.if-stop-payload.false
    text.1 (omega (arith, c.type_inv.payload 0)) refl (c.from_bytes.ensures ∙ c.copy_from_slice.ensures.after) (c.in_ok-domain.ensures ∙ text.0)
