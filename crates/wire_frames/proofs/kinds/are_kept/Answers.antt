-- An id has 16 bytes, and a Hello fits a frame.
use Rattle.std.proofs.Common.{◌≡◌, ◌∙◌, ap, subst, sym, length, rules}
use Rattle.std.specs.Str.{IsUtf8}
use Rattle.wire_frames.proofs.HelloLaws.{hello_fits}
use Rattle.wire_frames.proofs.kinds.are_kept.Goals as goal

pub returns-clause-id : goal.returns-clause-id
returns-clause-id c = let long : 16 ≡ length c.into_bytes-bytes.result = search rules in ap length (sym c.into_bytes-bytes.ensures) ∙ sym long

pub returns-clause-hello : goal.returns-clause-hello
returns-clause-hello c is =
    let long : 16 ≡ length c.into_bytes-bytes.result = search rules in
    let text = subst IsUtf8 c.as_str-text.ensures c.as_str-text.utf8 in
    hello_fits c.args.id.now c.args.text.now (ap length (sym c.into_bytes-bytes.ensures) ∙ sym long) text is
