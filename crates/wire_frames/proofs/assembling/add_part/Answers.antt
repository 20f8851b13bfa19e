use Rattle.std.proofs.Common.{inl, refl, sym, ◌∙◌, arith}
use Rattle.std.proofs.lemmas.Bool.{true≢false}
use Rattle.std.proofs.lemmas.Result.{err_from_is_err_and}
use Rattle.wire_frames.specs.Assemblies.{state_value}
use Rattle.wire_frames.proofs.Spelled.{refused_part}
use Rattle.wire_frames.proofs.assembling.add_part.Goals as goal

pub returns-then-not-is_next : goal.returns-then-not-is_next
returns-then-not-is_next c = (inl (λ h. true≢false (sym (c.is_next_part-is_next.ensures.1 h) ∙ c.if-not-is_next.true)), refl)

pub returns-in_err-extend_from_slice : goal.returns-in_err-extend_from_slice
returns-in_err-extend_from_slice c =
    let p = err_from_is_err_and c.from_residual.result c.from_residual.ensures.1 in rw (p.1, p.2) refl

pub returns-in_err-message : goal.returns-in_err-message
returns-in_err-message c =
    let p = err_from_is_err_and c.from_residual-in_err-message.result c.from_residual-in_err-message.ensures.1 in
    let next = c.is_next_part-is_next.ensures.0 c.if-not-is_next.false in
    let one_of = next.one_of in
    let last = c.if-index-count.false in
    rw (p.1, p.2)
    (refused_part (state_value c.args.state.now) c.args.number c.args.index c.args.count c.args.piece.now c.as_slice.result.now c.in_err-message.field-0.0 _ next (omega arith)
    (c.as_slice.ensures.value ∙ c.in_ok-extend_from_slice.ensures.items) c.in_err-message.ensures refl)
