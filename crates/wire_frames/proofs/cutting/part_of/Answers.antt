use Rattle.std.proofs.Common.{ℕ, List, ◌∙◌, refl, sym, subst, arith}
use Rattle.std.proofs.lemmas.List.{take_rest}
use Rattle.mld_bytes.proofs.Numbers.{length-u32_bytes}
use Rattle.wire_frames.specs.FrameReading.{IsFrameOf}
use Rattle.wire_frames.specs.declared.kinds.Frame.TheVariants.{Part}
use Rattle.wire_frames.proofs.Payloads.{short_part, part_read}
use Rattle.wire_frames.proofs.cutting.part_of.Goals as goal

pub returns-in_default-take_u32 : goal.returns-in_default-take_u32
returns-in_default-take_u32 c =
    let at = c.in-Ok.ensures.number.next_is in
    let x = length-u32_bytes c.in-Ok.number in
    let few = c.in_default-take_u32.ensures.short.0 refl in
    short_part c.args.payload.now (omega arith)

pub returns-in_default-take_u32-2 : goal.returns-in_default-take_u32-2
returns-in_default-take_u32-2 c =
    let at = c.in-Ok.ensures.number.next_is in
    let next = c.in-Ok-take_u32.ensures.number.next_is in
    let x = length-u32_bytes c.in-Ok.number in
    let y = length-u32_bytes c.in-Ok-take_u32.index in
    let few = c.in_default-take_u32-2.ensures.short.0 refl in
    short_part c.args.payload.now (omega arith)

pub returns-then-start-payload : goal.returns-then-start-payload
returns-then-start-payload c =
    let at = c.in-Ok.ensures.number.next_is in
    let next = c.in-Ok-take_u32.ensures.number.next_is in
    let start = c.in-Ok-take_u32-2.ensures.number.next_is in
    let x = length-u32_bytes c.in-Ok.number in
    let y = length-u32_bytes c.in-Ok-take_u32.index in
    let z = length-u32_bytes c.in-Ok-take_u32-2.count in
    let end = c.if-start-payload.true in
    short_part c.args.payload.now (omega arith)

pub returns : goal.returns
returns c =
    subst (λ (piece : List ℕ). IsFrameOf 2 c.args.payload.now (Part c.in-Ok.number c.in-Ok-take_u32.index c.in-Ok-take_u32-2.count piece))
    (sym (c.in_ok-piece.ensures ∙ take_rest c.args.payload.now c.in-Ok-take_u32-2.start))
    (part_read c.args.payload.now c.in-Ok.number c.in-Ok-take_u32.index c.in-Ok-take_u32-2.count c.in-Ok.at c.in-Ok-take_u32.next c.in-Ok-take_u32-2.start c.requires
    c.in-Ok.ensures.number c.in-Ok-take_u32.ensures.number c.in-Ok-take_u32-2.ensures.number c.in-Ok.ensures.fits c.in-Ok-take_u32.ensures.fits c.in-Ok-take_u32-2.ensures.fits c.if-start-payload.false)
