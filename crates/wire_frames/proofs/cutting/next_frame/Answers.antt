use Rattle.std.proofs.Common.{◌≡◌, ℕ, ◌+◌, ◌-◌, take, drop, subst, arith}
use Rattle.std.proofs.lemmas.List.{length-drop}
use Rattle.mld_bytes.proofs.Numbers.{length-u32_bytes}
use Rattle.wire_frames.specs.FrameReading.{IsFrameOf}
use Rattle.wire_frames.specs.declared.kinds.Frame.{Frame}
use Rattle.wire_frames.proofs.Heads.{head_read, head_too_long, head_waits, frame_at, bad_at}
use Rattle.wire_frames.proofs.cutting.next_frame.Goals as goal

pub returns-then-size-gt-PAYLOAD_LIMIT : goal.returns-then-size-gt-PAYLOAD_LIMIT
returns-then-size-gt-PAYLOAD_LIMIT c =
    let head = head_read c.args.input.now c.args.at c.in-Ok.next c.in-Ok-take_u32.start c.in-Ok.kind c.in-Ok-take_u32.announced c.in-Ok.ensures.number c.in-Ok-take_u32.ensures.number c.in-Ok-take_u32.ensures.fits in
    head_too_long (drop c.args.at c.args.input.now) c.in-Ok.kind c.in-Ok-take_u32.announced (drop c.in-Ok-take_u32.start c.args.input.now) head c.if-size-gt-PAYLOAD_LIMIT.true

pub returns-then-input-start : goal.returns-then-input-start
returns-then-input-start c =
    let head = head_read c.args.input.now c.args.at c.in-Ok.next c.in-Ok-take_u32.start c.in-Ok.kind c.in-Ok-take_u32.announced c.in-Ok.ensures.number c.in-Ok-take_u32.ensures.number c.in-Ok-take_u32.ensures.fits in
    let left = length-drop c.in-Ok-take_u32.start c.args.input.now in
    let cut = c.if-input-start.true in
    head_waits (drop c.args.at c.args.input.now) c.in-Ok.kind c.in-Ok-take_u32.announced (drop c.in-Ok-take_u32.start c.args.input.now) head c.if-size-gt-PAYLOAD_LIMIT.false (omega arith)

pub returns-in-Some : goal.returns-in-Some
returns-in-Some c =
    let head = head_read c.args.input.now c.args.at c.in-Ok.next c.in-Ok-take_u32.start c.in-Ok.kind c.in-Ok-take_u32.announced c.in-Ok.ensures.number c.in-Ok-take_u32.ensures.number c.in-Ok-take_u32.ensures.fits in
    let size : c.in-Ok-take_u32.start + c.in-Ok-take_u32.announced - c.in-Ok-take_u32.start ≡ c.in-Ok-take_u32.announced = omega arith in
    let next = c.in-Ok.ensures.number.next_is in
    let start = c.in-Ok-take_u32.ensures.number.next_is in
    let four = length-u32_bytes c.in-Ok-take_u32.announced in
    let found = rw c.in-Some.is at c.in_ok-frame.ensures in
    frame_at c.args.input.now c.args.at c.in-Ok-take_u32.start c.in-Ok.kind c.in-Ok-take_u32.announced c.in-Some.frame head (omega arith) c.in-Ok-take_u32.ensures.number.within c.if-input-start.false
    (subst (λ (n : ℕ). IsFrameOf c.in-Ok.kind (take n (drop c.in-Ok-take_u32.start c.args.input.now)) c.in-Some.frame) size found)

pub returns-in-None : goal.returns-in-None
returns-in-None c =
    let head = head_read c.args.input.now c.args.at c.in-Ok.next c.in-Ok-take_u32.start c.in-Ok.kind c.in-Ok-take_u32.announced c.in-Ok.ensures.number c.in-Ok-take_u32.ensures.number c.in-Ok-take_u32.ensures.fits in
    let size : c.in-Ok-take_u32.start + c.in-Ok-take_u32.announced - c.in-Ok-take_u32.start ≡ c.in-Ok-take_u32.announced = omega arith in
    let none = rw c.in-None.is at c.in_ok-frame.ensures in
    bad_at c.args.input.now c.args.at c.in-Ok-take_u32.start c.in-Ok.kind c.in-Ok-take_u32.announced head c.if-size-gt-PAYLOAD_LIMIT.false c.if-input-start.false
    (subst (λ (n : ℕ). (frame : Frame) → ¬ IsFrameOf c.in-Ok.kind (take n (drop c.in-Ok-take_u32.start c.args.input.now)) frame) size none)
