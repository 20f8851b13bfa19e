use Rattle.std.proofs.Common.{◌≡◌, ℕ, ◌+◌, ◌-◌, ◌≤◌, List, length, take, drop, refl, sym, ap, ◌∙◌, subst, arith}
use Rattle.std.proofs.lemmas.List.{length-drop}
use Rattle.op_codec.proofs.Appending.{at_err}
use Rattle.rdf_terms.specs.Kept.{KeepsStart}
use Rattle.rdf_terms.proofs.Appending.{keeps_same, keeps_on}
use Rattle.wire_frames.specs.declared.kinds.Frame.TheVariants.{Part}
use Rattle.wire_frames.specs.Frames.{frame_bytes}
use Rattle.wire_frames.specs.MessageParts.{part_count}
use Rattle.wire_frames.proofs.PartFrames.{part_count_few, part_count_behind, part_fits, keeps_past, parts_begun, parts_on, parts_done}
use Rattle.wire_frames.proofs.messages.append_parts.Goals as goal

pub loop-index-init : goal.loop-index-init
loop-index-init c = record {
  kept = keeps_same c.args.out.now.items;
  left = omega arith;
  whole = parts_begun c.args.number (part_count (length c.args.bytes.now)) c.args.out.now.items c.args.bytes.now refl;
}

pub append_part-requires : goal.append_part-requires
append_part-requires c =
    let few = part_count_few (length c.args.bytes.now) c.requires in
    let left = c.loop-index.invariant.left in
    let more = c.loop-index-test.true in
    part_fits c.args.number c.loop-index.index (part_count (length c.args.bytes.now)) c.loop-index.rest.now c.split_at.result.0.now (omega (arith, c.ranges.number)) (omega arith) (omega arith) (omega arith)
    (c.split_at.ensures.front ∙ ap (λ (n : ℕ). take n c.loop-index.rest.now) c.min.ensures)

pub returns-in_err-append_part-clause-err : goal.returns-in_err-append_part-clause-err
returns-in_err-append_part-clause-err c =
    at_err c.from_residual.result (keeps_past c.args.out.now.items c.loop-index.out.items c.append_part.new.out.items c.loop-index.invariant.kept c.in_err-append_part.ensures.err)

pub loop-index-preserved : goal.loop-index-preserved
loop-index-preserved c =
    let left = c.loop-index.invariant.left in
    let more = c.loop-index-test.true in
    let some : 1 ≤ length c.loop-index.rest.now = omega arith in
    let one = part_count_behind (length c.loop-index.rest.now) some in
    let size = c.min.ensures in
    let behind : length c.split_at.result.1.now ≡ length c.loop-index.rest.now - c.min.result = ap length c.split_at.ensures.back ∙ length-drop c.min.result c.loop-index.rest.now in
    let count : part_count (length c.split_at.result.1.now) + 1 ≡ part_count (length c.loop-index.rest.now) = omega arith in
    record {
      kept =
          subst (λ (l : List ℕ). KeepsStart c.args.out.now.items l) (sym c.in_ok-append_part.ensures.ok)
          (keeps_on c.args.out.now.items c.loop-index.out.items (frame_bytes (Part c.args.number c.loop-index.index (part_count (length c.args.bytes.now)) c.split_at.result.0.now)) c.loop-index.invariant.kept);
      left = omega arith;
      whole =
          parts_on c.args.number (part_count (length c.args.bytes.now)) c.args.out.now.items c.args.bytes.now c.loop-index.index c.loop-index.rest.now c.loop-index.out.items c.split_at.result.0.now c.split_at.result.1.now c.append_part.new.out.items c.loop-index.invariant.whole some
          (c.split_at.ensures.front ∙ ap (λ (n : ℕ). take n c.loop-index.rest.now) c.min.ensures)
          (c.split_at.ensures.back ∙ ap (λ (n : ℕ). drop n c.loop-index.rest.now) c.min.ensures) c.in_ok-append_part.ensures.ok;
    }

pub returns-clause-ok : goal.returns-clause-ok
returns-clause-ok c =
    let left = c.loop-index.invariant.left in
    let end = c.loop-index-test.false in
    parts_done c.args.number (part_count (length c.args.bytes.now)) c.args.out.now.items c.args.bytes.now c.loop-index.index c.loop-index.rest.now c.loop-index.out.items c.loop-index.invariant.whole (omega arith)
