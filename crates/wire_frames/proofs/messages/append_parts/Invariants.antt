use Rattle.std.proofs.Common.{◌≡◌, ◌+◌, length}
use Rattle.rdf_terms.specs.Kept.{KeepsStart}
use Rattle.wire_frames.specs.MessageParts.{part_count}
use Rattle.wire_frames.proofs.PartFrames.{HasParts}
use Rattle.wire_frames.proofs.messages.append_parts.Given as goal

abbrev pub invariant-loop-index : goal.invariant-loop-index
invariant-loop-index l = record {
  kept : KeepsStart l.fn.out.items l.out.items;
  left : l.index + part_count (length l.rest) ≡ l.count;
  whole : HasParts l.number l.count l.fn.out.items l.bytes l.index l.rest l.out.items;
}
