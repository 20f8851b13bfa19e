use Rattle.std.proofs.Common.{◌≤◌, length}
use Rattle.rdf_terms.specs.Kept.{KeepsStart}
use Rattle.wire_frames.proofs.PartFrames.{HasReplies}
use Rattle.wire_frames.proofs.replies.append_replies.Given as goal

abbrev pub invariant-loop-rest : goal.invariant-loop-rest
invariant-loop-rest l = record {
  kept : KeepsStart l.fn.out.items l.out.items;
  low : 1 ≤ length l.rest;
  whole : HasReplies l.fn.out.items l.text l.rest l.out.items;
}

abbrev pub decreases-loop-rest : goal.decreases-loop-rest
decreases-loop-rest l = length l.rest
