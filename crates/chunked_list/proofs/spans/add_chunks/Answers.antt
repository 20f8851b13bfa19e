use Rattle.std.proofs.Common.{map}
use Rattle.chunked_list.proofs.Between.{slice_parted, slice_more, slice_last}
use Rattle.chunked_list.proofs.spans.add_chunks.Goals as goal

pub add_elements-requires : goal.add_elements-requires
add_elements-requires g c =
    slice_parted (g.B.Bound.before c.args.bound.now) c.args.chunks.now c.loop-chunk.chunk-index c.chunk-item.result c.as_slice.result.now c.loop-chunk-test.true c.chunk-item.is c.as_slice.ensures c.requires

pub returns-then-not-branch : goal.returns-then-not-branch
returns-then-not-branch g c =
    slice_last (g.B.Bound.before c.args.bound.now) c.args.chunks.now c.loop-chunk.chunk-index c.chunk-item.result c.as_slice.result.now c.loop-chunk-test.true c.chunk-item.is c.as_slice.ensures
    (map (λ x. x.now) c.args.found.now.items) (map (λ x. x.now) c.loop-chunk.found.items) (map (λ x. x.now) c.add_elements.new.found.items)
    c.requires (c.in_ok-add_elements.ensures.ended c.if-not-branch.true) c.in_ok-add_elements.ensures.items c.loop-chunk.invariant

pub loop-chunk-preserved : goal.loop-chunk-preserved
loop-chunk-preserved g c =
    slice_more (g.B.Bound.before c.args.bound.now) c.args.chunks.now c.loop-chunk.chunk-index c.chunk-item.result c.as_slice.result.now c.loop-chunk-test.true c.chunk-item.is c.as_slice.ensures
    (map (λ x. x.now) c.args.found.now.items) (map (λ x. x.now) c.loop-chunk.found.items) (map (λ x. x.now) c.add_elements.new.found.items)
    c.in_ok-add_elements.ensures.items c.loop-chunk.invariant
