use Rattle.std.proofs.Common.{◌∙◌, map, arith}
use Rattle.std.proofs.lemmas.List.{length-map}
use Rattle.chunked_list.proofs.Counting.{chunks_reached, chunks_more}
use Rattle.chunked_list.proofs.counted.add_first_of.Goals as goal

pub returns-then-len-count : goal.returns-then-len-count
returns-then-len-count g c =
    let m = length-map c.loop-chunk.found.items (λ x. x.now) in
    chunks_reached c.args.count c.loop-chunk.chunk-index (map (λ x. x.now) c.args.found.now.items) (map (λ x. x.now) c.loop-chunk.found.items) c.args.chunks.now
    c.loop-chunk.invariant.items (omega (arith, m, c.len.ensures, c.if-len-count.true))

pub loop-chunk-preserved : goal.loop-chunk-preserved
loop-chunk-preserved g c = record {
  items = chunks_more c.args.count c.loop-chunk.chunk-index (map (λ x. x.now) c.args.found.now.items) (map (λ x. x.now) c.loop-chunk.found.items) c.args.chunks.now
      c.loop-chunk.invariant.items (map (λ x. x.now) c.add_first.new.found.items) c.chunk-item.result c.as_slice.result.now
      c.loop-chunk-test.true c.chunk-item.is c.as_slice.ensures c.add_first.ensures.items;
  few = c.add_first.ensures.few;
  room = c.add_first.ensures.room ∙ c.loop-chunk.invariant.room;
}
