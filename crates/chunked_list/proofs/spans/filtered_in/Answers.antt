use Rattle.std.proofs.Common.{◌∙◌, ◌++◌, sym, ap, take}
use Rattle.std.proofs.lemmas.List.Elements.{filter-append}
use Rattle.std.specs.List.{filter}
use Rattle.chunked_list.specs.Joined.{joined_chunks}
use Rattle.chunked_list.proofs.JoinedLaws.{joined_more}
use Rattle.chunked_list.proofs.spans.filtered_in.Goals as goal

pub loop-chunk-preserved : goal.loop-chunk-preserved
loop-chunk-preserved g c =
    let p = g.P.Test.passes c.args.test.now in
    let i = c.loop-chunk.chunk-index in
    c.in_ok-add_filtered.ensures
    ∙ ap (λ zs. zs ++ filter p c.as_slice.result.now) c.loop-chunk.invariant
    ∙ ap (λ zs. filter p (joined_chunks (take i c.args.chunks.now)) ++ filter p zs) c.as_slice.ensures
    ∙ sym (filter-append p (joined_chunks (take i c.args.chunks.now)) c.chunk-item.result)
    ∙ ap (filter p) (sym (joined_more c.args.chunks.now i c.chunk-item.result c.loop-chunk-test.true c.chunk-item.is))
