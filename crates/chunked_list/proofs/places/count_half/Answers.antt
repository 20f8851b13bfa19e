use Rattle.std.proofs.Common.{◌≡◌, ◌∙◌, ◌<◌, ◌-◌, ap, arith, [], length, rules}
use Rattle.std.proofs.lemmas.List.{get_or_default}
use Rattle.hinted_chunks.specs.ChunkLimits.{half_limit}
use Rattle.chunked_list.specs.Joined.{chunk_at}
use Rattle.chunked_list.proofs.Loads.{last_is}
use Rattle.chunked_list.proofs.places.count_half.Goals as goal

pub returns-clause-value : goal.returns-clause-value
returns-clause-value g c =
    let chunks = c.args.chunks.now in
    let l : length chunks - 1 < length chunks = search rules in
    let e = c.index-chunks-last.is ∙ get_or_default chunks (length chunks - 1) c.index-chunks-last.result [] l in
    let n : c.len.result ≡ length (chunk_at chunks (length chunks - 1)) = c.len.ensures.value ∙ ap length e in
    let i = last_is half_limit chunks (length chunks - 1) l (omega arith) in
    omega (arith, n, i, c.min.ensures)
