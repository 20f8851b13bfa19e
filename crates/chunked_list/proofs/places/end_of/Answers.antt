use Rattle.std.proofs.Common.{◌∙◌, ◌<◌, ◌≤◌, ◌-◌, sym, subst, arith, [], length, rules}
use Rattle.std.proofs.lemmas.List.{get_or_default}
use Rattle.chunked_list.specs.Joined.{chunk_at}
use Rattle.chunked_list.proofs.Placing.{all_front}
use Rattle.chunked_list.proofs.places.end_of.Goals as goal

pub returns-clause-front : goal.returns-clause-front
returns-clause-front g c =
    let l : length c.args.chunks.now - 1 < length c.args.chunks.now = search rules in
    let e = c.index-chunks-chunk.is ∙ get_or_default c.args.chunks.now (length c.args.chunks.now - 1) c.index-chunks-chunk.result [] l in
    let n : length (chunk_at c.args.chunks.now (length c.args.chunks.now - 1)) ≤ c.len.result = subst (λ zs. length zs ≤ c.len.result) e (omega (arith, c.len.ensures.value)) in
    sym (all_front c.args.chunks.now (length c.args.chunks.now - 1) c.len.result l (omega arith) n)
