use Rattle.std.proofs.Common.{◌≡◌, ◌∙◌, ◌<◌, ◌≤◌, ◌+◌, ap, subst, arith, [], length, rules}
use Rattle.std.proofs.lemmas.List.{get_or_default}
use Rattle.chunked_list.specs.Joined.{chunk_at}
use Rattle.chunked_list.proofs.Loads.{last_full}
use Rattle.chunked_list.proofs.Placing.{put_at_end}
use Rattle.chunked_list.proofs.stores.put.Goals as goal

pub put_behind-requires-then-is_end-clause-full : goal.put_behind-requires-then-is_end-clause-full
put_behind-requires-then-is_end-clause-full g c =
    let chunks = c.args.store.now.chunks.items in
    let l : c.args.place.chunk < length chunks = search rules in
    let m = subst (λ zs. length zs ≤ c.args.place.chunk + 1) c.deref.ensures.value (c.is_end.ensures.last c.if-is_end.true) in
    let e = c.index.ensures ∙ get_or_default chunks c.args.place.chunk c.index.result.now [] l in
    let n : c.len.result ≡ length (chunk_at chunks c.args.place.chunk) = c.len.ensures.value ∙ ap length e in
    last_full chunks c.args.place.chunk c.len.result l m n (omega (arith, c.if-len-lt-CHUNK_LIMIT.false))

pub returns-then-is_end-clause-elements : goal.returns-then-is_end-clause-elements
returns-then-is_end-clause-elements g c =
    let chunks = c.args.store.now.chunks.items in
    let l : c.args.place.chunk < length chunks = search rules in
    let m = subst (λ zs. length zs ≤ c.args.place.chunk + 1) c.deref.ensures.value (c.is_end.ensures.last c.if-is_end.true) in
    let n = subst (λ zs. length (chunk_at zs c.args.place.chunk) ≤ c.args.place.at) c.deref.ensures.value (c.is_end.ensures.at c.if-is_end.true) in
    c.put_behind-then-is_end.ensures.elements ∙ put_at_end chunks c.args.place.chunk c.args.place.at c.args.element l m n
