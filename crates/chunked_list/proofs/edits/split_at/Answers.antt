use Rattle.std.proofs.Common.{◌∙◌, sym, subst, take, length, ◌<◌, [], arith, rules}
use Rattle.hinted_chunks.specs.ChunkLimits.{half_limit}
use Rattle.hinted_chunks.specs.Hinted.{AreHinted, top_key}
use Rattle.chunked_list.specs.Joined.{chunk_at}
use Rattle.hinted_chunks.proofs.Sharing.{set_same}
use Rattle.hinted_chunks.proofs.Topping.{top_take}
use Rattle.chunked_list.proofs.edits.split_at.Goals as goal

pub put_hint-requires-clause-is : goal.put_hint-requires-clause-is
put_hint-requires-clause-is g c =
    let key = g.T.Keyed.key in
    let old = c.args.chunks.now.items in
    let half = take half_limit (chunk_at old c.args.chunk) in
    let mark = c.args.tops.now.mark in
    let l : c.args.chunk < length old = search rules in
    let numbers = c.args.tops.now.numbers.items in
    subst (λ zs. AreHinted (top_key key) mark zs numbers) (sym (c.deref.ensures.value ∙ c.move_half.ensures.items))
    (set_same (top_key key) mark c.args.chunk old numbers half [] c.requires.is l (top_take key half_limit (chunk_at old c.args.chunk) (omega arith)))
