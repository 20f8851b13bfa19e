use Rattle.std.proofs.Common.{◌≡◌, ◌∙◌, ◌<◌, ◌+◌, length, arith}
use Rattle.std.proofs.lemmas.List.{get_or_default}
use Rattle.chunked_list.specs.Joined.{front_of}
use Rattle.chunked_list.proofs.Counting.{counted_most, none_counted}
use Rattle.chunked_list.proofs.Starting.{counted_front}
use Rattle.chunked_list.proofs.Storing.{count_bound}
use Rattle.chunked_list.proofs.counted.count_at.Goals as goal

pub returns-then-place-len : goal.returns-then-place-len
returns-then-place-len g c =
    let chunks = c.args.store.now.chunks.items in
    let starts = c.args.store.now.starts.items in
    let s = c.requires.is.starts in
    let k = c.args.place.chunk in
    let l : k < length chunks = omega (arith, c.if-place-len.true, c.len.ensures, s.len) in
    counted_front chunks starts k c.args.place.at c.index.result.now s l c.requires.at
    (c.index.ensures ∙ get_or_default starts k c.index.result.now 0 (omega (arith, l, s.len)))

pub returns : goal.returns
returns g c = none_counted c.args.store.now.chunks.items c.args.place.chunk c.args.place.at (omega (arith, c.if-place-len.false, c.len.ensures, c.requires.is.starts.len)) c.requires.chunk c.requires.at

pub overflow_add-result : goal.overflow_add-result
overflow_add-result g c =
    let chunks = c.args.store.now.chunks.items in
    let starts = c.args.store.now.starts.items in
    let s = c.requires.is.starts in
    let k = c.args.place.chunk in
    let l : k < length chunks = omega (arith, c.if-place-len.true, c.len.ensures, s.len) in
    let e : c.index.result.now + c.args.place.at ≡ length (front_of chunks k c.args.place.at) =
    counted_front chunks starts k c.args.place.at c.index.result.now s l c.requires.at
    (c.index.ensures ∙ get_or_default starts k c.index.result.now 0 (omega (arith, l, s.len))) in
    let m = counted_most chunks k c.args.place.at (c.index.result.now + c.args.place.at) c.requires.chunk c.requires.at e in
    let b = count_bound chunks c.requires.is.sized in
    omega (arith, m, b, c.requires.is.few)
