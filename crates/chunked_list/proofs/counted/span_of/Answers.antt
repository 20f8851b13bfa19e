use Rattle.std.proofs.Common.{◌∙◌, ◌+◌, ◌-◌, sym, ap, arith, map, take, drop}
use Rattle.std.proofs.lemmas.List.{take_rest}
use Rattle.chunked_list.specs.Joined.{joined_chunks}
use Rattle.chunked_list.proofs.Between.{rest_at}
use Rattle.chunked_list.proofs.Counting.{drop_front, span_is, span_none}
use Rattle.chunked_list.proofs.counted.span_of.Goals as goal
use Rattle.chunked_list.proofs.counted.span_of.Goals.{then-from-to, else-from-to}

pub returns : goal.returns
returns g c =
    let chunks = c.args.store.now.chunks.items in
    let count = c.args.to - c.args.from in
    let nil = ap (map (λ x. x.now)) c.in_ok-found.ensures.items in
    elim c.if-from-to.branch [
      | then-from-to w ↦
          let k = w.place_of-place.result.chunk in
          let at = w.place_of-place.result.at in
          let i = w.place_of-place.ensures.element in
          ap (λ found. map (λ x. x.now) found.items) w.found-is
          ∙ span_is count chunks k at (map (λ x. x.now) c.in_ok-found.found.items) (map (λ x. x.now) w.add_first.new.found.items) (map (λ x. x.now) w.add_first_of.new.found.items) _ _
          nil
          (rest_at chunks k at w.index.result.now w.as_slice.result.now i.chunk_is w.index.ensures w.as_slice.ensures)
          (take_rest w.deref.result.now (k + 1) ∙ ap (drop (k + 1)) w.deref.ensures.value)
          w.add_first.ensures.items w.add_first_of.ensures
          ∙ ap (take count) (sym (drop_front chunks k at c.args.from i.chunk_is w.place_of-place.ensures.front))
      | else-from-to w ↦
          ap (λ found. map (λ x. x.now) found.items) w.found-is
          ∙ nil
          ∙ sym (span_none count (drop c.args.from (joined_chunks chunks)) (omega (arith, w.if-from-to.false, c.requires.from)))
    ]
