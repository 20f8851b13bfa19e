use Rattle.std.proofs.Common.{◌≡◌, ◌∙◌, ◌≤◌, subst, arith, [], length}
use Rattle.std.proofs.lemmas.List.{get_or_default}
use Rattle.chunked_list.specs.Joined.{chunk_at}
use Rattle.chunked_list.proofs.Placing.{all_front, none_front, next_front, next_back}
use Rattle.chunked_list.proofs.places.next_of.Goals as goal
use Rattle.chunked_list.proofs.places.next_of.Goals.{else-place-chunks-via-then-place-chunks+else-place-len, else-place-chunks-via-else-place-chunks}

pub returns-then-next-chunks-clause-front : goal.returns-then-next-chunks-clause-front
returns-then-next-chunks-clause-front g c = elim c.else-place-chunks.branch [
  | else-place-chunks-via-then-place-chunks+else-place-len w ↦
      let e = w.index-chunks-place.is ∙ get_or_default c.args.chunks.now c.args.place.chunk w.index-chunks-place.result [] w.if-place-chunks.true in
      let n : length (chunk_at c.args.chunks.now c.args.place.chunk) ≤ c.args.place.at = subst (λ zs. length zs ≤ c.args.place.at) e (omega (arith, w.len.ensures.value, w.if-place-len.false)) in
      next_front c.args.chunks.now c.args.place.chunk c.args.place.at w.if-place-chunks.true n
  | else-place-chunks-via-else-place-chunks w ↦ absurd (omega (arith, w.if-place-chunks.false, c.if-next-chunks.true))
]

pub returns-then-next-chunks-clause-back : goal.returns-then-next-chunks-clause-back
returns-then-next-chunks-clause-back g c = elim c.else-place-chunks.branch [
  | else-place-chunks-via-then-place-chunks+else-place-len w ↦
      let e = w.index-chunks-place.is ∙ get_or_default c.args.chunks.now c.args.place.chunk w.index-chunks-place.result [] w.if-place-chunks.true in
      let n : length (chunk_at c.args.chunks.now c.args.place.chunk) ≤ c.args.place.at = subst (λ zs. length zs ≤ c.args.place.at) e (omega (arith, w.len.ensures.value, w.if-place-len.false)) in
      next_back c.args.chunks.now c.args.place.chunk c.args.place.at c.if-next-chunks.true n
  | else-place-chunks-via-else-place-chunks w ↦ absurd (omega (arith, w.if-place-chunks.false, c.if-next-chunks.true))
]

pub returns-clause-none : goal.returns-clause-none
returns-clause-none g c = elim c.else-place-chunks.branch [
  | else-place-chunks-via-then-place-chunks+else-place-len w ↦
      let e = w.index-chunks-place.is ∙ get_or_default c.args.chunks.now c.args.place.chunk w.index-chunks-place.result [] w.if-place-chunks.true in
      let n : length (chunk_at c.args.chunks.now c.args.place.chunk) ≤ c.args.place.at = subst (λ zs. length zs ≤ c.args.place.at) e (omega (arith, w.len.ensures.value, w.if-place-len.false)) in
      all_front c.args.chunks.now c.args.place.chunk c.args.place.at w.if-place-chunks.true c.if-next-chunks.false n
  | else-place-chunks-via-else-place-chunks w ↦
      let z : length c.args.chunks.now ≡ 0 = omega (arith, w.if-place-chunks.false, c.requires.chunk) in
      none_front c.args.chunks.now z c.args.place.chunk c.args.place.at
]
