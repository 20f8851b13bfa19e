use Rattle.std.proofs.Common.{◌∙◌, ◌++◌, sym, subst, ap, map}
use Rattle.std.specs.List.{filter}
use Rattle.chunked_list.specs.Joined.{joined_chunks, back_of}
use Rattle.chunked_list.specs.Parted.{IsParted}
use Rattle.chunked_list.proofs.Between.{back_parted, between_divided, none_between}
use Rattle.chunked_list.proofs.spans.between_in.Goals as goal
use Rattle.chunked_list.proofs.spans.between_in.Goals.{in-Some+in_ok-add_from, in_default}

pub add_from-requires-clause-parted : goal.add_from-requires-clause-parted
add_from-requires-clause-parted g c =
    let q = g.B.Bound.before c.args.second.now in
    let k = c.in-Some.place.chunk in
    let at = c.in-Some.place.at in
    subst (λ zs. IsParted q (back_of zs k at)) (sym c.deref.ensures.value)
    (back_parted q c.args.store.now.chunks.items k at c.in-Some.ensures.element.chunk_is c.requires.second)

pub returns : goal.returns
returns g c =
    let p = g.A.Bound.before c.args.first.now in
    let q = g.B.Bound.before c.args.second.now in
    let chunks = c.args.store.now.chunks.items in
    elim c.match-find.branch [
      | in-Some+in_ok-add_from w ↦
          let k = w.in-Some.place.chunk in
          let at = w.in-Some.place.at in
          ap (λ found. map (λ x. x.now) found.items) w.found-is
          ∙ w.in_ok-add_from.ensures
          ∙ ap (λ zs. map (λ x. x.now) zs ++ filter q (back_of w.deref.result.now k at)) c.new-found.ensures.items
          ∙ ap (λ zs. filter q (back_of zs k at)) w.deref.ensures.value
          ∙ between_divided p q chunks k at w.in-Some.ensures.element.chunk_is w.in-Some.ensures.divides
      | in_default w ↦
          ap (λ found. map (λ x. x.now) found.items) w.found-is
          ∙ ap (map (λ x. x.now)) c.new-found.ensures.items
          ∙ sym (none_between p q (joined_chunks chunks) w.in_default.ensures.none)
    ]
