use Rattle.std.proofs.Common.{◌∙◌, sym, ap, subst, arith, [], take, drop}
use Rattle.hinted_chunks.proofs.of_mld_ops.AscendingLaws.{has_at}
use Rattle.hinted_chunks.specs.tree_clock.Lists.{Has}
use Rattle.hinted_chunks.specs.Hinted.{top_key, top_after}
use Rattle.chunked_list.specs.Joined.{chunk_at}
use Rattle.hinted_chunks.specs.Leading.{leading}
use Rattle.hinted_chunks.proofs.Sharing.{same_before, set_hinted, set_same}
use Rattle.hinted_chunks.proofs.Topping.{top_stays}
use Rattle.chunked_list.proofs.edits.set_top.Goals as goal

pub returns-then-place-eq0-clause-is : goal.returns-then-place-eq0-clause-is
returns-then-place-eq0-clause-is g c chunk e =
    let key = g.T.Keyed.key in
    let chunks = c.args.chunks.now in
    let k = c.args.place.chunk in
    let mark = c.lower_to.new.hints.mark in
    let x = c.args.first.now in
    let top = c.index-chunks-0.result in
    let t = e ∙ ap (λ n. top_after key (chunk_at chunks k) n x) c.if-place-eq0.true in
    let h = subst (Has chunks) (sym c.index-chunks-0.is) (has_at chunks 0 top (omega (arith, c.requires.chunk))) in
    let s = same_before mark c.shared_with_top.result (top_key key top) (key x) c.lower_to.ensures.mark c.shared_with_top.ensures in
    set_hinted (top_key key) mark k chunks c.lower_to.new.hints.numbers.items chunk c.hint.result c.lower_to.ensures.is
    (λ y m. c.lower_to.ensures.is.shared y top m h ∙ s ∙ ap (take mark) (sym t))
    (c.hint.ensures ∙ ap (λ text. leading 8 (drop mark text)) (sym t))

pub returns-else-place-eq0-clause-is : goal.returns-else-place-eq0-clause-is
returns-else-place-eq0-clause-is g c chunk e =
    let key = g.T.Keyed.key in
    let chunks = c.args.chunks.now in
    let k = c.args.place.chunk in
    set_same (top_key key) c.args.tops.now.mark k chunks c.args.tops.now.numbers.items chunk [] c.requires.is c.requires.chunk
    (e ∙ top_stays key (chunk_at chunks k) c.args.place.at c.args.first.now c.if-place-eq0.false)
