use Rattle.std.proofs.Common.{map, arith}
use Rattle.std.proofs.lemmas.List.{length-map}
use Rattle.chunked_list.proofs.Counting.{added_some}
use Rattle.chunked_list.proofs.counted.add_first.Goals as goal

pub returns-then-len-count-clause-items : goal.returns-then-len-count-clause-items
returns-then-len-count-clause-items g c =
    let m = length-map c.loop-element.found.items (λ x. x.now) in
    added_some c.args.count c.loop-element.element-index (map (λ x. x.now) c.args.found.now.items) (map (λ x. x.now) c.loop-element.found.items) c.args.elements.now
    c.loop-element.invariant.items (omega (arith, m, c.len.ensures, c.if-len-count.true))
