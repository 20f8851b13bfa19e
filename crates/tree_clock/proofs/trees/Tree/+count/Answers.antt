use Rattle.std.proofs.Common.{◌≡◌, [], length, min, ◌∙◌, ap, arith}
use Rattle.tree_clock.specs.declared.trees.Tree.{Tree}
use Rattle.tree_clock.specs.Trees.{ticks_at, entry_of, listed}
use Rattle.tree_clock.proofs.TreeLemmas.{length_sons}
use Rattle.tree_clock.proofs.trees.Tree.+count.Goals as goal

pub returns-in-Left : goal.returns-in-Left
returns-in-Left t c =
    let own : c.own_count-own.result ≡ length (entry_of [] c.in-Left.field-1) =
    c.own_count-own.ensures ∙ ap (λ (tree : Tree). length (entry_of [] (ticks_at tree []))) c.in-Left.is in
    let left : c.count.result ≡ min (length (listed c.in-Left.zero.value)) 18446744073709551615 =
    c.count.ensures ∙ ap (λ (tree : Tree). min (length (listed tree)) 18446744073709551615) c.deref.ensures in
    let both = length_sons c.in-Left.field-1 (listed c.in-Left.zero.value) [] in
    let sum = c.saturating_add.ensures in
    rw c.in-Left.is (omega (arith, own, left, both, sum))

pub returns-in-Right : goal.returns-in-Right
returns-in-Right t c =
    let own : c.own_count-own.result ≡ length (entry_of [] c.in-Right.field-1) =
    c.own_count-own.ensures ∙ ap (λ (tree : Tree). length (entry_of [] (ticks_at tree []))) c.in-Right.is in
    let right : c.count-in-Right.result ≡ min (length (listed c.in-Right.one.value)) 18446744073709551615 =
    c.count-in-Right.ensures ∙ ap (λ (tree : Tree). min (length (listed tree)) 18446744073709551615) c.deref-in-Right.ensures in
    let both = length_sons c.in-Right.field-1 [] (listed c.in-Right.one.value) in
    let sum = c.saturating_add-in-Right.ensures in
    rw c.in-Right.is (omega (arith, own, right, both, sum))

pub returns-in-Fork : goal.returns-in-Fork
returns-in-Fork t c =
    let own : c.own_count-own.result ≡ length (entry_of [] c.in-Fork.field-1) =
    c.own_count-own.ensures ∙ ap (λ (tree : Tree). length (entry_of [] (ticks_at tree []))) c.in-Fork.is in
    let left : c.count-in-Fork.result ≡ min (length (listed c.in-Fork.zero.value)) 18446744073709551615 =
    c.count-in-Fork.ensures ∙ ap (λ (tree : Tree). min (length (listed tree)) 18446744073709551615) c.deref-in-Fork.ensures in
    let right : c.count-in-Fork-2.result ≡ min (length (listed c.in-Fork.one.value)) 18446744073709551615 =
    c.count-in-Fork-2.ensures ∙ ap (λ (tree : Tree). min (length (listed tree)) 18446744073709551615) c.deref-in-Fork-2.ensures in
    let both = length_sons c.in-Fork.field-1 (listed c.in-Fork.zero.value) (listed c.in-Fork.one.value) in
    let first = c.saturating_add-in-Fork.ensures in
    let second = c.saturating_add-in-Fork-2.ensures in
    rw c.in-Fork.is (omega (arith, own, left, right, both, first, second))
