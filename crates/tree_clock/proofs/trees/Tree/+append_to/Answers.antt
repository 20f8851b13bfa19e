use Rattle.std.proofs.Common.{◌≡◌, ◌∷◌, ◌++◌, [], append_assoc, sym, ◌∙◌, ap}
use Rattle.std.proofs.lemmas.Result.{on_ok_weaker}
use Rattle.tree_clock.specs.Path.{zero_letter, one_letter}
use Rattle.tree_clock.specs.declared.trees.Tree.{Tree}
use Rattle.tree_clock.specs.Trees.{ticks_at, under, entry_of, listed}
use Rattle.tree_clock.proofs.TreeLemmas.{under-left, under-right, under-sons}
use Rattle.tree_clock.proofs.trees.Tree.+append_to.Goals as goal

pub returns-in-Left : goal.returns-in-Left
returns-in-Left t c =
    let path = c.args.path in
    let old = c.args.list.now.items in
    let n = c.in-Left.field-1 in
    let sons = under (path ++ zero_letter ∷ []) (listed c.in-Left.zero.value) in
    let own : c.own.result ≡ n = c.own.ensures ∙ ap (λ (tree : Tree). ticks_at tree []) c.in-Left.is in
    let first : c.push_entry.new.list.items ≡ old ++ entry_of path n = c.in_ok-push_entry.ensures ∙ ap (λ n. old ++ entry_of path n) own in
    let left : under c.child.result (listed c.deref.result.now) ≡ sons = λ i. under (c.child.ensures i) (listed (c.deref.ensures i)) in
    rw c.in-Left.is (on_ok_weaker c.append_to.result (λ (last : c.append_to.new.list.items ≡ c.push_entry.new.list.items ++ under c.child.result (listed c.deref.result.now)).
    last
    ∙ (λ i. first i ++ left i)
    ∙ append_assoc old (entry_of path n) sons
    ∙ sym (ap (λ es. old ++ es) (under-left path n (listed c.in-Left.zero.value))))
    c.append_to.ensures)

pub returns-in-Right : goal.returns-in-Right
returns-in-Right t c =
    let path = c.args.path in
    let old = c.args.list.now.items in
    let n = c.in-Right.field-1 in
    let sons = under (path ++ one_letter ∷ []) (listed c.in-Right.one.value) in
    let own : c.own.result ≡ n = c.own.ensures ∙ ap (λ (tree : Tree). ticks_at tree []) c.in-Right.is in
    let first : c.push_entry.new.list.items ≡ old ++ entry_of path n = c.in_ok-push_entry.ensures ∙ ap (λ n. old ++ entry_of path n) own in
    let right : under c.child-in-Right.result (listed c.deref-in-Right.result.now) ≡ sons = λ i. under (c.child-in-Right.ensures i) (listed (c.deref-in-Right.ensures i)) in
    rw c.in-Right.is (on_ok_weaker c.append_to-in-Right.result (λ (last : c.append_to-in-Right.new.list.items ≡ c.push_entry.new.list.items ++ under c.child-in-Right.result (listed c.deref-in-Right.result.now)).
    last
    ∙ (λ i. first i ++ right i)
    ∙ append_assoc old (entry_of path n) sons
    ∙ sym (ap (λ es. old ++ es) (under-right path n (listed c.in-Right.one.value))))
    c.append_to-in-Right.ensures)

pub returns-in_ok-append_to-in-Fork : goal.returns-in_ok-append_to-in-Fork
returns-in_ok-append_to-in-Fork t c =
    let path = c.args.path in
    let old = c.args.list.now.items in
    let own : c.own.result ≡ c.in-Fork.field-1 = c.own.ensures ∙ ap (λ (tree : Tree). ticks_at tree []) c.in-Fork.is in
    let first : c.push_entry.new.list.items ≡ old ++ entry_of path c.in-Fork.field-1 = c.in_ok-push_entry.ensures ∙ ap (λ n. old ++ entry_of path n) own in
    let left : under c.child-in-Fork.result (listed c.deref-in-Fork.result.now) ≡ under (path ++ zero_letter ∷ []) (listed c.in-Fork.zero.value) = λ i. under (c.child-in-Fork.ensures i) (listed (c.deref-in-Fork.ensures i)) in
    let right : under c.child-in-Fork-2.result (listed c.deref-in-Fork-2.result.now) ≡ under (path ++ one_letter ∷ []) (listed c.in-Fork.one.value) = λ i. under (c.child-in-Fork-2.ensures i) (listed (c.deref-in-Fork-2.ensures i)) in
    let second : c.append_to-in-Fork.new.list.items ≡ (old ++ entry_of path c.in-Fork.field-1) ++ under (path ++ zero_letter ∷ []) (listed c.in-Fork.zero.value) = c.in_ok-append_to-in-Fork.ensures ∙ (λ i. first i ++ left i) in
    let before = c.append_to-in-Fork.new.list.items in
    let after = c.append_to-in-Fork-2.new.list.items in
    rw c.in-Fork.is (on_ok_weaker c.append_to-in-Fork-2.result (λ (last : after ≡ before ++ under c.child-in-Fork-2.result (listed c.deref-in-Fork-2.result.now)).
    last
    ∙ (λ i. second i ++ right i)
    ∙ append_assoc (old ++ entry_of path c.in-Fork.field-1) (under (path ++ zero_letter ∷ []) (listed c.in-Fork.zero.value)) (under (path ++ one_letter ∷ []) (listed c.in-Fork.one.value))
    ∙ append_assoc old (entry_of path c.in-Fork.field-1) (under (path ++ zero_letter ∷ []) (listed c.in-Fork.zero.value) ++ under (path ++ one_letter ∷ []) (listed c.in-Fork.one.value))
    ∙ sym (ap (λ es. old ++ es) (under-sons path c.in-Fork.field-1 (listed c.in-Fork.zero.value) (listed c.in-Fork.one.value))))
    c.append_to-in-Fork-2.ensures)
