use Rattle.std.proofs.Common.{sym, subst, List, inl, inr, refl, ◌∷◌, []}
use Rattle.tree_clock.specs.Lists.{Has}
use Rattle.mld_ops.specs.declared.tagged.Tagged.{Tagged}
use Rattle.mld_ops.proofs.AscendingLaws.{has_left, has_right}
use Rattle.graph_index.specs.Graphs.{pairs_of}
use Rattle.graph_index.proofs.Changing.{come_more}
use Rattle.graph_index.proofs.Entries.{front_once}
use Rattle.graph_index.proofs.numbered.with_numbers.Goals as goal

pub add_entry-requires-clause-pair : goal.add_entry-requires-clause-pair
add_entry-requires-clause-pair c =
    c.loop-pair.invariant.numbered c.in-Some.pair
    (subst (λ (zs : List Tagged). Has zs c.in-Some.pair) (sym c.in-Some.ensures.items) (has_right c.pop.new.self.items (c.in-Some.pair ∷ []) c.in-Some.pair (inl refl)))

pub add_entry-requires-clause-apart : goal.add_entry-requires-clause-apart
add_entry-requires-clause-apart c =
    c.loop-pair.invariant.apart c.in-Some.pair
    (subst (λ (zs : List Tagged). Has zs c.in-Some.pair) (sym c.in-Some.ensures.items) (has_right c.pop.new.self.items (c.in-Some.pair ∷ []) c.in-Some.pair (inl refl)))

pub loop-pair-preserved : goal.loop-pair-preserved
loop-pair-preserved c =
    let front = front_once c.pop.new.self.items c.loop-pair.rest.items c.in-Some.pair c.in-Some.ensures.items c.loop-pair.invariant.rest_once in
    let behind = λ (pair : Tagged) (h : Has c.pop.new.self.items pair). subst (λ (zs : List Tagged). Has zs pair) (sym c.in-Some.ensures.items) (has_left c.pop.new.self.items (c.in-Some.pair ∷ []) pair h) in
    record {
      own = c.in_ok-add_entry.ensures.own;
      once = c.in_ok-add_entry.ensures.once;
      rest_once = front.0;
      numbered = λ pair h. c.loop-pair.invariant.numbered pair (behind pair h);
      apart = λ pair h k. elim ((c.in_ok-add_entry.ensures.members pair).0 k) [
        | inl m ↦ c.loop-pair.invariant.apart pair (behind pair h) m
        | inr e ↦ front.1 (subst (λ (w : Tagged). Has c.pop.new.self.items w) e h)
      ];
      members = come_more (pairs_of c.args.tables.now.paths c.in_ok-entries.entries.items) c.args.list.items (pairs_of c.args.tables.now.paths c.loop-pair.entries.items) (pairs_of c.args.tables.now.paths c.add_entry.new.entries.items) c.pop.new.self.items c.loop-pair.rest.items c.in-Some.pair c.in-Some.ensures.items c.loop-pair.invariant.members c.in_ok-add_entry.ensures.members;
    }
