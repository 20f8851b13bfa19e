use Rattle.std.proofs.Common.{arith, sym, subst, List, inl, refl, ◌∷◌, []}
use Rattle.tree_clock.specs.Lists.{Has}
use Rattle.mld_ops.specs.declared.tagged.Tagged.{Tagged}
use Rattle.mld_ops.proofs.AscendingLaws.{has_left, has_right}
use Rattle.graph_index.specs.Graphs.{pairs_of}
use Rattle.graph_index.proofs.Changing.{come_more}
use Rattle.graph_index.proofs.numbered.gain_all.Goals as goal

pub gain-requires-clause-pair : goal.gain-requires-clause-pair
gain-requires-clause-pair c =
    c.loop-pair.invariant.adds c.in-Some.pair
    (subst (λ (zs : List Tagged). Has zs c.in-Some.pair) (sym c.in-Some.ensures.items) (has_right c.pop.new.self.items (c.in-Some.pair ∷ []) c.in-Some.pair (inl refl)))

pub loop-pair-preserved : goal.loop-pair-preserved
loop-pair-preserved c = record {
  numbered = c.gain.ensures.numbered;
  adds = λ pair h. c.loop-pair.invariant.adds pair (subst (λ (zs : List Tagged). Has zs pair) (sym c.in-Some.ensures.items) (has_left c.pop.new.self.items (c.in-Some.pair ∷ []) pair h));
  room = omega (arith, c.gain.ensures.room, c.in-Some.ensures.cases, c.loop-pair.invariant.room);
  members = come_more (pairs_of c.args.tables.now.paths c.args.numbered.now.pairs) c.args.adds.items (pairs_of c.args.tables.now.paths c.loop-pair.numbered.pairs) (pairs_of c.args.tables.now.paths c.gain.new.numbered.pairs) c.pop.new.self.items c.loop-pair.rest.items c.in-Some.pair c.in-Some.ensures.items c.loop-pair.invariant.members c.gain.ensures.members;
}
