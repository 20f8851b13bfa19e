use Rattle.std.proofs.Common.{refl, arith}
use Rattle.std.proofs.lemmas.List.{nil_from_length}
use Rattle.op_fusion.proofs.Sifting.{sifting_begins, sifting_next, sifting_passed, sifting_ends}
use Rattle.op_fusion.proofs.pairs.sift.Goals as goal

pub loop-pair-init : goal.loop-pair-init
loop-pair-init c =
    sifting_begins c.args.wanted c.args.others.now c.from_vec-rest.result.items c.from_vec-rest.result.items c.new-sifted.result.items (rw c.from_vec-rest.ensures.items c.requires.pairs) refl c.new-sifted.ensures.items

pub skip_below-place-requires-clause-below : goal.skip_below-place-requires-clause-below
skip_below-place-requires-clause-below c =
    sifting_passed c.args.wanted c.args.others.now c.from_vec-rest.result.items c.loop-pair.rest.items c.pop_front.new.self.items c.loop-pair.sifted.items c.loop-pair.place c.in-Some.pair c.in-Some.ensures.items
    c.loop-pair.invariant

pub loop-pair-preserved : goal.loop-pair-preserved
loop-pair-preserved c =
    sifting_next c.args.wanted c.args.others.now c.from_vec-rest.result.items c.loop-pair.rest.items c.pop_front.new.self.items c.loop-pair.sifted.items c.push_wanted.new.pairs.items c.loop-pair.place
    c.skip_below-place.result c.in-Some.pair c.stands_at-stands.result c.in-Some.ensures.items c.loop-pair.invariant c.skip_below-place.ensures.place c.skip_below-place.ensures.below c.stands_at-stands.ensures
    c.in_ok-push_wanted.ensures.wanted c.in_ok-push_wanted.ensures.unwanted

pub returns-clause-ascending : goal.returns-clause-ascending
returns-clause-ascending c = c.loop-pair.invariant.kept_ascends

pub returns-clause-members : goal.returns-clause-members
returns-clause-members c =
    sifting_ends c.args.wanted c.args.others.now c.args.pairs.items c.from_vec-rest.result.items c.loop-pair.rest.items c.loop-pair.sifted.items c.loop-pair.place c.from_vec-rest.ensures.items
    (nil_from_length c.loop-pair.rest.items (omega (arith, c.in_default.ensures.cases.0))) c.loop-pair.invariant
