use Rattle.std.proofs.Common.{◌≡◌, List, refl, subst}
use Rattle.mld_ops.specs.declared.tagged.Tagged.{Tagged}
use Rattle.mld_ops.specs.Applies.{Applies}
use Rattle.clone_parts.specs.Plans.{PlansReleases, left_of}
use Rattle.clone_parts.specs.declared.merges.Released.{Released}
use Rattle.clone_parts.proofs.Merging.{released_from}
use Rattle.clone_parts.proofs.merges.release_from.Goals as goal

pub returns-clause-released : goal.returns-clause-released
returns-clause-released c =
    let pairs = c.args.base_pairs.now in
    let held = c.args.held.now in
    let cut = c.in_ok-cut.cut in
    let plan = c.release_held.new.plan in
    let left = c.in_ok-left.left in
    let new = c.apply.new.self.pairs in
    let same : c.in_ok-pairs.pairs.pairs ≡ pairs = c.in_ok-pairs.ensures in
    let applies = subst (λ (ps : List Tagged). Applies plan.drops plan.adds ps new) same
    (subst (λ (drops : List Tagged). Applies drops plan.adds c.in_ok-pairs.pairs.pairs new) c.in_ok-cut.ensures.drops
    (subst (λ (adds : List Tagged). Applies cut.drops.items adds c.in_ok-pairs.pairs.pairs new) c.in_ok-cut.ensures.adds
    (subst (λ (ps : List Tagged). Applies cut.drops.items cut.adds.items ps new) c.prepare.ensures.pairs c.apply.ensures))) in
    let after : Released = record { clock = plan.clock; pairs = c.apply.new.self; entries = plan.entries; ranges = plan.ranges; left = left } in
    released_from c.args.base.now.ticks pairs held c.in_ok-plan.plan plan after c.requires.ascending c.requires.covered c.in_ok-plan.ensures.nothing
    (subst (λ (ps : List Tagged). PlansReleases ps c.in_ok-plan.plan held plan (left_of left held)) same c.in_ok-left.ensures) applies refl refl refl
