use Rattle.std.proofs.Common.{◌∙◌, ◌++◌, ◌∷◌, [], None, refl, ap}
use Rattle.tree_clock.specs.Clock.{ticks_of}
use Rattle.tree_clock.specs.declared.dots.Range.{Range}
use Rattle.mld_ops.specs.Entry.{EntryValue}
use Rattle.clone_parts.specs.declared.plans.Growing.{Growing}
use Rattle.clone_parts.proofs.Planning.{cuts_behind_nothing, plan_from, plans_more, plans_none}
use Rattle.clone_parts.proofs.plans.plan_alone.Goals as goal

pub returns : goal.returns
returns c = λ held known ready.
    let ticks = c.args.clock.now.ticks in
    let pairs = c.args.pairs.now.pairs in
    let entry = c.args.entry.now in
    let cut = c.in_ok-cut.cut in
    let empty : Growing = record { clock = c.args.clock.now; entries = c.in_ok-entries.entries; ranges = c.new-ranges.result; drops = []; adds = [] } in
    let one : Growing = record { clock = c.args.after; entries = c.push_reserved.new.self; ranges = c.push.new.self; drops = cut.drops.items; adds = cut.adds.items } in
    plan_from ticks pairs held entry empty one one None cut c.requires.pairs
    (record { clock = refl; entries = c.in_ok-entries.ensures.items; drops = refl; adds = refl; ranges = c.new-ranges.ensures })
    (plans_more pairs empty one entry c.range.ensures.entry c.requires.ready c.requires.raised
    (cuts_behind_nothing entry (ticks_of ticks entry.range.path) pairs cut.drops.items cut.adds.items c.in_ok-cut.ensures)
    (c.push_reserved.ensures.items ∙ ap (λ (e : EntryValue). c.in_ok-entries.entries.items ++ e ∷ []) c.in_ok-copy_in.ensures)
    (c.in_ok-push.ensures.ok ∙ ap (λ (r : Range). c.new-ranges.result ++ r ∷ []) c.range.ensures.value))
    (plans_none pairs one held known ready) refl refl
