use Rattle.std.proofs.Common.{rules, ◌≡◌, List, ◌∙◌}
use Rattle.mld_ops.specs.declared.tagged.Tagged.{Tagged}
use Rattle.shared_reads.specs.declared.marks.Change.{Change}
use Rattle.shared_reads.specs.HistoryRule.{change_of}
use Rattle.shared_reads.specs.PairChanges.{after}
use Rattle.shared_reads.proofs.ChangeLaws.{applies_after}
use Rattle.shared_reads.proofs.copies.do_cut.Goals as goal

pub returns-clause-ok : goal.returns-clause-ok
returns-clause-ok c =
    let drops : c.in_ok-copy_pairs.field-0.items ≡ c.args.cut.now.drops.items = search rules in
    let adds : c.in_ok-copy_pairs-2.field-0.items ≡ c.args.cut.now.adds.items = search rules in
    let change : Change = record { drops = c.in_ok-copy_pairs.field-0.items; adds = c.in_ok-copy_pairs-2.field-0.items } in
    let same : change ≡ change_of c.args.cut.now = λ i. record { drops = drops i; adds = adds i } in
    applies_after c.prepare.new.self.pairs change c.apply.new.self.pairs c.apply.ensures ∙ (λ i. after (c.prepare.ensures.pairs i) (same i))
