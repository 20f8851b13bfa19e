use Rattle.std.proofs.Common.{◌≡◌, ◌<◌, [], List, length, inl, refl, ap, arith}
use Rattle.mld_ops.specs.Entry.{EntryValue}
use Rattle.clone_core.proofs.DurableLaws.{changes_none}
use Rattle.clone_core.proofs.clones.MldClone.truncate.Goals as goal

pub returns-in-Some-clause-durable : goal.returns-in-Some-clause-durable
returns-in-Some-clause-durable g c = ([], refl, changes_none g.B.Banks.log g.B.Banks.meter c.args.self.now c.args.self.now.banks refl (λ f. absurd cc))

pub returns-then-count-keep-clause-durable : goal.returns-then-count-keep-clause-durable
returns-then-count-keep-clause-durable g c =
    let few = c.if-count-keep.true in
    let same : length c.journal-count.result.now ≡ length c.args.self.now.local.entries = ap (λ (es : List EntryValue). length es) c.journal-count.ensures in
    let none : ¬ (c.args.keep < length c.args.self.now.local.entries) = λ more. omega (arith, few, same, more) in (
      [],
      inl (none, refl),
      changes_none g.B.Banks.log g.B.Banks.meter c.args.self.now c.args.self.now.banks refl (λ f. absurd cc),
    )

pub returns-then-is_last_generation-clause-durable : goal.returns-then-is_last_generation-clause-durable
returns-then-is_last_generation-clause-durable g c = ([], refl, changes_none g.B.Banks.log g.B.Banks.meter c.args.self.now c.args.self.now.banks refl (λ f. absurd cc))
