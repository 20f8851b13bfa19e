use Rattle.std.proofs.Common.{◌≡◌, ◌∙◌, [], List, length, true, false, inl, refl, sym, ap, subst}
use Rattle.mld_ops.specs.Entry.{EntryValue}
use Rattle.op_fusion.specs.Compacting.{HasNeighbours}
use Rattle.clone_core.specs.Keeping.{nothing_to_fuse}
use Rattle.clone_core.proofs.DurableLaws.{changes_none}
use Rattle.clone_core.proofs.FusedRuns.{unfused}
use Rattle.clone_core.proofs.clones.MldClone.compact.Goals as goal

pub returns-in-Some-clause-durable : goal.returns-in-Some-clause-durable
returns-in-Some-clause-durable g c = ([], refl, changes_none g.B.Banks.log g.B.Banks.meter c.args.self.now c.args.self.now.banks refl (λ f. absurd cc))

pub returns-then-not-has_neighbours-clause-ok : goal.returns-then-not-has_neighbours-clause-ok
returns-then-not-has_neighbours-clause-ok g c = (
  nothing_to_fuse (unfused c.args.self.now.local.entries (λ has.
      let no : false ≡ true = sym c.if-not-has_neighbours.true ∙ c.has_neighbours.ensures.1 (subst HasNeighbours (sym c.journal.ensures) has) in
      cc)) refl,
  ap (λ (es : List EntryValue). length es) c.journal-then-not-has_neighbours.ensures,
)

pub returns-then-not-has_neighbours-clause-durable : goal.returns-then-not-has_neighbours-clause-durable
returns-then-not-has_neighbours-clause-durable g c = (
  [],
  inl (
    λ has.
        let no : false ≡ true = sym c.if-not-has_neighbours.true ∙ c.has_neighbours.ensures.1 (subst HasNeighbours (sym c.journal.ensures) has) in
        cc,
    refl,
  ),
  changes_none g.B.Banks.log g.B.Banks.meter c.args.self.now c.args.self.now.banks refl (λ f. absurd cc),
)

pub returns-then-is_last_generation-clause-durable : goal.returns-then-is_last_generation-clause-durable
returns-then-is_last_generation-clause-durable g c = ([], refl, changes_none g.B.Banks.log g.B.Banks.meter c.args.self.now c.args.self.now.banks refl (λ f. absurd cc))
