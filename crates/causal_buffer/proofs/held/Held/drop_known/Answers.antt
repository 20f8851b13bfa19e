use Rattle.std.proofs.Common.{List, subst, rules}
use Rattle.mld_ops.specs.Entry.{EntryValue}
use Rattle.mld_ops.specs.Picking.{DropsThose}
use Rattle.mld_ops.specs.Ready.{IsKnownEntry}
use Rattle.causal_buffer.proofs.Places.{drops_filtered}
use Rattle.causal_buffer.proofs.held.Held.drop_known.Goals as goal

pub returns : goal.returns
returns c =
    let known = c.args.known.now.ticks in
    subst (λ (xs : List EntryValue). DropsThose (IsKnownEntry known) xs c.retain.new.self.items) c.self.view_is
    (drops_filtered (IsKnownEntry known) _ _ (λ x b f k. (search rules, search rules, search rules)) c.self.inside.entries.items c.retain.new.self.items c.retain.ensures.filtered)
