use Rattle.std.proofs.Common.{◌≡◌, rules}
use Rattle.std.proofs.lemmas.Iterator.{cases_from_any, YieldsList-from_slice}
use Rattle.mld_ops.specs.Entry.{EntryValue}
use Rattle.causal_buffer.proofs.Places.{held_from_search}
use Rattle.causal_buffer.proofs.held.is_held.Goals as goal

pub returns : goal.returns
returns c =
    let es = c.args.entries.now in
    let range = c.args.range.now in
    held_from_search es range c.any.result
    (cases_from_any _ _ _ (λ (entry : EntryValue). entry.range ≡ range) (λ (entry : EntryValue). ¬ (entry.range ≡ range)) c.any.ensures.ran (YieldsList-from_slice es cc) (λ x q k. search rules) (λ x q k. search rules))
