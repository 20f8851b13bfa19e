-- The entry is ready where just the head is kept.
use Rattle.std.proofs.Common.{sym, subst}
use Rattle.journal_sides.specs.Pairs.{Kept}
use Rattle.journal_store.specs.Calls.{MayAppend}
use Rattle.clone_tests.proofs.journal_calls.append_and_swap.Goals as goal

pub append_entry-requires-clause-follows : goal.append_entry-requires-clause-follows
append_entry-requires-clause-follows c kept by = subst (λ (k : Kept). MayAppend c.args.entry.now k) (sym (c.requires.made kept by)) c.requires.ready
