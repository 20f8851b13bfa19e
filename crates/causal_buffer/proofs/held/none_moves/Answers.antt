use Rattle.std.proofs.Common.{sym, ◌∙◌}
use Rattle.std.proofs.lemmas.Bool.{false≢true}
use Rattle.mld_ops.specs.Ready.{IsKnownEntry, IsReadyEntry}
use Rattle.causal_buffer.proofs.Places.{none_fails, none_more}
use Rattle.causal_buffer.proofs.held.none_moves.Goals as goal
use Rattle.causal_buffer.proofs.held.none_moves.Goals.{then-is_known-via-then-is_known, then-is_known-via-else-is_known+then-is_ready}

pub returns-then-is_known : goal.returns-then-is_known
returns-then-is_known c =
    let es = c.args.entries.now in
    let i = c.loop-entry.entry-index in
    let known = c.args.known.now.ticks in (
      λ t. absurd (false≢true t),
      λ none. elim c.then-is_known.branch [
        | then-is_known-via-then-is_known w ↦ absurd (none_fails (IsKnownEntry known) es i c.entry-item.result c.loop-entry-test.true c.entry-item.is (c.is_known.ensures.0 w.if-is_known.true) none.0)
        | then-is_known-via-else-is_known+then-is_ready w ↦ absurd (none_fails (IsReadyEntry known) es i c.entry-item.result c.loop-entry-test.true c.entry-item.is (w.is_ready.ensures.0 w.if-is_ready.true) none.1)
      ],
    )

pub loop-entry-preserved : goal.loop-entry-preserved
loop-entry-preserved c =
    let es = c.args.entries.now in
    let i = c.loop-entry.entry-index in
    let known = c.args.known.now.ticks in (
      none_more (IsKnownEntry known) es i c.entry-item.result c.loop-entry-test.true c.entry-item.is c.loop-entry.invariant.0 (λ k. false≢true (sym c.if-is_known.false ∙ c.is_known.ensures.1 k)),
      none_more (IsReadyEntry known) es i c.entry-item.result c.loop-entry-test.true c.entry-item.is c.loop-entry.invariant.1 (λ k. false≢true (sym c.if-is_ready.false ∙ c.is_ready.ensures.1 k)),
    )
