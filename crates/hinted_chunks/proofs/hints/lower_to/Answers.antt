use Rattle.std.proofs.Common.{arith}
use Rattle.hinted_chunks.proofs.Sharing.{shared_lower}
use Rattle.hinted_chunks.proofs.hints.lower_to.Goals as goal

pub renew-requires-clause-shared : goal.renew-requires-clause-shared
renew-requires-clause-shared g c =
    shared_lower g.T.Keyed.key c.args.shared c.args.hints.now.mark c.args.elements.now (omega (arith, c.if-shared-hints.true)) c.requires.is.shared
