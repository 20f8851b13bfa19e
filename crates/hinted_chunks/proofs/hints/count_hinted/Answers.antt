use Rattle.std.proofs.Common.{rules}
use Rattle.std.proofs.lemmas.Fn.{always_returns_same}
use Rattle.hinted_chunks.proofs.hints.count_hinted.Goals as goal

pub returns-clause-place : goal.returns-clause-place
returns-clause-place g c h = c.partition_point.ensures.partitioned (g.B.Bound.before c.args.bound.now) (always_returns_same _ _ _ (λ a r f k. search rules)) h
