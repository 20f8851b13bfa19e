use Rattle.clone_parts.proofs.merges.prepare_merge.Goals as goal

pub release_from-requires-clause-ascending : goal.release_from-requires-clause-ascending
release_from-requires-clause-ascending c = c.in_ok-base.ensures.joined.pairs.ascending

pub returns : goal.returns
returns c = record {
  clock = c.in_ok-after.ensures.clock;
  joined = c.in_ok-base.ensures.joined;
  base_covered = c.in_ok-base.ensures.covered;
  released = c.in_ok-after.ensures.released;
}
