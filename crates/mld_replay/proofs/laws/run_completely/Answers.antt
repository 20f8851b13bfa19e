use Rattle.mld_replay.proofs.CompletenessLemmas.{all_of_clauses}
use Rattle.mld_replay.proofs.laws.run_completely.Goals as goal

pub returns : goal.returns
returns g c = all_of_clauses _ _ (record {
  status = c.run.ensures.status;
  usage = c.run.ensures.usage;
  untouched = c.run.ensures.untouched;
  ends = c.run.ensures.ends;
  filled = c.run.ensures.filled;
  back = c.run.ensures.back;
  silent = c.run.ensures.silent;
  counts = c.run.ensures.counts;
  exact = c.run.ensures.exact;
  generated = c.run.ensures.generated;
})
