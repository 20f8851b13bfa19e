use Rattle.std.proofs.Common.{rules}
use Rattle.std.proofs.lemmas.Fn.{always_returns_same}
use Rattle.std.proofs.lemmas.List.Sorted.{ranks_by}
use Rattle.std.specs.Ordering.{is_lt}
use Rattle.jsonld_subjects.specs.SubjectWriting.{keyed_cmp}
use Rattle.jsonld_subjects.proofs.Runs.{keyed_total}
use Rattle.jsonld_subjects.proofs.writing.keyed_in_order.Goals as goal

pub returns-clause-sorted : goal.returns-clause-sorted
returns-clause-sorted c =
    c.sort_unstable_by.ensures.sorted (λ a b. is_lt (keyed_cmp a b)) (ranks_by keyed_total (λ keyed. keyed)) (always_returns_same _ _ _ (λ a r f k. search rules))
