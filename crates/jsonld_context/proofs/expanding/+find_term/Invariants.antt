use Rattle.std.proofs.Common.{length}
use Rattle.jsonld_context.proofs.expanding.+find_term.Given as goal

-- proposed from what the function passes where it calls itself
abbrev pub decreases-find_term : goal.decreases-find_term
decreases-find_term l = length l.terms.now
