use Rattle.std.proofs.Common.{take}
use Rattle.mld_ops.specs.declared.tagged.Tagged.{Tagged}
use Rattle.clone_history.specs.UndoParts.{AreTemplates}
use Rattle.clone_history.specs.Undoing.{IsPutBack}
use Rattle.clone_history.proofs.plans.put_back.Given as goal

abbrev pub invariant-loop-pair : goal.invariant-loop-pair
invariant-loop-pair l = AreTemplates (IsPutBack l.pairs.pairs) (λ (pair : Tagged). pair.triple) (take l.pair-index l.deletes) l.templates.items
