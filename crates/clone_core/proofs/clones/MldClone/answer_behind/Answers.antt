use Rattle.std.proofs.Common.{◌∙◌, ◌++◌, ◌∷◌, [], List, ap}
use Rattle.mld_ops.specs.declared.messages.Message.{Message}
use Rattle.mld_ops.specs.declared.messages.Message.TheVariants as message
use Rattle.clone_core.proofs.Answering.{whole_good}
use Rattle.clone_core.proofs.clones.MldClone.answer_behind.Goals as goal

pub returns-clause-ok : goal.returns-clause-ok
returns-clause-ok g c =
    let snapshot = c.in_ok-snapshot.field-0 in (
      snapshot,
      c.in_ok-snapshot.ensures.copy,
      c.from_vec.ensures ∙ c.push_reserved.ensures.items ∙ ap (λ (ms : List Message). ms ++ message.Snapshot snapshot ∷ []) c.in_ok-messages.ensures.items,
    )

pub returns-clause-good : goal.returns-clause-good
returns-clause-good g c =
    let snapshot = c.in_ok-snapshot.field-0 in
    whole_good c.args.self.now.local snapshot c.from_vec.result c.in_ok-snapshot.ensures.local c.in_ok-snapshot.ensures.copy
    (c.from_vec.ensures ∙ c.push_reserved.ensures.items ∙ ap (λ (ms : List Message). ms ++ message.Snapshot snapshot ∷ []) c.in_ok-messages.ensures.items)
