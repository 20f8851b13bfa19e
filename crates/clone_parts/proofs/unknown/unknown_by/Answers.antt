use Rattle.std.proofs.Common.{◌≡◌, ◌∙◌, ◌++◌, ◌∷◌, [], ◌+◌, List, true, false, sym, ap, subst, take, Vec, Global}
use Rattle.mld_ops.specs.declared.messages.Message.{Message}
use Rattle.mld_ops.specs.declared.messages.Message.TheVariants as message
use Rattle.mld_ops.specs.Entry.{EntryValue}
use Rattle.clone_parts.specs.Carrying.{CarryUnknown}
use Rattle.clone_parts.proofs.Carried.{carry_more, carry_same}
use Rattle.clone_parts.proofs.unknown.unknown_by.Goals.{then-not-is_known+in_ok-copy_in+in_ok-push, else-not-is_known}
use Rattle.clone_parts.proofs.unknown.unknown_by.Goals as goal

pub loop-entry-preserved : goal.loop-entry-preserved
loop-entry-preserved c =
    let entries = c.args.entries.now in
    let known = c.args.known.now.ticks in
    let entry = c.entry-item.result in
    let begun = c.loop-entry.messages.items in
    let i = c.loop-entry.entry-index in
    elim c.if-not-is_known.branch [
      | then-not-is_known+in_ok-copy_in+in_ok-push w ↦
          let is = ap (λ (v : Vec Message Global). v.items) w.messages-is ∙ w.in_ok-push.ensures.items
          ∙ ap (λ (e : EntryValue). begun ++ message.Range e ∷ []) w.in_ok-copy_in.ensures in
          subst (λ (ms : List Message). CarryUnknown known (take (i + 1) entries) ms) (sym is)
          (carry_more known entries begun i entry c.loop-entry-test.true c.entry-item.is c.loop-entry.invariant
          (λ k. let no : false ≡ true = sym w.if-not-is_known.true ∙ c.is_known.ensures.1 k in cc))
      | else-not-is_known w ↦
          subst (λ (ms : List Message). CarryUnknown known (take (i + 1) entries) ms) (sym (ap (λ (v : Vec Message Global). v.items) w.messages-is))
          (carry_same known entries begun i entry c.loop-entry-test.true c.entry-item.is c.loop-entry.invariant (c.is_known.ensures.0 w.if-not-is_known.false))
    ]
