-- What a clone answers to a want: what is lacked of its journal, or a snapshot.
use Rattle.std.proofs.Common.{◌≡◌, ◌≢◌, ℕ, List, [], ◌∷◌, Result, Ok, Err, IfOk, refl, sym, subst, inl, inr}
use Rattle.tree_clock.specs.declared.dots.Dot.{Dot}
use Rattle.tree_clock.specs.Clock.{Covers}
use Rattle.tree_clock.specs.Lists.{Has}
use Rattle.mld_ops.specs.declared.messages.Message.{Message}
use Rattle.mld_ops.specs.declared.messages.Message.TheVariants as message
use Rattle.mld_ops.specs.declared.messages.Snapshot.{Snapshot}
use Rattle.mld_ops.specs.Entry.{EntryValue}
use Rattle.mld_ops.specs.Messages.{snapshot_value, message_value, IsGoodSnapshot, IsGoodMessage}
use Rattle.mld_ops.specs.Picking.{DropsThose}
use Rattle.mld_ops.specs.Ready.{IsKnownEntry}
use Rattle.mld_model.specs.Local.{LocalClone, IsLocal, snapshot_of}
use Rattle.clone_parts.specs.Carrying.{Carry, CarryUnknown}
use Rattle.clone_core.specs.Joining.{AreGood}
use Rattle.clone_core.specs.Wants.{sends_entries, sends_snapshot, AnswersWant, SendsWhole}
use Rattle.clone_parts.specs.declared.answers.Got.{Got}
use Rattle.clone_parts.specs.declared.answers.Got.TheVariants as got
use Rattle.clone_core.proofs.Joining.{has_good}

-- the member of a list of one
only : {X : Type 0} (x y : X) → Has (x ∷ []) y → x ≡ y
only x y (inl e) = e
only x y (inr none) = absurd none

-- a snapshot of all that a clone knows and has is good, and so is the message that carries it
pub whole_good : (clone : LocalClone) (snapshot : Snapshot) (messages : List Message) → IsLocal clone → snapshot_value snapshot ≡ snapshot_of clone
    → messages ≡ message.Snapshot snapshot ∷ [] → AreGood messages
whole_good clone snapshot messages local whole is sent has =
    subst (λ (one : Message). IsGoodMessage (message_value one)) (only (message.Snapshot snapshot) sent (subst (λ (ms : List Message). Has ms sent) is has))
    (subst IsGoodSnapshot (sym whole) (has_good clone local))

-- one who lacks a dot of the base is answered by a snapshot
pub behind_answers : (clone : LocalClone) (ticks : List (List ℕ × ℕ)) (answer : Got) → ¬ ((dot : Dot) → Covers clone.base dot → Covers ticks dot)
    → SendsWhole clone answer → AnswersWant clone ticks answer clone
behind_answers clone ticks (got.Answer messages) behind (snapshot, whole, is) = (sends_snapshot snapshot (record { behind = behind; whole = whole }) is, refl)
behind_answers clone ticks (got.Took ranges) behind none = absurd none
behind_answers clone ticks (got.Merged ranges) behind none = absurd none
behind_answers clone ticks got.Held behind none = absurd none
behind_answers clone ticks got.Known behind none = absurd none
behind_answers clone ticks got.Nothing behind none = absurd none
behind_answers clone ticks got.Ignored behind none = absurd none

pub result_behind : {E : Type 0} (clone : LocalClone) (ticks : List (List ℕ × ℕ)) (result : Result Got E) → ¬ ((dot : Dot) → Covers clone.base dot → Covers ticks dot)
    → IfOk result (SendsWhole clone) → IfOk result (λ answer. AnswersWant clone ticks answer clone)
result_behind clone ticks (Ok answer) behind sends = behind_answers clone ticks answer behind sends
result_behind clone ticks (Err fault) behind sends = tt

none_carried : (messages : List Message) → Carry messages [] → messages ≡ []
none_carried [] carry = refl
none_carried (one ∷ messages) carry = absurd cc

-- one who knows the base is answered by the entries that it lacks
pub lacked_answers : (clone : LocalClone) (ticks : List (List ℕ × ℕ)) (entries : List EntryValue) (messages sent : List Message)
    → ((dot : Dot) → Covers clone.base dot → Covers ticks dot) → entries ≡ clone.entries → CarryUnknown ticks entries messages → messages ≢ [] → sent ≡ messages
    → AnswersWant clone ticks (got.Answer sent) clone
lacked_answers clone ticks entries messages sent base are (unknown, drops, carry) some is = (
  sends_entries unknown (record { base = base; unknown = subst (λ (es : List EntryValue). DropsThose (IsKnownEntry ticks) es unknown) are drops }) (λ none. some (none_carried messages (subst (Carry messages) none carry))) (subst (λ (ms : List Message). Carry ms unknown) (sym is) carry),
  refl,
)
