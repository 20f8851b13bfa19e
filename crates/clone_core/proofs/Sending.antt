-- The messages of a clone that answers a want are good.
use Rattle.std.proofs.Common.{◌≡◌, List, [], ◌∷◌, inl, inr, sym, subst}
use Rattle.mld_ops.specs.declared.messages.Message.{Message}
use Rattle.mld_ops.specs.Entry.{EntryValue}
use Rattle.mld_ops.specs.Messages.{CarriesEntry, IsGoodMessage, message_value}
use Rattle.clone_parts.specs.Carrying.{Carry}
use Rattle.clone_core.specs.Joining.{AreGood}

first_carries : (one : Message) (messages : List Message) (entry : EntryValue) (entries : List EntryValue) → Carry (one ∷ messages) (entry ∷ entries)
    → message_value one ≡ CarriesEntry entry
first_carries one messages entry entries same = cc

rest_carry : (one : Message) (messages : List Message) (entry : EntryValue) (entries : List EntryValue) → Carry (one ∷ messages) (entry ∷ entries) → Carry messages entries
rest_carry one messages entry entries same = cc

none_carries : (one : Message) (messages : List Message) → ¬ Carry (one ∷ messages) []
none_carries one messages same = cc

-- messages that carry entries are good
pub carry_good : (messages : List Message) (entries : List EntryValue) → Carry messages entries → AreGood messages
carry_good [] entries carry sent h = absurd h
carry_good (one ∷ messages) [] carry sent h = absurd (none_carries one messages carry)
carry_good (one ∷ messages) (entry ∷ entries) carry sent (inl same) =
    subst (λ (m : Message). IsGoodMessage (message_value m)) same
    (subst IsGoodMessage (sym (first_carries one messages entry entries carry)) tt)
carry_good (one ∷ messages) (entry ∷ entries) carry sent (inr h) = carry_good messages entries (rest_carry one messages entry entries carry) sent h
