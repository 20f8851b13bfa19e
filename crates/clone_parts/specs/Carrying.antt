-- Entries that messages carry. `unknown_by` cites it.
use Rattle.std.specs.Prelude.{◌≡◌, ℕ, List, map}
use Rattle.mld_ops.specs.declared.messages.Message.{Message}
use Rattle.mld_ops.specs.Entry.{EntryValue}
use Rattle.mld_ops.specs.Messages.{CarriesEntry, message_value}
use Rattle.mld_ops.specs.Picking.{DropsThose}
use Rattle.mld_ops.specs.Ready.{IsKnownEntry}

-- the messages carry these entries, in order
abbrev pub Carry : List Message → List EntryValue → Type 0
Carry messages entries = map message_value messages ≡ map CarriesEntry entries

-- the messages carry those of the entries that aren't known by these ticks
abbrev pub CarryUnknown : List (List ℕ × ℕ) → List EntryValue → List Message → Type 0
CarryUnknown ticks entries messages = (unknown : List EntryValue) × DropsThose (IsKnownEntry ticks) entries unknown × Carry messages unknown
