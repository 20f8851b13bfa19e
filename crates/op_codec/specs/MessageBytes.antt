-- Messages as bytes: the kind in one byte, and what the message carries.
use Rattle.std.specs.Prelude.{ℕ, ◌==◌, List, ◌∷◌, ◌++◌, Some, if◌then◌else◌}
use Rattle.mld_ops.specs.Messages.{SnapshotValue, GiveValue, MessageValue, CarriesEntry, CarriesWant, CarriesSnapshot, CarriesAsk, CarriesGive}
use Rattle.op_codec.specs.Clocks.{clock_bytes, read_clock}
use Rattle.op_codec.specs.Entries.{entry_bytes, read_entry}
use Rattle.op_codec.specs.PairBytes.{pairs_bytes, read_pairs}
use Rattle.op_codec.specs.Paths.{path_bytes, read_path}
use Rattle.op_codec.specs.Reading.{Reading, Found, Fault, chain, read_u8, read_piece}

-- the kind of a message that carries an entry
abbrev pub entry_kind : ℕ
entry_kind = 1

-- the kind of a question for what one lacks
abbrev pub want_kind : ℕ
want_kind = 2

-- the kind of a message that carries a snapshot
abbrev pub snapshot_kind : ℕ
snapshot_kind = 3

-- the kind of a question for a leaf
abbrev pub ask_kind : ℕ
ask_kind = 4

-- the kind of a message that gives a leaf
abbrev pub give_kind : ℕ
give_kind = 5

-- the bytes of an id
abbrev pub id_size : ℕ
id_size = 16

-- a snapshot as it is written: its clock and its pairs
abbrev pub snapshot_bytes : SnapshotValue → List ℕ
snapshot_bytes snapshot = clock_bytes snapshot.ticks ++ pairs_bytes snapshot.pairs

-- a snapshot, whose clock covers its pairs
unfoldable pub read_snapshot : ℕ → List ℕ → Reading SnapshotValue
read_snapshot place bytes =
    chain (read_clock place bytes) (λ ticks next rest.
    chain (read_pairs (Some ticks) next rest) (λ pairs end left. Found (record { ticks = ticks; pairs = pairs }) end left))

-- a leaf that is given as it is written: the id, the path and the snapshot
abbrev pub give_bytes : GiveValue → List ℕ
give_bytes give = give.id ++ (path_bytes give.path ++ snapshot_bytes give.snapshot)

-- a leaf that is given
unfoldable pub read_give : ℕ → List ℕ → Reading GiveValue
read_give place bytes =
    chain (read_piece id_size place bytes) (λ id at rest.
    chain (read_path at rest) (λ path next more.
    chain (read_snapshot next more) (λ snapshot end left. Found (record { id = id; path = path; snapshot = snapshot }) end left)))

-- a message as it is written
unfoldable pub message_bytes : MessageValue → List ℕ
message_bytes (CarriesEntry entry) = entry_kind ∷ entry_bytes entry
message_bytes (CarriesWant ticks) = want_kind ∷ clock_bytes ticks
message_bytes (CarriesSnapshot snapshot) = snapshot_kind ∷ snapshot_bytes snapshot
message_bytes (CarriesAsk id) = ask_kind ∷ id
message_bytes (CarriesGive give) = give_kind ∷ give_bytes give

-- what a message of a kind carries; another kind is a fault where the message begins
unfoldable pub read_carried : ℕ → ℕ → ℕ → List ℕ → Reading MessageValue
read_carried place kind next rest =
    if kind == entry_kind then chain (read_entry next rest) (λ entry end left. Found (CarriesEntry entry) end left)
    else (if kind == want_kind then chain (read_clock next rest) (λ ticks end left. Found (CarriesWant ticks) end left)
    else (if kind == snapshot_kind then chain (read_snapshot next rest) (λ snapshot end left. Found (CarriesSnapshot snapshot) end left)
    else (if kind == ask_kind then chain (read_piece id_size next rest) (λ id end left. Found (CarriesAsk id) end left)
    else (if kind == give_kind then chain (read_give next rest) (λ give end left. Found (CarriesGive give) end left)
    else Fault place))))

-- a message
unfoldable pub read_message : ℕ → List ℕ → Reading MessageValue
read_message place bytes = chain (read_u8 place bytes) (λ kind next rest. read_carried place kind next rest)
